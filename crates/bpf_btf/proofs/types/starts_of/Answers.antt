use Rattle.std.proofs.Common.{◌≡◌, [], ◌∷◌, ◌++◌, rules, tests}
use Rattle.bpf_btf.proofs.Walks.{next_place, next_places, next_whole}
use Rattle.bpf_btf.proofs.types.starts_of.Goals as goal

pub loop-at-preserved : goal.loop-at-preserved
loop-at-preserved c =
    let known = c.loop-at.invariant in
    let pushed : c.push.new.self.items ≡ c.loop-at.starts.items ++ c.loop-at.at ∷ [] = search (rules, tests) in
    record {
      inside = c.in-Ok.ensures.within.1;
      place = next_place c.args.types.now c.loop-at.starts.items c.push.new.self.items c.loop-at.at c.in-Ok.next known.place c.in-Ok.ensures.ok.1 pushed;
      starts = next_places c.args.types.now c.loop-at.starts.items c.push.new.self.items c.loop-at.at known.place known.starts pushed;
      whole = next_whole c.args.types.now c.loop-at.starts.items c.push.new.self.items c.loop-at.at known.place known.whole c.in-Ok.ensures.ok.0 pushed;
    }
