use Rattle.std.proofs.Common.{◌∙◌}
use Rattle.bpf_whynot.proofs.Making.{flags_more, found_more}
use Rattle.bpf_whynot.proofs.goals.flag_makers.Goals as goal

pub loop-slot-preserved : goal.loop-slot-preserved
loop-slot-preserved c =
    let l = c.loop-slot in
    let made = c.flag_maker-made in
    record {
      found = c.either-found.ensures ∙ found_more c.args.program.now c.args.maker l.slot made.result made.ensures.value l.found l.invariant.found;
      flags = flags_more c.args.program.now c.args.maker l.slot made.result made.ensures.value _ (made.ensures.flags _ l.invariant.flags);
    }
