use Rattle.std.proofs.Common.{◌<◌, ◌/◌, ◌∙◌, length, sym, arith}
use Rattle.std.proofs.lemmas.List.{get_or_default}
use Rattle.bpf_origin.proofs.Marking.{set_there, set_kept}
use Rattle.bpf_origin.proofs.marks.Marks.set.Goals as goal

pub returns-clause-set : goal.returns-clause-set
returns-clause-set c = set_there c.self.inside.words.items c.args.mark c.index_mut.result.now (omega (arith, c.self.invariant, c.requires))

pub returns-clause-kept : goal.returns-clause-kept
returns-clause-kept c = λ other was.
    let within : c.args.mark / 64 < length c.self.inside.words.items = omega (arith, c.self.invariant, c.requires) in
    set_kept c.self.inside.words.items c.args.mark c.index_mut.result.now other within
    (c.index_mut.ensures.value ∙ get_or_default c.self.inside.words.items (c.args.mark / 64) _ 0 within)
    (rw (sym c.self.view_is) at was)
