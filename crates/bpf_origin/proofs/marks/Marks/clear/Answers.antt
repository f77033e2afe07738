use Rattle.std.proofs.Common.{sym, arith}
use Rattle.bpf_origin.proofs.Marking.{cleared_kept}
use Rattle.bpf_origin.proofs.marks.Marks.clear.Goals as goal

pub returns-clause-kept : goal.returns-clause-kept
returns-clause-kept c = λ other was.
    cleared_kept c.self.inside.words.items c.args.mark other (omega (arith, c.self.invariant, c.requires)) (rw (sym c.self.view_is) at was)
