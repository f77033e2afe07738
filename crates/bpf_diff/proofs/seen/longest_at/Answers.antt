use Rattle.std.proofs.Common.{None, Some, sym, ap, ◌∙◌}
use Rattle.bpf_diff.proofs.Leaving.{longest-of}
use Rattle.bpf_diff.proofs.seen.longest_at.Goals as goal

pub returns-in-Some-Some : goal.returns-in-Some-Some
returns-in-Some-Some c =
    longest-of c.args.maps.now c.args.others.now c.args.number (Some c.in-Some-Some.shape) (Some c.in-Some-Some.other) (sym c.in-Some-Some.is-0 ∙ c.shape.ensures) (sym c.in-Some-Some.is-1 ∙ c.shape-2.ensures)
    ∙ ap Some (sym c.longer.ensures)

pub returns-in-Some-None : goal.returns-in-Some-None
returns-in-Some-None c =
    longest-of c.args.maps.now c.args.others.now c.args.number (Some c.in-Some-None.shape) None (sym c.in-Some-None.is-0 ∙ c.shape.ensures) (sym c.in-Some-None.is-1 ∙ c.shape-2.ensures)

pub returns-in-None-Some : goal.returns-in-None-Some
returns-in-None-Some c =
    longest-of c.args.maps.now c.args.others.now c.args.number None (Some c.in-None-Some.other) (sym c.in-None-Some.is-0 ∙ c.shape.ensures) (sym c.in-None-Some.is-1 ∙ c.shape-2.ensures)
