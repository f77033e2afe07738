use Rattle.std.proofs.Common.{◌∙◌, sym}
use Rattle.bpf_origin.proofs.Marking.{one_unmarked}
use Rattle.bpf_origin.proofs.wanted.Wanted.is_in.Goals as goal

pub returns-else-has : goal.returns-else-has
returns-else-has c =
    c.if-has.false
    ∙ sym (one_unmarked c.self.inside.marks c.args.self.now c.args.place c.mark_of.result (rw c.self.view_is at c.self.invariant.marked) c.mark_of.ensures.value (sym c.has.ensures ∙ c.if-has.false))
