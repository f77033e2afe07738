use Rattle.std.proofs.Common.{◌∙◌, sym}
use Rattle.bpf_origin.specs.declared.place.Place.TheVariants as place
use Rattle.bpf_origin.proofs.Marking.{one_unmarked}
use Rattle.bpf_origin.proofs.wanted.Wanted.may_hold.Goals as goal

pub returns-in-Register : goal.returns-in-Register
returns-in-Register c = λ missing.
    rw c.in-Register.is (one_unmarked c.self.inside.marks c.args.self.now (place.Register c.in-Register.depth c.in-Register.number) c.mark_of.result (rw c.self.view_is at c.self.invariant.marked) c.mark_of.ensures.value (sym c.has.ensures ∙ missing))

pub returns-in-Word : goal.returns-in-Word
returns-in-Word c = λ missing.
    rw c.in-Word.is (one_unmarked c.self.inside.marks c.args.self.now (place.Word c.in-Word.index) c.mark_of-in-Word.result (rw c.self.view_is at c.self.invariant.marked) c.mark_of-in-Word.ensures.value (sym c.has-in-Word.ensures ∙ missing))
