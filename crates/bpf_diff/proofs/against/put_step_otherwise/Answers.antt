use Rattle.std.proofs.Common.{refl, sym}
use Rattle.std.proofs.lemmas.List.{append-nil}
use Rattle.counted_io.proofs.Appending.{WritesAfter-WritesAfter}
use Rattle.bpf_diff.proofs.against.put_step_otherwise.Goals as goal

pub returns-in-None : goal.returns-in-None
returns-in-None g c = λ before x t.
    rw c.in-None.is
    (WritesAfter-WritesAfter g.W.Write.contents _ _ _ _ _ _ _ _ _ c.put_heading-headed.ensures (c.put_step_here.ensures x t) refl)

pub returns-in-Some : goal.returns-in-Some
returns-in-Some g c = λ before x t.
    let two = WritesAfter-WritesAfter g.W.Write.contents _ _ _ _ _ _ _ _ _ c.put_heading-begun.ensures (c.put_step_here-half.ensures x t) refl in
    rw c.in-Some.is
    (WritesAfter-WritesAfter g.W.Write.contents _ _ _ _ _ _ _ _ _ two c.put_there.ensures (sym (append-nil _)))
