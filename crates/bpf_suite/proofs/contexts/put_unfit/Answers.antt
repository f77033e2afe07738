use Rattle.std.proofs.Common.{append_assoc, sym}
use Rattle.bpf_suite.proofs.contexts.put_unfit.Goals as goal

pub returns-then-fits : goal.returns-then-fits
returns-then-fits g c = λ first front known. rw (sym c.if-fits.ensures) (c.put.ensures first front known)

pub returns : goal.returns
returns g c = λ first front known.
    let told = rw c.fitting-place.ensures.value at (c.put_byte-told.ensures first front known) in
    rw (sym c.if-fits.ensures) (simp append_assoc (simp append_assoc at (c.put_length.ensures first _ told)))
