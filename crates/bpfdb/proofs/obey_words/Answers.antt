use Rattle.std.proofs.Common.{inl, inr}
use Rattle.bpfdb.proofs.obey_words.Goals as goal

-- What the plan says is said of the words, whose texts it was made of.
pub returns-in-Ok-clause-value : goal.returns-in-Ok-clause-value
returns-in-Ok-clause-value c = λ ended.
    let planned = rw (c.as_slice.ensures.value, c.in-Some.ensures) at c.in-Ok.ensures.value in
    inr (inl (c.in-Ok.plan, planned, c.do_over_streams-in-Ok.ensures.value ended))
