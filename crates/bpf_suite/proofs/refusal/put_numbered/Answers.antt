use Rattle.bpf_suite.proofs.refusal.put_numbered.Goals as goal

pub returns-in-Some : goal.returns-in-Some
returns-in-Some g c = λ first front known.
    rw c.in-Some.is (rw (c.from-number.ensures, c.as_bytes-text.ensures.value) at (c.put_all.ensures first front known))

pub returns-in-None : goal.returns-in-None
returns-in-None g c = λ first front known.
    rw c.in-None.is (rw (c.from-number.ensures, c.as_bytes-text.ensures.value) at (c.put_all-in-None.ensures first front known))
