use Rattle.bpf_suite.proofs.verdict.put_expected.Goals as goal

pub returns : goal.returns
returns g c = λ first front known.
    rw (c.as_bytes-word.ensures.value, c.word.ensures, c.lead-blank.ensures, c.bytes-text.ensures) at
    (c.put_all.ensures first front known)
