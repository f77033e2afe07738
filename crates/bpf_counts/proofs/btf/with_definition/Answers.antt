use Rattle.bpf_counts.proofs.btf.with_definition.Goals as goal

pub returns-in-Ok-with_words-clause-ok : goal.returns-in-Ok-with_words-clause-ok
returns-in-Ok-with_words-clause-ok c =
    let defined = rw (c.struct_words.ensures, c.in-Ok.ensures.ok) at c.in-Ok-with_words.ensures.ok in
    rw (c.variable_words.ensures, defined) at c.with_words-in-Ok-with_words.ensures.ok
