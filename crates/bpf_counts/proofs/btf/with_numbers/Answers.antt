use Rattle.bpf_counts.proofs.btf.with_numbers.Goals as goal

pub returns-clause-ok : goal.returns-clause-ok
returns-clause-ok c =
    let kind = rw c.number_words.ensures at c.in-Ok.ensures.ok in
    let key = rw (c.number_words-2.ensures, kind) at c.in-Ok-with_words.ensures.ok in
    let value = rw (c.number_words-3.ensures, key) at c.in-Ok-with_words-2.ensures.ok in
    rw (c.number_words-4.ensures, value) at c.with_words-4.ensures.ok
