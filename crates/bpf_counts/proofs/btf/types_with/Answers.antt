use Rattle.bpf_counts.proofs.btf.types_with.Goals as goal

pub returns-in-Ok-with_definition-clause-ok : goal.returns-in-Ok-with_definition-clause-ok
returns-in-Ok-with_definition-clause-ok c =
    let defined = rw c.in-Ok.ensures.items at c.in-Ok-with_definition.ensures.ok in
    rw (c.listed_at-listed.ensures.value, defined) at c.with_section.ensures.ok
