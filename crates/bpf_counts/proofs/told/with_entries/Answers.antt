use Rattle.std.proofs.Common.{◌⊎◌, inl, inr}
use Rattle.bpf_counts.specs.Counted.{NoRoom, Unmade, Unread}
use Rattle.bpf_counts.proofs.told.with_entries.Goals as goal

-- of two the second
second : {A B C : Type 0} → (B → C) → A ⊎ B → A ⊎ C
second f (inl a) = inl a
second f (inr b) = inr (f b)

pub returns-in-Err-clause-err : goal.returns-in-Err-clause-err
returns-in-Err-clause-err c =
    second (Unread c.args.i c.requires.types) (rw (c.section_bytes-btf.ensures, c.section.ensures, c.bytes-bytes.ensures) at c.in-Err.ensures.err)

pub returns-in-Err-recounted-clause-err : goal.returns-in-Err-recounted-clause-err
returns-in-Err-recounted-clause-err c =
    let described = rw (c.section_bytes-btf.ensures, c.section.ensures) at c.in-Ok.ensures.ok in
    second (λ why. Unmade c.args.i c.requires.types c.in-Ok.said described why)
    (rw (c.section_bytes-btf.ensures, c.section.ensures) at c.in-Err-recounted.ensures.err)

pub returns-clause-err : goal.returns-clause-err
returns-clause-err c =
    let described = rw (c.section_bytes-btf.ensures, c.section.ensures) at c.in-Ok.ensures.ok in
    let recounted = rw (c.section_bytes-btf.ensures, c.section.ensures) at c.in-Ok-recounted.ensures.ok in
    second (λ e. NoRoom c.args.i c.requires.types c.in-Ok.said described c.in-Ok-recounted.new.items recounted e)
    (rw (c.as_slice.ensures.value, c.bytes-bytes.ensures) at c.in-Err-replaced.ensures.err)
