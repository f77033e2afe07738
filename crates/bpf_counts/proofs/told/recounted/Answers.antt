use Rattle.std.proofs.Common.{◌⊎◌, inl, inr}
use Rattle.bpf_counts.specs.Counted.{Full}
use Rattle.bpf_counts.proofs.told.recounted.Goals as goal

-- of two the second
second : {A B C : Type 0} → (B → C) → A ⊎ B → A ⊎ C
second f (inl a) = inl a
second f (inr b) = inr (f b)

pub returns-in-Ok-btf_with-clause-ok : goal.returns-in-Ok-btf_with-clause-ok
returns-in-Ok-btf_with-clause-ok c = record {
  walk = c.in-Ok.walk;
  walked = rw (c.types_of-types.ensures, c.strings_of-strings.ensures) at c.in-Ok.ensures.ok;
  made = rw (c.types_of-types.ensures, c.strings_of-strings.ensures) at c.in-Ok-btf_with.ensures.ok;
}

pub returns-in-Err-btf_with-clause-err : goal.returns-in-Err-btf_with-clause-err
returns-in-Err-btf_with-clause-err c =
    let walked = rw (c.types_of-types.ensures, c.strings_of-strings.ensures) at c.in-Ok.ensures.ok in
    second (λ many. Full c.in-Ok.walk walked many) (rw c.types_of-types.ensures at c.in-Err-btf_with.ensures.err)
