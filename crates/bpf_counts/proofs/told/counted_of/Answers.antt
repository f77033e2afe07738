use Rattle.std.proofs.Common.{◌⊎◌, inl, inr, ◌∙◌, sym}
use Rattle.bpf_counts.proofs.told.counted_of.Goals as goal

-- of two the second
second : {A B C : Type 0} → (B → C) → A ⊎ B → A ⊎ C
second f (inl a) = inl a
second f (inr b) = inr (f b)

pub returns-in-Err-counted_in-clause-err : goal.returns-in-Err-counted_in-clause-err
returns-in-Err-counted_in-clause-err c =
    let opened = rw (c.given_or.ensures, c.first_name.ensures, c.as_slice.ensures.value, c.fault_names-names.ensures) at (sym c.planned.ensures ∙ c.in-Ok.is) in
    second (λ why. inr (c.in-Ok.plan, opened, why)) c.in-Err-counted_in.ensures.err
