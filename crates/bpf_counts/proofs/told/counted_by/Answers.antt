use Rattle.std.proofs.Common.{◌≡◌, ◌⊎◌, ◌∙◌, inl, inr, List, ℕ, Result, Ok, Err, subst, sym}
use Rattle.std.specs.Prelude.{IfErr, Option, Some}
use Rattle.bpf_link.specs.declared.fault.LinkFault.{LinkFault}
use Rattle.bpf_link.specs.declared.fault.LinkFault.TheVariants.{Memory}
use Rattle.bpf_counts.specs.Counted.{IsUncountedOf}
use Rattle.bpf_counts.proofs.told.counted_by.Goals as goal

-- what isn't made of a number that a text says isn't made of the text
of_text : {A : Type 0} (bytes section name : List ℕ) (said told : Option ℕ) (r : Result A LinkFault) → told ≡ said
    → IfErr r (λ fault. (fault ≡ Memory) ⊎ IsUncountedOf bytes section name told fault)
    → IfErr r (λ fault. (fault ≡ Memory) ⊎ IsUncountedOf bytes section name said fault)
of_text bytes section name said told r same why =
    subst (λ (o : Option ℕ). IfErr r (λ fault. (fault ≡ Memory) ⊎ IsUncountedOf bytes section name o fault)) same why

pub returns-in-Some-clause-err : goal.returns-in-Some-clause-err
returns-in-Some-clause-err c =
    of_text c.args.bytes.now c.args.section.now _ _ (Some c.in-Some.count) c.counted_of.result (sym c.in-Some.is ∙ c.count_in.ensures)
    (rw c.map_in.ensures at c.counted_of.ensures.err)
