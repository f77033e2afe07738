use Rattle.std.proofs.Common.{◌≡◌, List, [], refl, subst, sym}
use Rattle.std.proofs.lemmas.List.{nil_from_length}
use Rattle.std.specs.Prelude.{Bool, None, Vec, ℕ}
use Rattle.std.specs.declared.alloc.Global.{Global}
use Rattle.bpf_load.specs.Targets.{JoinsTo, contents}
use Rattle.bpf_load.proofs.loading.joined_with.Goals as goal

-- with no others nothing is joined
alone : (own : List ℕ) (with : List (Vec ℕ Global)) (section : List ℕ) (as_compiled : Bool) → with ≡ [] → JoinsTo own (contents with) section as_compiled None
alone own with section as_compiled none = subst (λ (w : List (Vec ℕ Global)). JoinsTo own (contents w) section as_compiled None) (sym none) refl

pub returns-in-Ok-clause-ok : goal.returns-in-Ok-clause-ok
returns-in-Ok-clause-ok c = rw c.in-Some.ensures.cases.0 (rw c.as_slice.ensures.value at c.in-Ok.ensures.ok)

pub returns-in-Err-clause-err : goal.returns-in-Err-clause-err
returns-in-Err-clause-err c = rw c.in-Some.ensures.cases.0 (rw c.as_slice.ensures.value at c.in-Err.ensures.err)

pub returns-in-None-clause-ok : goal.returns-in-None-clause-ok
returns-in-None-clause-ok c =
    alone c.args.own.now c.args.target.now.with.now c.args.target.now.section.now c.args.target.now.as_compiled
    (nil_from_length c.args.target.now.with.now c.in-None.ensures.cases)
