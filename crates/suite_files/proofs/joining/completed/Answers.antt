use Rattle.std.proofs.Common.{List, ℕ, subst}
use Rattle.std.specs.Prelude.{IfOk, Result, Ok, Err, Vec}
use Rattle.std.specs.declared.alloc.Global.{Global}
use Rattle.bpf_load.specs.Targets.{contents}
use Rattle.suite_files.specs.Joining.{Suits}
use Rattle.suite_files.proofs.joining.completed.Goals as goal

-- what holds of a result, by what holds of it besides
on-ok : {A E : Type 0} (r : Result A E) (P Q : A → Type 0) → ((v : A) → P v → Q v) → IfOk r P → IfOk r Q
on-ok (Ok v) P Q f p = f v p
on-ok (Err e) P Q f p = tt

pub returns-in-Some : goal.returns-in-Some
returns-in-Some c =
    let suits =
    subst (λ (with : List (Vec ℕ Global)). Suits c.args.asked.now c.args.object.now (contents with) c.in-Some.library.now c.suits-is_wanted.result)
    c.as_slice.ensures.value c.suits-is_wanted.ensures in
    rw c.in-Some.is (on-ok c.joined_if.result _ _ (λ all same. (c.suits-is_wanted.result, suits, same)) c.joined_if.ensures)
