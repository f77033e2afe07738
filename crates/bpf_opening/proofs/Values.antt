-- Values of registers, one more after the other, and the edit that puts one in.
use Rattle.std.proofs.Common.{◌≡◌, ◌<◌, ◌≤◌, ◌+◌, Bool, true, false, ℕ, suc, take, get_or, List, [], ◌∷◌, ◌++◌, Option, Some, None, Result, Ok, Err, length, refl, sym, ap, ◌∙◌, arith}
use Rattle.std.specs.Prelude.{OnOk, IfErr, unwrap_or, nat_lt, slice_set}
use Rattle.std.proofs.lemmas.Bool.Decides.{nat_tests}
use Rattle.std.proofs.lemmas.List.{length-take-le, take_more}
use Rattle.bpf_entries.specs.declared.entry.Entry.{Entry}
use Rattle.bpf_machine.specs.Edits.{RefusesEdit, edited, unless}
use Rattle.bpf_machine.specs.declared.edit.Edit.TheVariants as edit
use Rattle.bpf_machine.specs.declared.edit.EditFault.{EditFault}
use Rattle.bpf_machine.specs.declared.edit.EditFault.TheVariants.{RegisterNotWritable}
use Rattle.bpf_steps.specs.State.{State}
use Rattle.bpf_opening.specs.Openings.{overlaid, with_value}

-- one more value
behind : (value : Option ℕ) (n a : ℕ) (numbers : List ℕ) → a ∷ with_value n value numbers ≡ with_value (suc n) value (a ∷ numbers)
behind None n a numbers = refl
behind (Some v) n a numbers = refl

pub overlaid-more : (values : List (Option ℕ)) (value : Option ℕ) (numbers : List ℕ)
    → overlaid (values ++ value ∷ []) numbers ≡ with_value (length values) value (overlaid values numbers)
overlaid-more [] None [] = refl
overlaid-more [] (Some v) [] = refl
overlaid-more [] None (number ∷ numbers) = refl
overlaid-more [] (Some v) (number ∷ numbers) = refl
overlaid-more (u ∷ values) None [] = refl
overlaid-more (u ∷ values) (Some v) [] = refl
overlaid-more (u ∷ values) value (number ∷ numbers) =
    ap (λ (ns : List ℕ). unwrap_or u number ∷ ns) (overlaid-more values value numbers)
    ∙ behind value (length values) (unwrap_or u number) (overlaid values numbers)

pub value-more : (values : List (Option ℕ)) (i : ℕ) (numbers : List ℕ) → i < length values
    → with_value i (get_or values i None) (overlaid (take i values) numbers) ≡ overlaid (take (i + 1) values) numbers
value-more values i numbers inside =
    let within : i ≤ length values = omega (arith, inside) in
    let value = get_or values i None in
    ap (λ (n : ℕ). with_value n value (overlaid (take i values) numbers)) (sym (length-take-le i values within))
    ∙ sym (overlaid-more (take i values) value numbers)
    ∙ ap (λ (vs : List (Option ℕ)). overlaid vs numbers) (sym (take_more values i None inside))

-- r0 to r9 can be edited
may-not : (b : Bool) (fault : EditFault) → unless b RegisterNotWritable ≡ Some fault → b ≡ false
may-not true fault e = cc
may-not false fault e = refl

pub edit-made : (x y : State) (r value : ℕ) (result : Result Entry EditFault) → r < 10 → OnOk result (y ≡ edited x (edit.Register r value))
    → IfErr result (RefusesEdit x (edit.Register r value) y) → y ≡ record x { registers = slice_set x.registers r value }
unfolding edited
edit-made x y r value (Ok entry) few next why = next
edit-made x y r value (Err fault) few next why =
    let no : nat_lt r 10 ≡ false = may-not (nat_lt r 10) fault why.why in
    absurd (grind (arith, nat_tests))
