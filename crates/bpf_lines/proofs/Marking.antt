-- Marks of slots, one more number at a time; and what is found among numbers.
use Rattle.std.proofs.Common.{◌≡◌, ◌<◌, ℕ, zero, suc, ◌+◌, ◌*◌, ◌==◌, Bool, true, false, List, length, sym, ap, ◌∙◌, subst, arith, add-one}
use Rattle.std.specs.Prelude.{Option, Some, None, IfSome, if◌then◌else◌, ◌&&◌}
use Rattle.bpf_btf.specs.Maps.{last_below}
use Rattle.bpf_link.specs.Entries.{is_function}
use Rattle.bpf_link.specs.Tables.{symbol_at}
use Rattle.bpf_link.specs.declared.plan.Plan.{Plan}
use Rattle.bpf_lines.specs.Functions.{begins_in, function_at}
use Rattle.bpf_lines.specs.Marks.{AreMarks, last_named, mark_of}
use Rattle.bpf_lines.specs.Slots.{said_of}

-- a number that names no slot
pub marks_stay : (names : ℕ → ℕ → Bool) (number : ℕ) (marks : List ℕ) → ((slot : ℕ) → names slot number ≡ false)
    → AreMarks (last_named names number) marks → AreMarks (last_named names (number + 1)) marks
marks_stay names number marks none old = subst (λ n. AreMarks (last_named names n) marks) (sym (add-one number)) one_more
  where
    one_more : AreMarks (last_named names (suc number)) marks
    one_more slot inside = old slot inside ∙ ap mark_of (sym (ap (λ b. if b then Some number else last_below (names slot) number) (none slot)))

-- a symbol that is no function of the section names none, and one that is the slot where it begins
pub function_not : (plan : Plan) (section i : ℕ) → is_function section (symbol_at plan.symbols i) ≡ false → (slot : ℕ) → begins_in plan section slot i ≡ false
function_not plan section i e slot = ap (λ b. b && ((symbol_at plan.symbols i).value == 8 * slot)) e

pub function_is : (plan : Plan) (section i at : ℕ) → at ≡ (symbol_at plan.symbols i).value → is_function section (symbol_at plan.symbols i) ≡ true
    → (slot : ℕ) → begins_in plan section slot i ≡ (at == 8 * slot)
function_is plan section i at place e slot =
    ap (λ b. b && ((symbol_at plan.symbols i).value == 8 * slot)) e ∙ ap (λ n. n == 8 * slot) (sym place)

-- what is found is below the end
pub found_below : (test : ℕ → Bool) (n : ℕ) → IfSome (last_below test n) (λ i. i < n)
found_below test zero = tt
found_below test (suc n) = by_test (test n) (found_below test n)
  where
    wider : (found : Option ℕ) → IfSome found (λ i. i < n) → IfSome found (λ i. i < suc n)
    wider None known = tt
    wider (Some i) known = omega (arith, known)

    by_test : (b : Bool) → IfSome (last_below test n) (λ i. i < n) → IfSome (if b then Some n else last_below test n) (λ i. i < suc n)
    by_test true known = omega arith
    by_test false known = wider (last_below test n) known

pub symbol_below : (plan : Plan) (section : ℕ) (slot found : Option ℕ) → found ≡ said_of (function_at plan section) slot
    → IfSome found (λ i. i < length plan.symbols)
symbol_below plan section slot found e = subst (λ o. IfSome o (λ i. i < length plan.symbols)) (sym e) (by_slot slot)
  where
    by_slot : (slot : Option ℕ) → IfSome (said_of (function_at plan section) slot) (λ i. i < length plan.symbols)
    by_slot None = tt
    by_slot (Some k) = found_below (begins_in plan section k) (length plan.symbols)
