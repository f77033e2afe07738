-- How control flows within one function.
use Rattle.std.proofs.Common.{◌≡◌, ◌<◌, ◌⊎◌, inl, inr, ℕ, zero, suc, ◌+◌, ◌-◌, Bool, true, false, List, [], ◌∷◌, length, Option, Some, None, refl, sym, ap, ◌∙◌, arith}
use Rattle.std.specs.Prelude.{ℤ, pos, negsuc, if◌then◌else◌, slice_get, unwrap_or}
use Rattle.std.specs.Option.{option_and_then, option_map_or}
use Rattle.bpf_isa.specs.Programs.{Checked, insn_at, slots_of, target_of}
use Rattle.bpf_isa.specs.declared.instruction.Insn.{Insn}
use Rattle.bpf_isa.specs.declared.instruction.Insn.TheVariants.{CallLocal, Exit, LoadWide}
use Rattle.bpf_whynot.specs.Reach.{goes_on, calls, jumps}
use Rattle.bpf_whynot.specs.Flows.{behind, behind_by, ends, ends_by, enters, enters_by, has_target, jump, jump_by, slot_of, target_slot}
use Rattle.bpf_whynot.specs.Tables.{is_in}

one_or_two : (i : Insn) → (slots_of i ≡ 1) ⊎ (slots_of i ≡ 2)
one_or_two (LoadWide dst value) = inr refl
one_or_two _ = inl refl

same_some : (a b : ℕ) → Some a ≡ Some b → a ≡ b
same_some a b e = cc

places_if : (p q n : ℕ) (on call back : Bool) → (n ≡ 1) ⊎ (n ≡ 2)
    → (if on then Some (p + n) else if call then (if back then Some (p + 1) else None) else None) ≡ Some q → (p ≡ q - 1) ⊎ (p ≡ q - 2)
places_if p q n true call back (inl one) e = inl (let same = same_some (p + n) q e in omega (arith, same, one))
places_if p q n true call back (inr two) e = inr (let same = same_some (p + n) q e in omega (arith, same, two))
places_if p q n false true true size e = inl (let same = same_some (p + 1) q e in omega (arith, same))
places_if p q n false true false size e = absurd cc
places_if p q n false false back size e = absurd cc

places_of : (above : List Bool) (p q : ℕ) (o : Option Insn) → option_and_then (behind_by above p) o ≡ Some q → (p ≡ q - 1) ⊎ (p ≡ q - 2)
places_of above p q None e = absurd cc
places_of above p q (Some i) e = places_if p q (slots_of i) (goes_on i) (calls i) (has_target above p i) (one_or_two i) e

pub places : (program : Checked) (above : List Bool) (q p : ℕ) → behind program above p ≡ Some q → (p ≡ q - 1) ⊎ (p ≡ q - 2)
unfolding behind
places program above q p e = places_of above p q (insn_at program p) e

-- an instruction that jumps stands in the program
within : (insns : List (Option Insn)) (p : ℕ) (i : Insn) → unwrap_or (slice_get insns p) None ≡ Some i → p < length insns
within [] p i e = absurd cc
within (o ∷ insns) zero i e = omega arith
within (o ∷ insns) (suc p) i e = let low = within insns p i e in omega (arith, low)

jumps_by : (program : Checked) (p q : ℕ) (o : Option Insn) → insn_at program p ≡ o → option_and_then (jump_by p) o ≡ Some q → p < length program.insns
jumps_by program p q None is e = absurd cc
jumps_by program p q (Some i) is e = within program.insns p i is

pub jumps_within : (program : Checked) (p q : ℕ) → jump program p ≡ Some q → p < length program.insns
unfolding jump
jumps_within program p q e = jumps_by program p q (insn_at program p) refl e

-- what stands in a slot, by where control goes from there
pub record Going (program : Checked) (p q : ℕ) : Type 0 where
  pub insn : Insn
  pub stands : insn_at program p ≡ Some insn
  pub on : goes_on insn ≡ true
  pub there : q ≡ p + slots_of insn

pub record Calling (program : Checked) (above : List Bool) (p : ℕ) : Type 0 where
  pub insn : Insn
  pub to : ℕ
  pub stands : insn_at program p ≡ Some insn
  pub call : calls insn ≡ true
  pub target : target_of p insn ≡ Some (pos to)
  pub known : is_in above to ≡ true

pub record Jumping (program : Checked) (p q : ℕ) : Type 0 where
  pub insn : Insn
  pub stands : insn_at program p ≡ Some insn
  pub jump : jumps insn ≡ true
  pub target : target_of p insn ≡ Some (pos q)

slot_back : (z : ℤ) (q : ℕ) → slot_of z ≡ Some q → z ≡ pos q
slot_back (pos n) q e = ap pos (same_some n q e)
slot_back (negsuc n) q e = absurd cc

target_back_by : (o : Option ℤ) (q : ℕ) → option_and_then slot_of o ≡ Some q → o ≡ Some (pos q)
target_back_by None q e = absurd cc
target_back_by (Some z) q e = ap Some (slot_back z q e)

pub target_back : (p q : ℕ) (i : Insn) → target_slot p i ≡ Some q → target_of p i ≡ Some (pos q)
target_back p q i e = target_back_by (target_of p i) q e

pub target_there : (p q : ℕ) (i : Insn) → target_of p i ≡ Some (pos q) → target_slot p i ≡ Some q
target_there p q i e = ap (option_and_then slot_of) e

-- a call whose target is known
calling_by : (program : Checked) (above : List Bool) (p : ℕ) (i : Insn) (o : Option ℕ) → insn_at program p ≡ Some i → calls i ≡ true → target_slot p i ≡ o
    → option_map_or (is_in above) o false ≡ true → Calling program above p
calling_by program above p i None stands call is e = absurd cc
calling_by program above p i (Some q) stands call is e = record { insn = i; to = q; stands = stands; call = call; target = target_back p q i is; known = e }

calling : (program : Checked) (above : List Bool) (p : ℕ) (i : Insn) → insn_at program p ≡ Some i → calls i ≡ true → has_target above p i ≡ true → Calling program above p
calling program above p i stands call e = calling_by program above p i (target_slot p i) stands call refl e

enters_test : (a b : Bool) → (if a then b else false) ≡ true → (a ≡ true) × (b ≡ true)
enters_test true b e = (refl, e)
enters_test false b e = absurd cc

enters_of : (program : Checked) (above : List Bool) (p : ℕ) (o : Option Insn) → insn_at program p ≡ o → option_map_or (enters_by above p) o false ≡ true
    → Calling program above p
enters_of program above p None stands e = absurd cc
enters_of program above p (Some i) stands e =
    let both = enters_test (calls i) (has_target above p i) e in
    calling program above p i stands both.0 both.1

pub enters_back : (program : Checked) (above : List Bool) (p : ℕ) → enters program above p ≡ true → Calling program above p
unfolding enters
enters_back program above p e = enters_of program above p (insn_at program p) refl e

behind_if : (program : Checked) (above : List Bool) (p q : ℕ) (i : Insn) (g c t : Bool) → insn_at program p ≡ Some i → goes_on i ≡ g → calls i ≡ c → has_target above p i ≡ t
    → (if g then Some (p + slots_of i) else if c then (if t then Some (p + 1) else None) else None) ≡ Some q
    → Going program p q ⊎ (Calling program above p × (q ≡ p + 1))
behind_if program above p q i true c t stands g_is c_is t_is e = inl (record { insn = i; stands = stands; on = g_is; there = same_some q (p + slots_of i) (sym e) })
behind_if program above p q i false true true stands g_is c_is t_is e = inr (calling program above p i stands c_is t_is, same_some q (p + 1) (sym e))
behind_if program above p q i false true false stands g_is c_is t_is e = absurd cc
behind_if program above p q i false false t stands g_is c_is t_is e = absurd cc

behind_of : (program : Checked) (above : List Bool) (p q : ℕ) (o : Option Insn) → insn_at program p ≡ o → option_and_then (behind_by above p) o ≡ Some q
    → Going program p q ⊎ (Calling program above p × (q ≡ p + 1))
behind_of program above p q None stands e = absurd cc
behind_of program above p q (Some i) stands e = behind_if program above p q i (goes_on i) (calls i) (has_target above p i) stands refl refl refl e

pub behind_back : (program : Checked) (above : List Bool) (p q : ℕ) → behind program above p ≡ Some q → Going program p q ⊎ (Calling program above p × (q ≡ p + 1))
unfolding behind
behind_back program above p q e = behind_of program above p q (insn_at program p) refl e

jump_if : (program : Checked) (p q : ℕ) (i : Insn) (j : Bool) → insn_at program p ≡ Some i → jumps i ≡ j → (if j then target_slot p i else None) ≡ Some q → Jumping program p q
jump_if program p q i true stands j e = record { insn = i; stands = stands; jump = j; target = target_back p q i e }
jump_if program p q i false stands j e = absurd cc

jump_of : (program : Checked) (p q : ℕ) (o : Option Insn) → insn_at program p ≡ o → option_and_then (jump_by p) o ≡ Some q → Jumping program p q
jump_of program p q None stands e = absurd cc
jump_of program p q (Some i) stands e = jump_if program p q i (jumps i) stands refl e

pub jump_back : (program : Checked) (p q : ℕ) → jump program p ≡ Some q → Jumping program p q
unfolding jump
jump_back program p q e = jump_of program p q (insn_at program p) refl e

ends_insn : (i : Insn) → ends_by i ≡ true → i ≡ Exit
ends_insn Exit e = refl
ends_insn _ e = absurd cc

ends_of : (program : Checked) (p : ℕ) (o : Option Insn) → insn_at program p ≡ o → option_map_or ends_by o false ≡ true → insn_at program p ≡ Some Exit
ends_of program p None stands e = absurd cc
ends_of program p (Some i) stands e = stands ∙ ap Some (ends_insn i e)

pub ends_back : (program : Checked) (p : ℕ) → ends program p ≡ true → insn_at program p ≡ Some Exit
unfolding ends
ends_back program p e = ends_of program p (insn_at program p) refl e

-- and the other way
pub behind_on : (program : Checked) (above : List Bool) (p : ℕ) (i : Insn) → insn_at program p ≡ Some i → goes_on i ≡ true → behind program above p ≡ Some (p + slots_of i)
unfolding behind
behind_on program above p i stands on =
    ap (option_and_then (behind_by above p)) stands
    ∙ ap (λ (g : Bool). if g then Some (p + slots_of i) else if calls i then (if has_target above p i then Some (p + 1) else None) else None) on

call_stays : (i : Insn) → calls i ≡ true → goes_on i ≡ false
call_stays (CallLocal distance) e = refl
call_stays _ e = absurd cc

known_target : (above : List Bool) (p q : ℕ) (i : Insn) → target_of p i ≡ Some (pos q) → is_in above q ≡ true → has_target above p i ≡ true
known_target above p q i to known = ap (λ (o : Option ℕ). option_map_or (is_in above) o false) (target_there p q i to) ∙ known

pub behind_call : (program : Checked) (above : List Bool) (p q : ℕ) (i : Insn) → insn_at program p ≡ Some i → calls i ≡ true → target_of p i ≡ Some (pos q)
    → is_in above q ≡ true → behind program above p ≡ Some (p + 1)
unfolding behind
behind_call program above p q i stands call to known =
    ap (option_and_then (behind_by above p)) stands
    ∙ ap (λ (g : Bool). if g then Some (p + slots_of i) else if calls i then (if has_target above p i then Some (p + 1) else None) else None) (call_stays i call)
    ∙ ap (λ (c : Bool). if c then (if has_target above p i then Some (p + 1) else None) else None) call
    ∙ ap (λ (t : Bool). if t then Some (p + 1) else None) (known_target above p q i to known)

pub enters_call : (program : Checked) (above : List Bool) (p q : ℕ) (i : Insn) → insn_at program p ≡ Some i → calls i ≡ true → target_of p i ≡ Some (pos q)
    → is_in above q ≡ true → enters program above p ≡ true
unfolding enters
enters_call program above p q i stands call to known =
    ap (λ (o : Option Insn). option_map_or (enters_by above p) o false) stands
    ∙ ap (λ (c : Bool). if c then has_target above p i else false) call ∙ known_target above p q i to known

pub jump_there : (program : Checked) (p q : ℕ) (i : Insn) → insn_at program p ≡ Some i → jumps i ≡ true → target_of p i ≡ Some (pos q) → jump program p ≡ Some q
unfolding jump
jump_there program p q i stands jumps_is to =
    ap (option_and_then (jump_by p)) stands ∙ ap (λ (j : Bool). if j then target_slot p i else None) jumps_is ∙ target_there p q i to

pub ends_there : (program : Checked) (p : ℕ) → insn_at program p ≡ Some Exit → ends program p ≡ true
unfolding ends
ends_there program p stands = ap (λ (o : Option Insn). option_map_or ends_by o false) stands

pub stands_within : (program : Checked) (p : ℕ) (i : Insn) → insn_at program p ≡ Some i → p < length program.insns
stands_within program p i e = within program.insns p i e
