-- The canonical listing, slot by slot.
use Rattle.std.proofs.Common.{ℕ, ◌≡◌, ◌+◌, ◌<◌, Bool, true, false, ◌||◌, zero, suc, List, [], ◌∷◌, ◌++◌, take, length, Option, Some, None, unwrap_or, slice_get, set, ◌==◌, ℤ, pos, negsuc, IfSome, IsSome, refl, ap, sym, ◌∙◌, append_assoc, add-zero, zero-add, arith}
use Rattle.std.proofs.lemmas.List.{append-nil, take_more, length-take-le, get_or-set_same, length-set}
use Rattle.std.proofs.lemmas.Bool.{eqb-true, eq-eqb}
use Rattle.std.proofs.lemmas.Option.{unwrap_or-slice_get, slice_get_within, slice_get-get_or}
use Rattle.bpf_isa.specs.declared.instruction.Insn.{Insn}
use Rattle.bpf_isa.specs.Programs.{Checked, IsProgram, IsStart, IsStartAt, insn_at, target_of}
use Rattle.bpf_text.specs.Scaffolding.Slots.{IsSlot}
use Rattle.bpf_text.specs.Canonical.{goes_to, is_target, slot_lines, lines_from}

-- the first slots and one more
pub take-more : (insns : List (Option Insn)) (slot : ℕ) → slot < length insns
    → take (slot + 1) insns ≡ take slot insns ++ (unwrap_or (slice_get insns slot) None ∷ [])
take-more insns slot h = rw (unwrap_or-slice_get insns slot None) (take_more insns slot None h)

-- nothing more to ask
or-false : (b : Bool) → (b || false) ≡ b
or-false true = refl
or-false false = refl

-- three questions
or-assoc : (a b c : Bool) → (a || (b || c)) ≡ ((a || b) || c)
or-assoc true b c = refl
or-assoc false b c = refl

-- the lines of two parts
pub lines_from-append : (f : ℕ → Bool) (p : ℕ) (xs ys : List (Option Insn))
    → lines_from f p (xs ++ ys) ≡ lines_from f p xs ++ lines_from f (p + length xs) ys
lines_from-append f p [] ys = rw add-zero refl
lines_from-append f p (x ∷ xs) ys =
    let next : p + 1 + length xs ≡ p + suc (length xs) = omega arith in
    rw (lines_from-append f (p + 1) xs ys, next) (sym (append_assoc (slot_lines (f p) p x) _ _))

-- the targets of two parts
pub is_target-append : (p : ℕ) (xs ys : List (Option Insn)) (t : ℕ)
    → is_target p (xs ++ ys) t ≡ (is_target p xs t || is_target (p + length xs) ys t)
is_target-append p [] ys t = rw add-zero refl
is_target-append p (x ∷ xs) ys t =
    let next : p + 1 + length xs ≡ p + suc (length xs) = omega arith in
    rw (is_target-append (p + 1) xs ys t, next) (or-assoc (goes_to p x t) _ _)

-- the lines of the first slots and one more
pub lines_from-more : (f : ℕ → Bool) (insns : List (Option Insn)) (slot : ℕ) → slot < length insns
    → lines_from f 0 (take (slot + 1) insns)
    ≡ lines_from f 0 (take slot insns) ++ slot_lines (f slot) slot (unwrap_or (slice_get insns slot) None)
lines_from-more f insns slot h =
    let long : length (take slot insns) ≡ slot = length-take-le slot insns (omega arith) in
    let last = append-nil (slot_lines (f slot) slot (unwrap_or (slice_get insns slot) None)) in
    rw (take-more insns slot h, lines_from-append f 0 (take slot insns) _, long, zero-add) (ap (λ v. lines_from f 0 (take slot insns) ++ v) last)

-- the targets of the first slots and one more
pub is_target-more : (insns : List (Option Insn)) (slot t : ℕ) → slot < length insns
    → is_target 0 (take (slot + 1) insns) t
    ≡ (is_target 0 (take slot insns) t || goes_to slot (unwrap_or (slice_get insns slot) None) t)
is_target-more insns slot t h =
    let long : length (take slot insns) ≡ slot = length-take-le slot insns (omega arith) in
    rw (take-more insns slot h, is_target-append 0 (take slot insns) _ t, long, zero-add)
    (ap (λ v. is_target 0 (take slot insns) t || v) (or-false (goes_to slot (unwrap_or (slice_get insns slot) None) t)))

-- numbers that a test tells apart
not-eqb : (a b : ℕ) → (a == b) ≡ false → a ≡ b → ⊥
not-eqb a b e x = let yes = eq-eqb a b x in cc

-- a question that is answered
or-true : (b : Bool) → (b || true) ≡ true
or-true true = refl
or-true false = refl

-- a flag that was set
slice_get-set_same : (flags : List Bool) (i : ℕ) → i < length flags → slice_get (set flags i true) i ≡ Some true
slice_get-set_same flags i h =
    let room : i < length (set flags i true) = omega (arith, length-set flags i true) in
    slice_get-get_or (set flags i true) i false room ∙ ap Some (get_or-set_same flags i true false h)

-- a flag beside the one that was set
slice_get-set_other : (flags : List Bool) (i t : ℕ) → (i ≡ t → ⊥) → slice_get (set flags i true) t ≡ slice_get flags t
slice_get-set_other [] i t h = refl
slice_get-set_other (b ∷ flags) zero zero h = absurd (h refl)
slice_get-set_other (b ∷ flags) zero (suc t) h = refl
slice_get-set_other (b ∷ flags) (suc i) zero h = refl
slice_get-set_other (b ∷ flags) (suc i) (suc t) h = slice_get-set_other flags i t (λ e. h (ap suc e))

-- the flags of one slot more, where it goes nowhere
pub flags-kept : (insns : List (Option Insn)) (flags : List Bool) (slot : ℕ) → slot < length insns
    → ((t : ℕ) → goes_to slot (unwrap_or (slice_get insns slot) None) t ≡ false)
    → ((t : ℕ) → t < length insns → slice_get flags t ≡ Some (is_target 0 (take slot insns) t))
    → (t : ℕ) → t < length insns → slice_get flags t ≡ Some (is_target 0 (take (slot + 1) insns) t)
flags-kept insns flags slot h none known t within =
    rw (is_target-more insns slot t h, none t, or-false (is_target 0 (take slot insns) t)) (known t within)

-- the flags of one slot more, where it goes to a slot of the program
pub flags-set : (insns : List (Option Insn)) (flags : List Bool) (slot target : ℕ) → slot < length insns
    → length flags ≡ length insns → target < length insns
    → ((t : ℕ) → goes_to slot (unwrap_or (slice_get insns slot) None) t ≡ (target == t))
    → ((t : ℕ) → t < length insns → slice_get flags t ≡ Some (is_target 0 (take slot insns) t))
    → (t : ℕ) → t < length insns → slice_get (set flags target true) t ≡ Some (is_target 0 (take (slot + 1) insns) t)
flags-set insns flags slot target h sized inside goes known t within = rw (is_target-more insns slot t h, goes t) (at-target (target == t) refl) where
  at-target : (b : Bool) → (target == t) ≡ b
      → slice_get (set flags target true) t ≡ Some (is_target 0 (take slot insns) t || b)
  at-target true e =
      let here = or-true (is_target 0 (take slot insns) t) in
      let same : t ≡ target = sym (eqb-true target t e) in
      let room : target < length flags = omega arith in
      rw (here, same) (slice_get-set_same flags target room)
  at-target false e =
      rw (or-false (is_target 0 (take slot insns) t)) (slice_get-set_other flags target t (λ x. not-eqb target t e x) ∙ known t within)

-- what names a slot at which an instruction starts names a slot of the program
pub start-within : (code : Checked) (p : ℕ) → IsStart code p → p < length code.insns
start-within code p start = within (slice_get code.insns p) refl start where
  within : (o : Option (Option Insn)) → slice_get code.insns p ≡ o → IsSome (unwrap_or o None) → p < length code.insns
  within None e h = cc
  within (Some x) e h = slice_get_within code.insns p x e

-- the target of an instruction of a program is a slot
pub target-IsSlot : (code : Checked) → IsProgram code → (p : ℕ) (i : Insn) → insn_at code p ≡ Some i
    → IfSome (target_of p i) IsSlot
target-IsSlot code known p i e = IfSome-IsSlot (target_of p i) (λ t. known.lands p t i e) where
  IfSome-IsSlot : (o : Option ℤ) → ((t : ℤ) → o ≡ Some t → IsStartAt code t) → IfSome o IsSlot
  IfSome-IsSlot None lands = tt
  IfSome-IsSlot (Some (pos t)) lands = omega (arith, start-within code t (lands (pos t) refl), known.short)
  IfSome-IsSlot (Some (negsuc n)) lands = absurd (lands (negsuc n) refl)
