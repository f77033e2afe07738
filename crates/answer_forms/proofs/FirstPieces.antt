-- The first piece of a text.
use Rattle.std.proofs.Common.{◌≡◌, ℕ, suc, ◌+◌, ◌<◌, Bool, true, false, cond, List, [], ◌∷◌, take, drop, length, ap, ap₂, refl, ◌∙◌, arith}
use Rattle.std.specs.Prelude.{not, ◌==◌}
use Rattle.std.specs.List.{position_or_len}
use Rattle.counted_io.specs.Cuts.{after, before}
use Rattle.counted_io.specs.Lines.{onto_line}
use Rattle.answer_forms.specs.Cuts.{pieces}

-- a piece is what stands before the byte
cut-by : (a b : ℕ) (bytes : List ℕ) (n : ℕ) (v : Bool) → onto_line b (pieces a bytes) ≡ (b ∷ take n bytes) ∷ pieces a (drop (n + 1) bytes)
    → cond v ([] ∷ pieces a bytes) (onto_line b (pieces a bytes))
    ≡ take (cond (not v) (1 + n) 0) (b ∷ bytes) ∷ pieces a (drop (cond (not v) (1 + n) 0 + 1) (b ∷ bytes))
cut-by a b bytes n true onto = refl
cut-by a b bytes n false onto =
    let one : suc n ≡ 1 + n = omega arith in
    let two : suc (n + 1) ≡ 1 + n + 1 = omega arith in
    onto ∙ ap₂ (λ (m k : ℕ). take m (b ∷ bytes) ∷ pieces a (drop k (b ∷ bytes))) one two

pieces-cut : (a b : ℕ) (bytes : List ℕ) → pieces a (b ∷ bytes) ≡ before a (b ∷ bytes) ∷ pieces a (after a (b ∷ bytes))
pieces-cut a b [] = cut-by a b [] 0 (b == a) refl
pieces-cut a b (c ∷ bytes) = cut-by a b (c ∷ bytes) (position_or_len (λ d. d == a) (c ∷ bytes)) (b == a) (ap (onto_line b) (pieces-cut a c bytes))

pub pieces-first : (a : ℕ) (s : List ℕ) → 0 < length s → pieces a s ≡ before a s ∷ pieces a (after a s)
pieces-first a [] some = absurd (omega (arith, some))
pieces-first a (b ∷ bytes) some = pieces-cut a b bytes

pub pieces-none : (a : ℕ) (s : List ℕ) → length s ≡ 0 → pieces a s ≡ []
pieces-none a [] e = refl
pieces-none a (b ∷ bytes) e = absurd (omega (arith, e))
