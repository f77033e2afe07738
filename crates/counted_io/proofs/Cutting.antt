-- Where a text is cut, and its first line.
use Rattle.std.proofs.Common.{ℕ, suc, ◌==◌, length-drop, ◌≡◌, ◌<◌, ◌≤◌, ◌+◌, ◌-◌, Bool, true, false, List, [], ◌∷◌, ◌++◌, take, length, get_or, refl, ap, sym, ◌∙◌, arith}
use Rattle.std.specs.List.{position_or_len}
use Rattle.std.proofs.lemmas.List.{take_more}
use Rattle.counted_io.specs.Lines.{is_blank, lines, onto_line}
use Rattle.counted_io.specs.Cuts.{onto_trimmed, trim_end, before, after}

-- a blank at the end is trimmed
pub trim_end-blank : (xs : List ℕ) (b : ℕ) → is_blank b ≡ true → trim_end (xs ++ b ∷ []) ≡ trim_end xs
trim_end-blank [] b h = rw h refl
trim_end-blank (x ∷ xs) b h = ap (onto_trimmed x) (trim_end-blank xs b h)

-- another byte at the end is kept
pub trim_end-other : (xs : List ℕ) (b : ℕ) → is_blank b ≡ false → trim_end (xs ++ b ∷ []) ≡ xs ++ b ∷ []
trim_end-other [] b h = rw h refl
trim_end-other (x ∷ []) b h = rw (trim_end-other [] b h) refl
trim_end-other (x ∷ y ∷ xs) b h = rw (trim_end-other (y ∷ xs) b h) refl

-- one byte before the end
pub take-last : (xs : List ℕ) (end : ℕ) → 0 < end → end ≤ length xs → take end xs ≡ take (end - 1) xs ++ get_or xs (end - 1) 0 ∷ []
take-last xs end h most =
    let last : (end - 1) + 1 ≡ end = omega arith in
    let more = take_more xs (end - 1) 0 (omega arith) in
    ap (λ n. take n xs) (sym last) ∙ more

-- a blank before the end
pub trim_end-step : (xs : List ℕ) (end : ℕ) → 0 < end → end ≤ length xs → true ≡ is_blank (get_or xs (end - 1) 0)
    → trim_end (take (end - 1) xs) ≡ trim_end (take end xs)
trim_end-step xs end h most e =
    sym (trim_end-blank (take (end - 1) xs) (get_or xs (end - 1) 0) (sym e)) ∙ ap trim_end (sym (take-last xs end h most))

-- another byte before the end
pub trim_end-stop : (xs : List ℕ) (end : ℕ) → 0 < end → end ≤ length xs → false ≡ is_blank (get_or xs (end - 1) 0)
    → take end xs ≡ trim_end (take end xs)
trim_end-stop xs end h most e =
    take-last xs end h most ∙ sym (trim_end-other (take (end - 1) xs) (get_or xs (end - 1) 0) (sym e))
    ∙ ap trim_end (sym (take-last xs end h most))

-- nothing is left
pub trim_end-empty : (xs : List ℕ) (end : ℕ) → end ≤ 0 → take end xs ≡ trim_end (take end xs)
trim_end-empty xs end h = let none : end ≡ 0 = omega arith in rw none refl

-- the lines of a byte that is no line feed and of what follows it
onto_line-lines : (b : ℕ) (s : List ℕ) → (0 < length s → lines s ≡ before 10 s ∷ lines (after 10 s))
    → onto_line b (lines s) ≡ (b ∷ before 10 s) ∷ lines (after 10 s)
onto_line-lines b [] rest = refl
onto_line-lines b (c ∷ s) rest = rw (rest (omega arith)) refl

-- the lines of a byte and of what follows it
lines-byte : (b : ℕ) (s : List ℕ) (t : Bool) → (b == 10) ≡ t → (0 < length s → lines s ≡ before 10 s ∷ lines (after 10 s))
    → lines (b ∷ s) ≡ before 10 (b ∷ s) ∷ lines (after 10 (b ∷ s))
lines-byte b s true e rest = rw e refl
lines-byte b s false e rest =
    let shifted : 1 + position_or_len (λ x. x == 10) s ≡ suc (position_or_len (λ x. x == 10) s) = omega arith in
    let next : suc (position_or_len (λ x. x == 10) s) + 1 ≡ suc (position_or_len (λ x. x == 10) s + 1) = omega arith in
    rw (e, shifted, next) (onto_line-lines b s rest)

-- the first line and the others
pub lines-cut : (s : List ℕ) → 0 < length s → lines s ≡ before 10 s ∷ lines (after 10 s)
lines-cut [] h = absurd (omega arith)
lines-cut (b ∷ s) h = lines-byte b s (b == 10) refl (lines-cut s)

-- fewer bytes are left
pub length-after : (byte : ℕ) (s : List ℕ) → 0 < length s → length (after byte s) < length s
length-after byte s h = omega (arith, length-drop (position_or_len (λ x. x == byte) s + 1) s)
