-- Texts of no blank and no separator, and how they are cut.
use Rattle.std.proofs.Common.{ℕ, ◌≡◌, ◌<◌, ◌+◌, ◌%◌, ◌^◌, ◌==◌, Bool, true, false, ◌&&◌, not, List, [], ◌∷◌, ◌++◌, length, refl, arith, nat_le, length-append, append_assoc}
use Rattle.std.proofs.lemmas.List.{append-nil}
use Rattle.std.proofs.Math.ListN.{drop_of_length-le}
use Rattle.std.specs.List.{list_all, position_or_len, before_first, after_first}
use Rattle.std.specs.Fmt.{decimal}
use Rattle.std.proofs.lemmas.Fmt.{decimal_by_steps}
use Rattle.std.proofs.lemmas.Bool.Decides.{nat_tests}
use Rattle.std.proofs.Math.Seq.{take-append_seam, drop-append-add, take-length}
use Rattle.counted_io.proofs.Naturals.{and-both}
use Rattle.counted_io.specs.Lines.{is_blank, trim_start}
use Rattle.counted_io.specs.Cuts.{trim, trim_end, onto_trimmed}

-- a byte that is printed, and is no blank, comma, colon or semicolon
abbrev pub is_plain : ℕ → Bool
is_plain b = nat_le 33 b && nat_le b 126 && not (b == 44) && not (b == 58) && not (b == 59)

-- a text of such bytes
abbrev pub are_plain : List ℕ → Bool
are_plain s = list_all is_plain s

pub and-join : (a b : Bool) → a ≡ true → b ≡ true → (a && b) ≡ true
and-join a b p q = rw (p, q) refl

-- two texts of bytes of one kind
pub list_all-append : (test : ℕ → Bool) (s t : List ℕ) → list_all test s ≡ true → list_all test t ≡ true
    → list_all test (s ++ t) ≡ true
list_all-append test [] t p q = q
list_all-append test (b ∷ s) t p q =
    let parts = and-both (test b) (list_all test s) p in
    and-join (test b) (list_all test (s ++ t)) parts.0 (list_all-append test s t parts.1 q)

-- bytes of one kind are of a wider one
pub list_all-weaken : (test other : ℕ → Bool) (s : List ℕ) → ((b : ℕ) → test b ≡ true → other b ≡ true)
    → list_all test s ≡ true → list_all other s ≡ true
list_all-weaken test other [] h p = refl
list_all-weaken test other (b ∷ s) h p =
    let parts = and-both (test b) (list_all test s) p in
    and-join (other b) (list_all other s) (h b parts.0) (list_all-weaken test other s h parts.1)

-- one byte that fails among others
and-no : (a b : Bool) → b ≡ false → (a && b) ≡ false
and-no true b h = h
and-no false b h = refl

pub list_all-no : (test : ℕ → Bool) (s : List ℕ) (c : ℕ) (t : List ℕ) → test c ≡ false → list_all test (s ++ c ∷ t) ≡ false
list_all-no test [] c t h = rw h refl
list_all-no test (b ∷ s) c t h = and-no (test b) (list_all test (s ++ c ∷ t)) (list_all-no test s c t h)

-- a digit
is_plain-digit : (d : ℕ) → d < 10 → is_plain (48 + d) ≡ true
is_plain-digit d h = grind (arith, nat_tests)

-- decimal digits
pub are_plain-decimal : (n : ℕ) → n < 2 ^ 64 → are_plain (decimal n) ≡ true
are_plain-decimal = decimal_by_steps (λ n ds. are_plain ds ≡ true)
    (λ n h. rw (is_plain-digit n h) refl)
    (λ n ds h p. list_all-append is_plain ds ((48 + n % 10) ∷ []) p (rw (is_plain-digit (n % 10) (omega arith)) refl))

-- the index of the first byte that passes, after bytes that don't
pub position_or_len-at : (test other : ℕ → Bool) (s : List ℕ) (c : ℕ) (rest : List ℕ)
    → ((b : ℕ) → other b ≡ true → test b ≡ false) → test c ≡ true → list_all other s ≡ true
    → position_or_len test (s ++ c ∷ rest) ≡ length s
position_or_len-at test other [] c rest none here p = rw here refl
position_or_len-at test other (b ∷ s) c rest none here p =
    let parts = and-both (other b) (list_all other s) p in
    rw (none b parts.0, position_or_len-at test other s c rest none here parts.1) (omega arith)

-- no byte passes
pub position_or_len-none : (test other : ℕ → Bool) (s : List ℕ)
    → ((b : ℕ) → other b ≡ true → test b ≡ false) → list_all other s ≡ true → position_or_len test s ≡ length s
position_or_len-none test other [] none p = refl
position_or_len-none test other (b ∷ s) none p =
    let parts = and-both (other b) (list_all other s) p in
    rw (none b parts.0, position_or_len-none test other s none parts.1) (omega arith)

-- what stands before and after a byte
pub before_first-at : (test other : ℕ → Bool) (s : List ℕ) (c : ℕ) (rest : List ℕ)
    → ((b : ℕ) → other b ≡ true → test b ≡ false) → test c ≡ true → list_all other s ≡ true
    → before_first test (s ++ c ∷ rest) ≡ s
before_first-at test other s c rest none here p =
    rw (position_or_len-at test other s c rest none here p) (take-append_seam s (c ∷ rest))

pub after_first-at : (test other : ℕ → Bool) (s : List ℕ) (c : ℕ) (rest : List ℕ)
    → ((b : ℕ) → other b ≡ true → test b ≡ false) → test c ≡ true → list_all other s ≡ true
    → after_first test (s ++ c ∷ rest) ≡ rest
after_first-at test other s c rest none here p =
    rw (position_or_len-at test other s c rest none here p) (drop-append-add s (c ∷ rest) 1)

-- where it doesn't stand
pub before_first-none : (test other : ℕ → Bool) (s : List ℕ)
    → ((b : ℕ) → other b ≡ true → test b ≡ false) → list_all other s ≡ true → before_first test s ≡ s
before_first-none test other s none p = rw (position_or_len-none test other s none p) (take-length s)

pub after_first-none : (test other : ℕ → Bool) (s : List ℕ)
    → ((b : ℕ) → other b ≡ true → test b ≡ false) → list_all other s ≡ true → after_first test s ≡ []
after_first-none test other s none p =
    rw (position_or_len-none test other s none p) (drop_of_length-le s {i = length s + 1} (omega arith))

-- a plain byte is no blank and no separator
pub plain-blank : (b : ℕ) → is_plain b ≡ true → is_blank b ≡ false
plain-blank b p = grind (arith, nat_tests)

pub plain-comma : (b : ℕ) → is_plain b ≡ true → (b == 44) ≡ false
plain-comma b p = grind (arith, nat_tests)

pub plain-colon : (b : ℕ) → is_plain b ≡ true → (b == 58) ≡ false
plain-colon b p = grind (arith, nat_tests)

-- nothing is trimmed in front of a plain byte
pub trim_start-plain : (b : ℕ) (s : List ℕ) → is_plain b ≡ true → trim_start (b ∷ s) ≡ b ∷ s
trim_start-plain b s p = rw (plain-blank b p) refl

-- nothing is trimmed at the end of what ends in a text that isn't trimmed
pub trim_end-append : (s t : List ℕ) → 0 < length t → trim_end t ≡ t → trim_end (s ++ t) ≡ s ++ t
trim_end-append [] t some h = h
trim_end-append (b ∷ s) t some h = rw (trim_end-append s t some h) (onto_trimmed-some b (s ++ t) (omega (arith, length-append s t))) where
  onto_trimmed-some : (b : ℕ) (s : List ℕ) → 0 < length s → onto_trimmed b s ≡ b ∷ s
  onto_trimmed-some b [] h = absurd (omega arith)
  onto_trimmed-some b (c ∷ s) h = refl

-- a byte that is no blank
abbrev pub no_blank : ℕ → Bool
no_blank b = not (is_blank b)

pub not-true : (b : Bool) → not b ≡ true → b ≡ false
not-true true h = cc
not-true false h = refl

pub solid-blank : (b : ℕ) → no_blank b ≡ true → is_blank b ≡ false
solid-blank b h = not-true (is_blank b) h

plain-solid : (b : ℕ) → is_plain b ≡ true → no_blank b ≡ true
plain-solid b p = rw (plain-blank b p) refl

pub are_plain-solid : (s : List ℕ) → are_plain s ≡ true → list_all no_blank s ≡ true
are_plain-solid s p = list_all-weaken is_plain no_blank s plain-solid p

-- nothing is trimmed of a text without blanks
trim_end-solid : (s : List ℕ) → list_all no_blank s ≡ true → trim_end s ≡ s
trim_end-solid [] p = refl
trim_end-solid (b ∷ []) p = let parts = and-both (no_blank b) true p in rw (solid-blank b parts.0) refl
trim_end-solid (b ∷ c ∷ s) p =
    let parts = and-both (no_blank b) (list_all no_blank (c ∷ s)) p in rw (trim_end-solid (c ∷ s) parts.1) refl

-- nor of a plain one
pub trim_end-plain : (s : List ℕ) → are_plain s ≡ true → trim_end s ≡ s
trim_end-plain s p = trim_end-solid s (are_plain-solid s p)

pub trim-plain : (s : List ℕ) → are_plain s ≡ true → trim s ≡ s
trim-plain [] p = refl
trim-plain (b ∷ s) p =
    let parts = and-both (is_plain b) (are_plain s) p in
    rw (trim_start-plain b s parts.0) (trim_end-plain (b ∷ s) p)

-- a blank in front of a plain text is trimmed
pub trim-blank : (s : List ℕ) → are_plain s ≡ true → trim (32 ∷ s) ≡ s
trim-blank [] p = refl
trim-blank (b ∷ s) p =
    let parts = and-both (is_plain b) (are_plain s) p in
    rw (plain-blank b parts.0) (trim_end-plain (b ∷ s) p)

-- a text that has no blank at its ends, also where more follows it
pub record Snug (s : List ℕ) : Type 0 where
  pub some : 0 < length s
  pub start : (t : List ℕ) → trim_start (s ++ t) ≡ s ++ t
  pub blank : (t : List ℕ) → trim_start (32 ∷ (s ++ t)) ≡ s ++ t
  pub end : trim_end s ≡ s

pub Snug-solid : (s : List ℕ) → 0 < length s → list_all no_blank s ≡ true → Snug s
Snug-solid [] some p = absurd (omega arith)
Snug-solid (b ∷ s) some p =
    let parts = and-both (no_blank b) (list_all no_blank s) p in record {
      some = some;
      start = λ t. rw (solid-blank b parts.0) refl;
      blank = λ t. rw (solid-blank b parts.0) refl;
      end = trim_end-solid (b ∷ s) p;
    }

pub Snug-plain : (s : List ℕ) → 0 < length s → are_plain s ≡ true → Snug s
Snug-plain s some p = Snug-solid s some (are_plain-solid s p)

pub Snug-append : (a mid b : List ℕ) → Snug a → Snug b → Snug (a ++ (mid ++ b))
Snug-append a mid b p q = record {
  some = omega (arith, p.some, length-append a (mid ++ b));
  start = λ t. rw (append_assoc a (mid ++ b) t) (p.start ((mid ++ b) ++ t));
  blank = λ t. rw (append_assoc a (mid ++ b) t) (p.blank ((mid ++ b) ++ t));
  end = rw (← append_assoc a mid b) (trim_end-append (a ++ mid) b q.some q.end);
}

pub Snug-trim : (s : List ℕ) → Snug s → trim s ≡ s
Snug-trim s p = let start = p.start [] in rw (rw (append-nil s) at start) p.end

pub Snug-trim-blank : (s : List ℕ) → Snug s → trim (32 ∷ s) ≡ s
Snug-trim-blank s p = let start = p.blank [] in rw (rw (append-nil s) at start) p.end
