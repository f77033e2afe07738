-- Bytes held against a pattern.
use Rattle.std.proofs.Common.{ℕ, suc, ◌≡◌, ◌<◌, ◌≤◌, ◌+◌, ◌/◌, ◌%◌, Bool, true, false, not, ◌&&◌, ◌==◌, ◌++◌, if◌then◌else◌, List, [], ◌∷◌, codes, cond, decimal, drop, length, get_or, refl, ap, ◌∙◌, arith}
use Rattle.std.proofs.lemmas.Bool.Decides.{nat_tests}
use Rattle.std.proofs.lemmas.List.{drop_more}
use Rattle.std.specs.List.{list_all}
use Rattle.bpf_steps.specs.Platform.{context_base}
use Rattle.bpf_suite.specs.Bodies.{fits, fits_byte, fits_digit, is_space, solid}
use Rattle.bpf_suite.specs.Contexts.{byte_came, byte_line, fitting, length_text}

-- a byte that doesn't fit
pub fits-no : (digits bytes : List ℕ) (i : ℕ) → i < length bytes → fits_byte digits (get_or bytes i 0) ≡ false → fits digits (drop i bytes) ≡ false
fits-no digits bytes i h e =
    ap (fits digits) (drop_more bytes i 0 h) ∙ ap (λ b. b && fits (drop 2 digits) (drop (i + 1) bytes)) e

-- a byte that fits
pub fits-yes : (digits bytes : List ℕ) (i : ℕ) → i < length bytes → fits_byte digits (get_or bytes i 0) ≡ true
    → fits digits (drop i bytes) ≡ fits (drop 2 digits) (drop (i + 1) bytes)
fits-yes digits bytes i h e =
    ap (fits digits) (drop_more bytes i 0 h) ∙ ap (λ b. b && fits (drop 2 digits) (drop (i + 1) bytes)) e

-- how many fit, by the same cases
pub fitting-no : (digits bytes : List ℕ) (i : ℕ) → i < length bytes → fits_byte digits (get_or bytes i 0) ≡ false → fitting digits (drop i bytes) ≡ 0
fitting-no digits bytes i h e =
    ap (fitting digits) (drop_more bytes i 0 h) ∙ ap (λ t. if t then suc (fitting (drop 2 digits) (drop (i + 1) bytes)) else 0) e

pub fitting-yes : (digits bytes : List ℕ) (i : ℕ) → i < length bytes → fits_byte digits (get_or bytes i 0) ≡ true
    → fitting digits (drop i bytes) ≡ suc (fitting (drop 2 digits) (drop (i + 1) bytes))
fitting-yes digits bytes i h e =
    ap (fitting digits) (drop_more bytes i 0 h) ∙ ap (λ t. if t then suc (fitting (drop 2 digits) (drop (i + 1) bytes)) else 0) e

-- what is said of a byte that is there, and of lengths that differ
pub byte_came-some : (k : ℕ) (bytes : List ℕ) → 1 ≤ length bytes → byte_came k bytes ≡ byte_line (context_base + k) (get_or bytes 0 0)
byte_came-some k [] h = absurd (omega (arith, h))
byte_came-some k (b ∷ bytes) h = refl

pub length_text-some : (came wanted : ℕ) → (came ≡ wanted → ⊥)
    → length_text came wanted ≡ codes "# bytes of the context: " ++ decimal came ++ codes ", of mem-after: " ++ decimal wanted ++ codes "\n"
length_text-some came wanted other =
    ap (λ b. cond b [] (codes "# bytes of the context: " ++ decimal came ++ codes ", of mem-after: " ++ decimal wanted ++ codes "\n"))
    (no (came == wanted) refl) where
      no : (b : Bool) → (came == wanted) ≡ b → (came == wanted) ≡ false
      no true e = absurd (other (grind (arith, nat_tests)))
      no false e = e

-- a pattern without spaces
pub solid-same : (body : List ℕ) → list_all (λ b. not (is_space b)) body ≡ true → solid body ≡ body
solid-same [] e = refl
solid-same (b ∷ body) e = go (not (is_space b)) refl e (solid-same body) where
  go : (t : Bool) → not (is_space b) ≡ t → (t && list_all (λ c. not (is_space c)) body) ≡ true → (list_all (λ c. not (is_space c)) body ≡ true → solid body ≡ body)
      → solid (b ∷ body) ≡ b ∷ body
  go true here all rest = rw here (ap (λ s. b ∷ s) (rest all))
  go false here all rest = cc

-- too few digits, and enough
pub fits_byte-short : (digits : List ℕ) (b : ℕ) → length digits < 2 → fits_byte digits b ≡ false
fits_byte-short [] b h = refl
fits_byte-short (x ∷ []) b h = refl
fits_byte-short (x ∷ y ∷ s) b h = absurd (omega (arith, h))

pub fits_byte-long : (digits : List ℕ) (b : ℕ) → 2 ≤ length digits
    → fits_byte digits b ≡ (fits_digit (get_or digits 0 0) (b / 16) && fits_digit (get_or digits 1 0) (b % 16))
fits_byte-long [] b h = absurd (omega (arith, h))
fits_byte-long (x ∷ []) b h = absurd (omega (arith, h))
fits_byte-long (x ∷ y ∷ s) b h = refl
