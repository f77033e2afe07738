-- The words of a text, one by one.
use Rattle.std.proofs.Common.{ℕ, suc, ◌==◌, ◌≡◌, ◌<◌, ◌+◌, ◌∙◌, Bool, true, false, List, [], ◌∷◌, Some, None, length, refl, ap, sym, arith}
use Rattle.std.specs.List.{position_or_len}
use Rattle.counted_io.specs.Cuts.{before, after}
use Rattle.counted_io.specs.Lines.{onto_line}
use Rattle.bpf_lines.specs.NamedTexts.{bytes_in, first_in, or_in, words}
use Rattle.bpf_lines.specs.declared.place_names.Located.{Located}
use Rattle.bpf_lines.specs.declared.place_names.Names.{Names}

-- the words of a byte that is no blank and of what follows it
onto_line-words : (b : ℕ) (s : List ℕ) → (0 < length s → words s ≡ before 32 s ∷ words (after 32 s))
    → onto_line b (words s) ≡ (b ∷ before 32 s) ∷ words (after 32 s)
onto_line-words b [] rest = refl
onto_line-words b (c ∷ s) rest = rw (rest (omega arith)) refl

-- the words of a byte and of what follows it
words-byte : (b : ℕ) (s : List ℕ) (t : Bool) → (b == 32) ≡ t → (0 < length s → words s ≡ before 32 s ∷ words (after 32 s))
    → words (b ∷ s) ≡ before 32 (b ∷ s) ∷ words (after 32 (b ∷ s))
words-byte b s true e rest = rw e refl
words-byte b s false e rest =
    let shifted : 1 + position_or_len (λ x. x == 32) s ≡ suc (position_or_len (λ x. x == 32) s) = omega arith in
    let next : suc (position_or_len (λ x. x == 32) s) + 1 ≡ suc (position_or_len (λ x. x == 32) s + 1) = omega arith in
    rw (e, shifted, next) (onto_line-words b s rest)

-- the first word and the others
pub words-cut : (s : List ℕ) → 0 < length s → words s ≡ before 32 s ∷ words (after 32 s)
words-cut [] h = absurd (omega arith)
words-cut (b ∷ s) h = words-byte b s (b == 32) refl (words-cut s)

-- the first word tells bytes of a map
pub first_some : (names : Names) (rest word : List ℕ) (at : Located) → 0 < length rest → word ≡ before 32 rest
    → Some at ≡ bytes_in names word → Some at ≡ first_in names (words rest)
first_some names rest word at more is found =
    sym (ap (first_in names) (words-cut rest more)
    ∙ ap (λ a. or_in a (first_in names (words (after 32 rest)))) (ap (bytes_in names) (sym is) ∙ sym found))

-- it tells none
pub next_in : (names : Names) (rest word others : List ℕ) → 0 < length rest → word ≡ before 32 rest → others ≡ after 32 rest
    → None ≡ bytes_in names word → first_in names (words others) ≡ first_in names (words rest)
next_in names rest word others more is left none =
    ap (λ s. first_in names (words s)) left
    ∙ sym (ap (first_in names) (words-cut rest more)
    ∙ ap (λ a. or_in a (first_in names (words (after 32 rest)))) (ap (bytes_in names) (sym is) ∙ sym none))
