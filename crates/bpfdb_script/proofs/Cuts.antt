-- The first token of a line, cut off.
use Rattle.std.proofs.Common.{◌≡◌, ℕ, ◌+◌, ◌<◌, ◌≤◌, Bool, true, false, cond, ltb, List, [], ◌∷◌, take, drop, length, get_or, ap, refl, sym, ◌∙◌, arith, inl, inr}
use Rattle.std.specs.Prelude.{not}
use Rattle.std.specs.List.{slice_split, filter, position_or_len, after_first}
use Rattle.std.proofs.Math.Numerals.{one-add}
use Rattle.std.proofs.lemmas.Bool.{lt-ltb, cases_lt}
use Rattle.std.proofs.lemmas.List.{take_all, drop_all, drop_more, length-drop, length-take-le}
use Rattle.std.proofs.lemmas.List.Sums.{prefix_len-le-length, fails_before_first, passes_at_first}
use Rattle.std.proofs.lemmas.List.Splits.{slice_split-cons_yes, slice_split_none, slice_split_first}
use Rattle.counted_io.specs.Lines.{is_blank}
use Rattle.bpfdb_script.specs.Lines.{tokens}

-- a byte of a token
abbrev pub is_token_byte : ℕ → Bool
is_token_byte byte = not (is_blank byte)

-- a blank in front makes no token
tokens-blank : (b : ℕ) (line : List ℕ) → is_blank b ≡ true → tokens (b ∷ line) ≡ tokens line
tokens-blank b line blank = rw (slice_split-cons_yes is_blank b line blank) refl

tokens-drop_one : (b : ℕ) (line : List ℕ) (n : ℕ) (v : Bool) → is_blank b ≡ v → tokens (drop n line) ≡ tokens line → tokens (drop (cond (not (not v)) (1 + n) 0) (b ∷ line)) ≡ tokens (b ∷ line)
tokens-drop_one b line n true blank h = rw (one-add n) (h ∙ sym (tokens-blank b line blank))
tokens-drop_one b line n false other h = refl

-- nor do all blanks in front
pub tokens-drop_blanks : (line : List ℕ) → tokens (drop (position_or_len is_token_byte line) line) ≡ tokens line
tokens-drop_blanks [] = refl
tokens-drop_blanks (b ∷ line) = tokens-drop_one b line _ (is_blank b) refl (tokens-drop_blanks line)

-- a part that isn't empty is a token
filter-part : (part : List ℕ) (parts : List (List ℕ)) → 0 < length part → filter (λ p. ltb 0 (length p)) (part ∷ parts) ≡ part ∷ filter (λ p. ltb 0 (length p)) parts
filter-part part parts h = rw (lt-ltb 0 (length part) h) refl

tokens-first_inside : (line : List ℕ) → 0 < position_or_len is_blank line → position_or_len is_blank line < length line → tokens line ≡ take (position_or_len is_blank line) line ∷ tokens (drop (position_or_len is_blank line) line)
tokens-first_inside line some inside =
    let n : ℕ = position_or_len is_blank line in
    let long : 0 < length (take n line) = omega (arith, length-take-le n line (omega arith)) in
    let rest : tokens (drop n line) ≡ tokens (drop (n + 1) line) = ap tokens (drop_more line n 0 inside) ∙ tokens-blank (get_or line n 0) (drop (n + 1) line) (passes_at_first is_blank line 0 inside) in
    ap (filter (λ part. ltb 0 (length part))) (slice_split_first is_blank line 0 inside)
    ∙ filter-part (take n line) (slice_split is_blank (after_first is_blank line)) long
    ∙ ap (λ ts. take n line ∷ ts) (sym rest)

tokens-first_whole : (line : List ℕ) → 0 < position_or_len is_blank line → length line ≤ position_or_len is_blank line → tokens line ≡ take (position_or_len is_blank line) line ∷ tokens (drop (position_or_len is_blank line) line)
tokens-first_whole line some whole =
    let n : ℕ = position_or_len is_blank line in
    ap (filter (λ part. ltb 0 (length part))) (slice_split_none is_blank line (λ k d h. fails_before_first is_blank line k d (omega arith)))
    ∙ filter-part line [] (omega (arith, prefix_len-le-length (λ byte. not (is_blank byte)) line))
    ∙ rw (take_all n line whole, drop_all n line whole) refl

-- the bytes before the first blank are the first token
pub tokens-first : (line : List ℕ) → 0 < position_or_len is_blank line → tokens line ≡ take (position_or_len is_blank line) line ∷ tokens (drop (position_or_len is_blank line) line)
tokens-first line some =
    elim (cases_lt (position_or_len is_blank line) (length line)) [ inl inside ↦ tokens-first_inside line some inside | inr whole ↦ tokens-first_whole line some whole ]

-- what is left after the blanks in front begins with a token
pub first-token_byte : (line rest : List ℕ) → line ≡ drop (position_or_len is_token_byte rest) rest → 0 < length line → 0 < position_or_len is_blank line
first-token_byte line rest e h =
    let m : ℕ = position_or_len is_token_byte rest in
    let inside : m < length rest = omega (arith, ap length e, length-drop m rest) in
    rw (e ∙ drop_more rest m 0 inside) (rw (passes_at_first is_token_byte rest 0 inside) (omega arith))

-- an empty line has no token
pub tokens-empty : (line : List ℕ) → length line ≡ 0 → tokens line ≡ []
tokens-empty [] h = refl
tokens-empty (b ∷ line) h = absurd (omega arith)
