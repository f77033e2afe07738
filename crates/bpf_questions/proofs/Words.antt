-- The first word of a line, and what a line asks.
use Rattle.std.proofs.Common.{◌≡◌, ℕ, ◌<◌, ◌≤◌, List, [], ◌∷◌, take, drop, length, ap, sym, ◌∙◌, arith}
use Rattle.std.specs.List.{position_or_len}
use Rattle.std.proofs.lemmas.List.{length-take-le}
use Rattle.counted_io.specs.Lines.{is_blank}
use Rattle.bpfdb_script.specs.Lines.{tokens}
use Rattle.bpfdb_script.proofs.Cuts.{first-token_byte, is_token_byte, tokens-drop_blanks, tokens-first}

-- the blanks in front are no word
trimmed : (line rest : List ℕ) → rest ≡ drop (position_or_len is_token_byte line) line → tokens line ≡ tokens rest
trimmed line rest e = sym (tokens-drop_blanks line) ∙ ap tokens (sym e)

pub some-word : (line rest word after : List ℕ) → rest ≡ drop (position_or_len is_token_byte line) line
    → word ≡ take (position_or_len is_blank rest) rest → after ≡ drop (position_or_len is_blank rest) rest
    → 0 < length word → tokens line ≡ word ∷ tokens after
some-word line [] word after e w a some = absurd (let none : word ≡ [] = w in let short = ap length none in omega (arith, short, some))
some-word line (byte ∷ bytes) word after e w a some =
    let rest = byte ∷ bytes in
    trimmed line rest e ∙ tokens-first rest (first-token_byte rest line e (omega arith)) ∙ ap (λ (v : List ℕ). v ∷ tokens (drop (position_or_len is_blank rest) rest)) (sym w)
    ∙ ap (λ (v : List ℕ). word ∷ tokens v) (sym a)

no-bytes : (rest : List ℕ) (n : ℕ) → 0 < n → n ≤ length rest → length (take n rest) ≡ 0 → ⊥
no-bytes rest n some within none = let len = length-take-le n rest within in omega (arith, some, none, len)

pub no-word : (line rest word after : List ℕ) → rest ≡ drop (position_or_len is_token_byte line) line
    → word ≡ take (position_or_len is_blank rest) rest → after ≡ drop (position_or_len is_blank rest) rest → position_or_len is_blank rest ≤ length rest
    → length word ≡ 0 → (tokens line ≡ []) × (after ≡ [])
no-word line [] word after e w a within none = (trimmed line [] e, a)
no-word line (byte ∷ bytes) word after e w a within none =
    let rest = byte ∷ bytes in
    absurd (no-bytes rest (position_or_len is_blank rest) (first-token_byte rest line e (omega arith)) within (sym (ap length w) ∙ none))
