-- Where the place in C of a line begins.
use Rattle.std.proofs.Common.{◌≡◌, ℕ, suc, ◌+◌, ◌-◌, ◌<◌, Bool, true, false, List, [], ◌∷◌, take, drop, get_or, length, sym, ap, ◌∙◌, if◌then◌else◌, arith}
use Rattle.std.proofs.lemmas.List.{drop_all, drop_more, take_rest}
use Rattle.bpf_lines.specs.NamedTexts.{begins, place_at, place_words}

-- here, or behind the first byte
place-here : (b : ℕ) (s : List ℕ) → begins place_words (b ∷ s) ≡ true → place_at (b ∷ s) ≡ 0
place-here b s e = ap (λ (t : Bool). if t then 0 else suc (place_at s)) e

place-later : (b : ℕ) (s : List ℕ) → begins place_words (b ∷ s) ≡ false → place_at (b ∷ s) ≡ suc (place_at s)
place-later b s e = ap (λ (t : Bool). if t then 0 else suc (place_at s)) e

-- what begins at a byte of a text
begins-at : (text : List ℕ) (k : ℕ) (t : Bool) → k < length text → t ≡ begins place_words (take (length text - k) (drop k text))
    → begins place_words (get_or text k 0 ∷ drop (k + 1) text) ≡ t
begins-at text k t inside e = ap (begins place_words) (sym (drop_more text k 0 inside) ∙ sym (take_rest text k)) ∙ sym e

-- a turn of the loop that finds it, and one that doesn't
pub found-at : (text : List ℕ) (k : ℕ) → k < length text → true ≡ begins place_words (take (length text - k) (drop k text))
    → place_at text ≡ k + place_at (drop k text) → k ≡ place_at text
found-at text k inside e h =
    let none : place_at (drop k text) ≡ 0 =
    ap place_at (drop_more text k 0 inside) ∙ place-here (get_or text k 0) (drop (k + 1) text) (begins-at text k true inside e) in
    omega (arith, h, none)

pub passed-at : (text : List ℕ) (k : ℕ) → k < length text → false ≡ begins place_words (take (length text - k) (drop k text))
    → place_at text ≡ k + place_at (drop k text) → place_at text ≡ (k + 1) + place_at (drop (k + 1) text)
passed-at text k inside e h =
    let more : place_at (drop k text) ≡ suc (place_at (drop (k + 1) text)) =
    ap place_at (drop_more text k 0 inside) ∙ place-later (get_or text k 0) (drop (k + 1) text) (begins-at text k false inside e) in
    omega (arith, h, more)

-- its end
pub none-at : (text : List ℕ) (k : ℕ) → k ≡ length text → place_at text ≡ k + place_at (drop k text) → length text ≡ place_at text
none-at text k all h =
    let none : place_at (drop k text) ≡ 0 = ap place_at (drop_all k text (omega (arith, all))) in
    omega (arith, all, h, none)
