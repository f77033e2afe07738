-- Where a file of tests is cut into pieces.
use Rattle.std.proofs.Common.{ℕ, ◌≡◌, ◌<◌, ◌+◌, true, false, List, [], ◌∷◌, ◌++◌, append_assoc, take, drop, length, get_or, refl, ap, sym, ◌∙◌}
use Rattle.std.proofs.lemmas.List.{drop_more, take_more}
use Rattle.input_texts.specs.Pieces.{is_cut, until_cut}

until-yes : (b : ℕ) (s : List ℕ) → is_cut (b ∷ s) ≡ true → until_cut (b ∷ s) ≡ b ∷ []
until-yes b s e = rw e refl

until-no : (b : ℕ) (s : List ℕ) → is_cut (b ∷ s) ≡ false → until_cut (b ∷ s) ≡ b ∷ until_cut s
until-no b s e = rw e refl

-- a cut ends the text that stands in front of the head of a piece
pub until-cut : (text : List ℕ) (at : ℕ) → at < length text → is_cut (drop at text) ≡ true
    → take at text ++ until_cut (drop at text) ≡ take (at + 1) text
until-cut text at h t =
    let e = drop_more text at 0 h in
    let here : is_cut (get_or text at 0 ∷ drop (at + 1) text) ≡ true = sym (ap is_cut e) ∙ t in
    ap (λ s. take at text ++ until_cut s) e ∙ ap (λ s. take at text ++ s) (until-yes (get_or text at 0) (drop (at + 1) text) here) ∙ sym (take_more text at 0 h)

-- another byte doesn't
pub until-on : (text : List ℕ) (at : ℕ) → at < length text → is_cut (drop at text) ≡ false
    → take (at + 1) text ++ until_cut (drop (at + 1) text) ≡ take at text ++ until_cut (drop at text)
until-on text at h t =
    let e = drop_more text at 0 h in
    let here : is_cut (get_or text at 0 ∷ drop (at + 1) text) ≡ false = sym (ap is_cut e) ∙ t in
    ap (λ s. s ++ until_cut (drop (at + 1) text)) (take_more text at 0 h)
    ∙ append_assoc (take at text) (get_or text at 0 ∷ []) (until_cut (drop (at + 1) text))
    ∙ sym (ap (λ s. take at text ++ until_cut s) e ∙ ap (λ s. take at text ++ s) (until-no (get_or text at 0) (drop (at + 1) text) here))

-- pieces behind the bytes of a text from a place on
pub behind-on : (line : ℕ) (text : List ℕ) (at : ℕ) → at < length text → drop 1 (drop at text) ≡ drop (at + 1) text
behind-on line text at h = ap (drop 1) (drop_more text at 0 h)
