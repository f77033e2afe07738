-- Where words first stand in a text.
use Rattle.std.proofs.Common.{◌≡◌, ℕ, ◌+◌, ◌-◌, ◌<◌, List, [], ◌∷◌, ◌++◌, Option, Some, None, take, drop, get_or, length, refl, sym, ap, ◌∙◌, append_assoc}
use Rattle.std.specs.Option.{option_map, option_map_or}
use Rattle.std.proofs.lemmas.List.{append-nil, drop_more, take_more, take_rest}
use Rattle.answer_forms.specs.Cuts.{behind, cut_at}
use Rattle.answer_forms.proofs.Steps.{onto}

-- words with which it begins, and others
begins-cut : (words : List ℕ) (b : ℕ) (s rest : List ℕ) → behind words (b ∷ s) ≡ Some rest → cut_at words (b ∷ s) ≡ Some ([], rest)
begins-cut words b s rest e = ap (λ (o : Option (List ℕ)). option_map_or (λ r. Some ([], r)) o (option_map (λ p. (b ∷ p.0, p.1)) (cut_at words s))) e

later-cut : (words : List ℕ) (b : ℕ) (s : List ℕ) → behind words (b ∷ s) ≡ None → cut_at words (b ∷ s) ≡ option_map (λ p. (b ∷ p.0, p.1)) (cut_at words s)
later-cut words b s e = ap (λ (o : Option (List ℕ)). option_map_or (λ r. Some ([], r)) o (option_map (λ p. (b ∷ p.0, p.1)) (cut_at words s))) e

-- a byte more before them
onto-byte : (out out' : List ℕ) (b : ℕ) → out' ≡ out ++ b ∷ [] → (o : Option (List ℕ × List ℕ)) → option_map (onto out) (option_map (λ p. (b ∷ p.0, p.1)) o) ≡ option_map (onto out') o
onto-byte out out' b e None = refl
onto-byte out out' b e (Some p) = ap (λ (a : List ℕ). Some (a, p.1)) (sym (append_assoc out (b ∷ []) p.0) ∙ ap (λ (a : List ℕ). a ++ p.0) (sym e))

-- a turn of the loop that finds them, and one that doesn't
from-here : (words text : List ℕ) (k : ℕ) (o : Option (List ℕ)) → k < length text → o ≡ behind words (take (length text - k) (drop k text))
    → behind words (get_or text k 0 ∷ drop (k + 1) text) ≡ o
from-here words text k o inside e = ap (behind words) (sym (drop_more text k 0 inside) ∙ sym (take_rest text k)) ∙ sym e

pub cut-here : (words text rest : List ℕ) (k : ℕ) → k < length text → Some rest ≡ behind words (take (length text - k) (drop k text))
    → cut_at words text ≡ option_map (onto (take k text)) (cut_at words (drop k text)) → Some (take k text, rest) ≡ cut_at words text
cut-here words text rest k inside e h =
    sym (h
    ∙ ap (λ (s : List ℕ). option_map (onto (take k text)) (cut_at words s)) (drop_more text k 0 inside)
    ∙ ap (option_map (onto (take k text))) (begins-cut words (get_or text k 0) (drop (k + 1) text) rest (from-here words text k (Some rest) inside e))
    ∙ ap (λ (a : List ℕ). Some (a, rest)) (append-nil (take k text)))

pub cut-later : (words text : List ℕ) (k : ℕ) → k < length text → None ≡ behind words (take (length text - k) (drop k text))
    → cut_at words text ≡ option_map (onto (take k text)) (cut_at words (drop k text))
    → cut_at words text ≡ option_map (onto (take (k + 1) text)) (cut_at words (drop (k + 1) text))
cut-later words text k inside e h =
    h
    ∙ ap (λ (s : List ℕ). option_map (onto (take k text)) (cut_at words s)) (drop_more text k 0 inside)
    ∙ ap (option_map (onto (take k text))) (later-cut words (get_or text k 0) (drop (k + 1) text) (from-here words text k None inside e))
    ∙ onto-byte (take k text) (take (k + 1) text) (get_or text k 0) (take_more text k 0 inside) (cut_at words (drop (k + 1) text))
