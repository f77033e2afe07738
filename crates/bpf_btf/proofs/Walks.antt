-- One more type that is whole.
use Rattle.std.proofs.Common.{◌≡◌, ◌∙◌, ℕ, suc, true, List, [], ◌∷◌, ◌++◌, length, ap, sym, arith, length-append}
use Rattle.std.specs.Prelude.{◌&&◌}
use Rattle.bpf_btf.specs.Types.{behind, is_whole, place, are_whole, places}

pub grown : (starts now : List ℕ) (at : ℕ) → now ≡ starts ++ at ∷ [] → length now ≡ suc (length starts)
grown starts now at e = ap length e ∙ length-append starts (at ∷ []) ∙ (omega arith)

pub next_place : (types starts now : List ℕ) (at next : ℕ) → at ≡ place types (length starts) → next ≡ behind types at → now ≡ starts ++ at ∷ [] → next ≡ place types (length now)
next_place types starts now at next p b e = b ∙ ap (behind types) p ∙ ap (place types) (sym (grown starts now at e))

pub next_places : (types starts now : List ℕ) (at : ℕ) → at ≡ place types (length starts) → starts ≡ places types (length starts) → now ≡ starts ++ at ∷ [] → now ≡ places types (length now)
next_places types starts now at p s e =
    e ∙ ap (λ xs. xs ++ at ∷ []) s ∙ ap (λ a. places types (length starts) ++ a ∷ []) p ∙ ap (places types) (sym (grown starts now at e))

pub next_whole : (types starts now : List ℕ) (at : ℕ) → at ≡ place types (length starts) → are_whole types (length starts) ≡ true → is_whole types at ≡ true → now ≡ starts ++ at ∷ [] → are_whole types (length now) ≡ true
next_whole types starts now at p w h e =
    ap (are_whole types) (grown starts now at e) ∙ ap (λ b. b && is_whole types (place types (length starts))) w ∙ ap (is_whole types) (sym p) ∙ h
