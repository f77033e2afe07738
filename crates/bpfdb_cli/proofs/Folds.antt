-- Commands that are made of entries, one after another.
use Rattle.std.proofs.Common.{ℕ, ◌+◌, ◌<◌, List, ◌≡◌, ◌∙◌, ap₂, sym, fold, take, get_or, length}
use Rattle.std.proofs.lemmas.List.Sums.{fold_more}

-- One more, the one at i.
pub fold-next : {X A : Type 0} (step : A → X → A) (start before after : A) (x : X) (xs : List X) (i : ℕ) → after ≡ step before x
    → before ≡ fold step start (take i xs) → i < length xs → x ≡ get_or xs i x → after ≡ fold step start (take (i + 1) xs)
fold-next step start before after x xs i is so_far lt at = is ∙ ap₂ step so_far at ∙ sym (fold_more step start xs i x lt)
