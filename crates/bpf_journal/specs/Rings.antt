-- Scaffolding: the lemma behind a law of the ring of entries as a keeper.
use Rattle.std.specs.Prelude.{◌≡◌, List, [], ◌∷◌, ◌++◌, sum_by}
use Rattle.std.proofs.Common.{ap, arith}
use Rattle.std.proofs.lemmas.List.Sums.{sum_by-cons, sum_by-append}
use Rattle.bpf_entries.specs.Keeping.{Kept, kept_weight}
use Rattle.bpf_entries.proofs.Texts.{weight_high}

-- Fronts of one list that weigh as much are one.
pub fronts_apart : (n m a b : List Kept) → n ++ a ≡ m ++ b → sum_by kept_weight a ≡ sum_by kept_weight b → a ≡ b
fronts_apart [] [] a b same weigh = same
fronts_apart [] (k ∷ m) a b same weigh =
    let whole = ap (sum_by kept_weight) same in
    let sum = sum_by-cons kept_weight k (m ++ b) in
    let parts = sum_by-append kept_weight m b in
    absurd (omega (arith, whole, sum, parts, weigh, weight_high k.0))
fronts_apart (k ∷ n) [] a b same weigh =
    let whole = ap (sum_by kept_weight) same in
    let sum = sum_by-cons kept_weight k (n ++ a) in
    let parts = sum_by-append kept_weight n a in
    absurd (omega (arith, whole, sum, parts, weigh, weight_high k.0))
fronts_apart (k ∷ n) (l ∷ m) a b same weigh = fronts_apart n m a b (ap rest same) weigh where
  rest : List Kept → List Kept
  rest [] = []
  rest (e ∷ es) = es
