-- Scaffolding: lemmas behind the laws of the list keeper.
use Rattle.std.specs.Prelude.{◌≡◌, List, ◌++◌, length, drop}
use Rattle.std.proofs.Common.{sym, ap, ◌∙◌, arith}
use Rattle.std.proofs.lemmas.List.{length-append}
use Rattle.std.proofs.Math.Seq.{drop-append_seam}
use Rattle.bpf_entries.specs.Keeping.{Kept}

-- Ends of one list that are as long are one.
pub ends_apart : (n m a b : List Kept) → n ++ a ≡ m ++ b → length a ≡ length b → a ≡ b
ends_apart n m a b same count =
    let whole : length (n ++ a) ≡ length (m ++ b) = ap length same in
    let before : length n ≡ length m = omega (arith, length-append n a, length-append m b) in
    sym (drop-append_seam n a) ∙ ap (λ k. drop k (n ++ a)) before ∙ ap (drop (length m)) same ∙ drop-append_seam m b
