-- The sum of a body, byte by byte.
use Rattle.std.proofs.Common.{◌≡◌, ℕ, ◌+◌, ◌%◌, List, [], ◌∷◌, ◌++◌, arith, ◌∙◌}
use Rattle.std.proofs.lemmas.List.Sums.{sum_by-append}
use Rattle.std.specs.List.{sum}
use Rattle.bpf_remote.specs.Packets.{sum_of}

sum-push : (xs : List ℕ) (b : ℕ) → sum (xs ++ b ∷ []) ≡ sum xs + b
sum-push xs b = sum_by-append (λ (x : ℕ). x) xs (b ∷ []) ∙ omega arith

-- one more byte
pub sum_of-push : (xs : List ℕ) (b : ℕ) → sum_of (xs ++ b ∷ []) ≡ (sum_of xs + b) % 256
sum_of-push xs b = rw (sum-push xs b) (omega arith)
