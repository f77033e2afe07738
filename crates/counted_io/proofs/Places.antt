-- Where the first element stands that passes a test.
use Rattle.std.proofs.Common.{ℕ, ◌≡◌, Bool, true, false, not, List, length, Some, None, unwrap_or, cond, refl, arith, nat_lt}
use Rattle.std.specs.List.{position, position_or_len}
use Rattle.std.proofs.lemmas.List.Sums.{prefix_len-le-length}
use Rattle.std.proofs.lemmas.Bool.Decides.{nat_tests}

-- its index, or the length where none does
pub unwrap_or_position : (p : ℕ → Bool) (xs : List ℕ) → unwrap_or (position p xs) (length xs) ≡ position_or_len p xs
unwrap_or_position p xs = go (nat_lt (position_or_len p xs) (length xs)) refl where
  go : (b : Bool) → nat_lt (position_or_len p xs) (length xs) ≡ b
      → unwrap_or (cond b (Some (position_or_len p xs)) None) (length xs) ≡ position_or_len p xs
  go true e = refl
  go false e = let most = prefix_len-le-length (λ x. not (p x)) xs in grind (arith, nat_tests)
