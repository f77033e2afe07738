-- Bytes that are put together of pieces.
use Rattle.std.specs.Prelude.{ℕ, zero, suc, List, [], ◌++◌}

-- A piece for each number below n, one behind the other.
abbrev pub gathered : (ℕ → List ℕ) → ℕ → List ℕ
gathered piece zero = []
gathered piece (suc n) = gathered piece n ++ piece n
