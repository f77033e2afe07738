-- Where a text's first line ends.
use Rattle.std.proofs.Common.{ℕ, ◌≡◌, Bool, true, false, not, ◌==◌, ◌&&◌, List, [], ◌∷◌, ◌++◌, refl}
use Rattle.std.specs.List.{list_all}
use Rattle.counted_io.specs.Lines.{lines}

-- a line and its line feed, then the lines of the rest
pub lines-first : (line rest : List ℕ) → list_all (λ b. not (b == 10)) line ≡ true → lines (line ++ 10 ∷ rest) ≡ line ∷ lines rest
lines-first [] rest p = refl
lines-first (b ∷ line) rest p = go (b == 10) refl p (lines-first line rest) where
  go : (t : Bool) → (b == 10) ≡ t → (not t && list_all (λ b. not (b == 10)) line) ≡ true
      → (list_all (λ b. not (b == 10)) line ≡ true → lines (line ++ 10 ∷ rest) ≡ line ∷ lines rest)
      → lines (b ∷ (line ++ 10 ∷ rest)) ≡ (b ∷ line) ∷ lines rest
  go true h q others = cc
  go false h q others = rw (h, others q) refl
