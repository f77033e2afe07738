-- How many texts there are.
use Rattle.std.proofs.Common.{◌≡◌, ℕ, List, length, map}
use Rattle.std.proofs.lemmas.List.{length-map}
use Rattle.std.specs.Borrow.{Bor}

pub text_count : (texts : List (Bor (List ℕ))) → length (map (λ text. text.now) texts) ≡ length texts
text_count texts = length-map texts (λ text. text.now)
