-- What was written of one answer.
use Rattle.std.proofs.Common.{◌≡◌, ℕ, List, ◌++◌, Option, Some, None, Ok, Err, ap, ◌∙◌, append_assoc}
use Rattle.std.specs.Io.KnownBytes.{Appends}
use Rattle.counted_io.specs.Counted.{Tally}
use Rattle.counted_io.specs.Writing.{Writes}

-- what a writer holds after a text
pub appended : (before after : Option (List ℕ)) (xs ys : List ℕ) → before ≡ Some xs → Appends before after ys → after ≡ Some (xs ++ ys)
appended None after xs ys e h = absurd cc
appended (Some zs) None xs ys e h = absurd h
appended (Some zs) (Some ws) xs ys e h = let s : zs ≡ xs = cc in ap Some (h ∙ ap (λ (v : List ℕ). v ++ ys) s)

-- the text of the lines before, and one more
pub wrote-on : (before after : Option (List ℕ)) (told text one : List ℕ) → before ≡ Some (told ++ text) → Appends before after one
    → after ≡ Some (told ++ (text ++ one))
wrote-on before after told text one held more = appended before after (told ++ text) one held more ∙ ap (λ (v : List ℕ). Some v) (append_assoc told text one)

module _ {W : Type 0} (contents : W → Option (List ℕ)) (old new : Tally W) where
  -- the same with another value or another fault
  pub with-value : {A B E F : Type 0} (value : A) (other : B) (text : List ℕ) → Writes {E = E} contents old new (Ok value) text
      → Writes {E = F} contents old new (Ok other) text
  with-value value other text w = record { ok = w.ok; same = w.same; err = tt; fault = tt }

  pub with-fault : {A B E F : Type 0} (why : E) (other : F) (text : List ℕ) → Writes {A = A} contents old new (Err why) text
      → Writes {A = B} contents old new (Err other) text
  with-fault why other text w = record { ok = tt; same = tt; err = w.err; fault = w.fault }
