-- How one byte is read from a counted reader.
use Rattle.std.specs.Prelude.{ℕ, ◌≡◌, ◌+◌, ◌<◌, List, [], ◌∷◌, Option, Result, IfOk, OnOk, OnErr, MatchOption}
use Rattle.std.specs.Io.KnownBytes.{Consumes, IsAtEnd, Keeps}
use Rattle.counted_io.specs.Counted.{Tally, one_more, last_count}

-- A byte is the first of those that remain, none comes at their end; an error is one failure, and takes no byte.
pub record ReadsByte {T E : Type 0} (remaining : T → Option (List ℕ)) (old new : Tally T)
    (result : Result (Option ℕ) E) : Type 0 where
  pub value : IfOk result (λ byte. MatchOption byte (IsAtEnd (remaining old.inner) × Keeps (remaining old.inner) (remaining new.inner))
      (λ b. Consumes (remaining old.inner) (remaining new.inner) (b ∷ [])))
  pub same : OnOk result (new.failures ≡ old.failures)
  pub passed : OnOk result ((old.reads < last_count) × (new.reads ≡ old.reads + 1))
  pub kept : OnErr result (Keeps (remaining old.inner) (remaining new.inner))
  pub fault : OnErr result (new.failures ≡ one_more old.failures)
