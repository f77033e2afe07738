-- What becomes of a reader, a writer and standard error: what they got, and whether they failed.
use Rattle.std.specs.Prelude.{◌≡◌, ◌⊎◌, ℕ, List, Option, Some, None}
use Rattle.std.specs.Io.KnownBytes.{Appends}
use Rattle.counted_io.specs.Counted.{Tally, one_more}
use Rattle.counted_io.specs.Writing.{AppendsBeginning}

-- A reader, a writer or standard error, as it was lent and as it is given back. Its bytes are those that are left to be read, or those that
-- were written, where that is known.
pub record Stream (T : Type 0) : Type 0 where
  pub bytes : T → Option (List ℕ)
  pub old : Tally T
  pub new : Tally T

abbrev pub stream : {T : Type 0} → (T → Option (List ℕ)) → Tally T → Tally T → Stream T
stream bytes old new = record { bytes = bytes; old = old; new = new }

-- No failure was counted.
abbrev pub Spared : {T : Type 0} → Stream T → Type 0
Spared s = s.new.failures ≡ s.old.failures

-- A text went to a writer, which is as it was if there was none; a beginning of it, and one failure was counted.
abbrev pub Gets : {T : Type 0} → Stream T → Option (List ℕ) → Type 0
Gets writer None = writer.new ≡ writer.old
Gets writer (Some text) = Appends (writer.bytes writer.old.inner) (writer.bytes writer.new.inner) text × Spared writer

abbrev pub Loses : {T : Type 0} → Stream T → Option (List ℕ) → Type 0
Loses writer None = ⊥
Loses writer (Some text) = AppendsBeginning (writer.bytes writer.old.inner) (writer.bytes writer.new.inner) text
    × (writer.new.failures ≡ one_more writer.old.failures)

-- The line of a fault went to standard error, as far as that could be written.
abbrev pub Told : {E : Type 0} → Stream E → List ℕ → Type 0
Told errors line = Gets errors (Some line) ⊎ Loses errors (Some line)
