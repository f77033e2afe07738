-- Scaffolding: no public contract cites this. How bytes are read ahead, and how lines are cut from them.
use Rattle.std.specs.Prelude.{◌≡◌, ◌+◌, ◌<◌, ◌≤◌, ◌++◌, ◌∷◌, ◌==◌, ℕ, Bool, true, false, not, List, [], Option, Result, IfOk, OnOk, OnErr, length, take}
use Rattle.std.specs.List.{list_all}
use Rattle.std.specs.Io.KnownBytes.{Consumes, IsAtEnd}
use Rattle.counted_io.specs.Counted.{Tally, last_count, one_more}
use Rattle.input_texts.specs.ReadLines.{Buffer, Holds, most_ahead}

-- No byte is a line feed.
abbrev pub HasNoLineFeed : List ℕ → Type 0
HasNoLineFeed bytes = list_all (λ byte. not (byte == 10)) bytes ≡ true

-- One read gave these bytes, none at the end; an error is one failure.
pub record Refills {R E : Type 0} (remaining : R → Option (List ℕ)) (old new : Tally R) (ahead : List ℕ) (result : Result Bool E) : Type 0 where
  pub came : OnOk result (Consumes (remaining old.inner) (remaining new.inner) ahead)
  pub end : IfOk result (λ more. more ≡ false → (ahead ≡ []) × IsAtEnd (remaining new.inner))
  pub room : OnOk result (length ahead ≤ most_ahead)
  pub same : OnOk result (new.failures ≡ old.failures)
  pub passed : OnOk result ((old.reads < last_count) × (new.reads ≡ old.reads + 1))
  pub fault : OnErr result (new.failures ≡ one_more old.failures)

-- One read gave the first of these bytes.
pub record ReadsOver {R E : Type 0} (remaining : R → Option (List ℕ)) (old new : Tally R) (bytes : List ℕ) (result : Result ℕ E) : Type 0 where
  pub came : IfOk result (λ count. Consumes (remaining old.inner) (remaining new.inner) (take count bytes))
  pub end : IfOk result (λ count. count ≡ 0 → IsAtEnd (remaining new.inner))
  pub room : IfOk result (λ count. count ≤ most_ahead)
  pub same : OnOk result (new.failures ≡ old.failures)
  pub passed : OnOk result ((old.reads < last_count) × (new.reads ≡ old.reads + 1))
  pub fault : OnErr result (new.failures ≡ one_more old.failures)

-- Bytes are cut behind their first line feed, which is dropped; all are taken where there is none.
abbrev pub CutsAhead : Bool → List ℕ → List ℕ → List ℕ → Type 0
CutsAhead true ahead part rest = ahead ≡ part ++ 10 ∷ rest
CutsAhead false ahead part rest = (ahead ≡ part) × (rest ≡ [])

-- What was cut off is behind the line so far.
abbrev pub TakesAhead : Bool → List ℕ → Buffer → List ℕ → List ℕ → Type 0
TakesAhead ended line buffer ahead rest = (part : List ℕ) × HasNoLineFeed part × CutsAhead ended ahead part rest × Holds buffer (line ++ part)
