-- How a text is written to a counted writer.
use Rattle.std.specs.Prelude.{ℕ, ◌≡◌, List, ◌++◌, Option, Result, OnOk, OnErr, false, codes}
use Rattle.std.specs.Fmt.{digits}
use Rattle.std.specs.Io.KnownBytes.{Appends}
use Rattle.counted_io.specs.Counted.{Tally, one_more}

-- Known bytes grew by a beginning of the text.
abbrev pub AppendsBeginning : Option (List ℕ) → Option (List ℕ) → List ℕ → Type 0
AppendsBeginning old new text = (front rest : List ℕ) × (text ≡ front ++ rest) × Appends old new front

-- At Ok the text was written and nothing failed; at Err a beginning of it was, and one failure was counted.
pub record Writes {T A E : Type 0} (contents : T → Option (List ℕ)) (old new : Tally T) (result : Result A E)
    (text : List ℕ) : Type 0 where
  pub ok : OnOk result (Appends (contents old.inner) (contents new.inner) text)
  pub same : OnOk result (new.failures ≡ old.failures)
  pub err : OnErr result (AppendsBeginning (contents old.inner) (contents new.inner) text)
  pub fault : OnErr result (new.failures ≡ one_more old.failures)

-- The text was written after whatever was written before, unless that failed.
abbrev pub WritesAfter : {T A E : Type 0} → (T → Option (List ℕ)) → Tally T → Result A E → Tally T → Result A E
    → List ℕ → Type 0
WritesAfter {T = T} contents old before new result text = (first : Tally T) (front : List ℕ)
    → Writes contents first old before front → Writes contents first new result (front ++ text)

-- A number as 0x and lower-case hexadecimal digits, without leading zeros.
abbrev pub hexadecimal : ℕ → List ℕ
hexadecimal n = codes "0x" ++ digits 16 false n
