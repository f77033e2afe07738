-- How a line is read, of any reader.
use Rattle.std.specs.Prelude.{◌≡◌, ◌+◌, ◌-◌, ◌*◌, ◌<◌, ◌≤◌, ◌++◌, ◌∷◌, ℕ, Bool, true, false, List, [], Option, Some, Result, IfOk, IfErr, OnOk, length}
use Rattle.std.specs.Io.KnownBytes.{prepend_known}
use Rattle.counted_io.specs.Counted.{Tally, last_count, one_more}
use Rattle.counted_io.specs.Lines.{lines}
use Rattle.input_texts.specs.Cases.{longest_line}
use Rattle.input_texts.specs.declared.case_line.NextLine.{NextLine}
use Rattle.input_texts.specs.declared.case_line.NextLine.TheVariants.{Ended, Last, Missing}
use Rattle.input_texts.specs.declared.case_line.ReadFault.{ReadFault}
use Rattle.input_texts.specs.declared.case_line.ReadFault.TheVariants as fault

-- A buffer for a line: its bytes, up to the longest line, and whether there are more.
pub record Buffer : Type 0 where
  pub bytes : List ℕ
  pub is_long : Bool

-- The buffer holds the line, or the line is longer than one may be.
abbrev pub Holds : Buffer → List ℕ → Type 0
Holds buffer line = elim buffer.is_long [ true ↦ longest_line < length line | false ↦ (buffer.bytes ≡ line) × (length line ≤ longest_line) ]

-- The tests of what was found.
abbrev pub is_missing : NextLine → Bool
is_missing Missing = true
is_missing _ = false

abbrev pub is_last : NextLine → Bool
is_last Last = true
is_last _ = false

-- A line was cut off the front of a text.
abbrev pub CutsLine : NextLine → List ℕ → List ℕ → Buffer → Type 0
CutsLine Ended text rest buffer = (line : List ℕ) × (text ≡ line ++ 10 ∷ rest) × (lines text ≡ line ∷ lines rest) × Holds buffer line
CutsLine Last text rest buffer = (lines text ≡ text ∷ []) × (rest ≡ []) × Holds buffer text
CutsLine Missing text rest buffer = (text ≡ []) × (rest ≡ [])

-- An error of the reader is one failure, want of memory none.
abbrev pub Fails : ReadFault → ℕ → ℕ → Type 0
Fails fault.Read old new = new ≡ one_more old
Fails fault.Memory old new = new ≡ old

-- The most bytes that are ahead.
abbrev pub most_ahead : ℕ
most_ahead = 8192

-- What is left of reads and of bytes ahead: each line takes some.
abbrev pub to_come : {R : Type 0} → Tally R → List ℕ → ℕ
to_come reader ahead = (last_count - reader.reads) * (most_ahead + 1) + length ahead

-- The next line was read from what is ahead and what a reader has left.
pub record ReadsLine {R : Type 0} (remaining : R → Option (List ℕ)) (old : Tally R) (ahead : List ℕ) (new : Tally R) (ahead' : List ℕ)
    (buffer : Buffer) (result : Result NextLine ReadFault) : Type 0 where
  pub cut : IfOk result (λ next. (text : List ℕ) → prepend_known ahead (remaining old.inner) ≡ Some text
      → (rest : List ℕ) × (prepend_known ahead' (remaining new.inner) ≡ Some rest) × CutsLine next text rest buffer)
  pub same : OnOk result (new.failures ≡ old.failures)
  pub nearer : OnOk result (to_come new ahead' < to_come old ahead)
  pub fault : IfErr result (λ why. Fails why old.failures new.failures)
