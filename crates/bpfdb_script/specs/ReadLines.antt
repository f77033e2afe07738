-- How a line is read into a buffer of fixed size.
use Rattle.std.specs.Prelude.{◌≡◌, ◌<◌, ◌≤◌, ◌++◌, ◌∷◌, ℕ, Bool, true, false, List, [], Option, Some, Result, IfOk, OnOk, OnErr, length}
use Rattle.counted_io.specs.Counted.{Tally, last_count, one_more}
use Rattle.bpfdb_script.specs.Limits.{longest_line}
use Rattle.counted_io.specs.Lines.{lines}
use Rattle.bpfdb_script.specs.Lines.{line_feeds}
use Rattle.bpfdb_script.specs.declared.line.NextLine.{NextLine}
use Rattle.bpfdb_script.specs.declared.line.NextLine.TheVariants.{Ended, Last, Missing}

-- A buffer for a line: its bytes, up to the longest line, and whether there are more.
pub record Buffer : Type 0 where
  pub bytes : List ℕ
  pub is_long : Bool

-- The buffer holds the line, or the line is longer than the buffer.
abbrev pub Holds : Buffer → List ℕ → Type 0
Holds buffer line = elim buffer.is_long [ true ↦ longest_line < length line | false ↦ buffer.bytes ≡ line ]

-- The tests of what was found.
abbrev pub is_missing : NextLine → Bool
is_missing Missing = true
is_missing _ = false

abbrev pub is_last : NextLine → Bool
is_last Last = true
is_last _ = false

-- A line was cut off the front of a text.
abbrev pub CutsLine : NextLine → List ℕ → List ℕ → Buffer → Type 0
CutsLine Ended text rest buffer = (line : List ℕ) × (text ≡ line ++ 10 ∷ rest) × (line_feeds line ≡ 0) × (lines text ≡ line ∷ lines rest) × Holds buffer line
CutsLine Last text rest buffer = (lines text ≡ text ∷ []) × (rest ≡ []) × Holds buffer text
CutsLine Missing text rest buffer = (text ≡ []) × (rest ≡ [])

-- A beginning of a line was cut off.
pub record CutsPart (text : List ℕ) (left : Option (List ℕ)) : Type 0 where
  pub taken : List ℕ
  pub rest : List ℕ
  pub split : text ≡ taken ++ rest
  pub none : line_feeds taken ≡ 0
  pub ahead : left ≡ Some rest

-- The next line was read from what a reader had left; reads come closer to their last count; an error is one failure, in mid-line.
pub record ReadsLine {R E : Type 0} (remaining : R → Option (List ℕ)) (old new : Tally R) (buffer : Buffer) (result : Result NextLine E) : Type 0 where
  pub cut : IfOk result (λ next. (text : List ℕ) → remaining old.inner ≡ Some text → (rest : List ℕ) × (remaining new.inner ≡ Some rest) × CutsLine next text rest buffer)
  pub part : OnErr result ((text : List ℕ) → remaining old.inner ≡ Some text → CutsPart text (remaining new.inner))
  pub same : OnOk result (new.failures ≡ old.failures)
  pub nearer : OnOk result ((old.reads < new.reads) × (new.reads ≤ last_count))
  pub fault : OnErr result (new.failures ≡ one_more old.failures)
