-- Scaffolding: the rows of what is read of a listing's lines.
use Rattle.std.specs.Prelude.{ℕ, ◌+◌, List, [], ◌∷◌, ◌++◌, Option, Some, None}
use Rattle.bpf_isa.specs.Programs.{slots_of}
use Rattle.bpf_text.specs.declared.read.line.Line.{Line}
use Rattle.bpf_text.specs.declared.read.statement.Statement.{Statement}
use Rattle.bpf_text.specs.LineGrammar.{LineReading}
use Rattle.bpf_text.specs.LineTable.{labels_and, row}
use Rattle.bpf_text.specs.Scaffolding.Rounds.{label_of, statement_of}

-- How many slots the instruction of a line takes, if it has one.
abbrev pub slots_said : Option Statement → Option ℕ
slots_said None = None
slots_said (Some statement) = Some (slots_of statement.insn)

-- What follows a line without an instruction, and one whose instruction takes so many slots.
abbrev pub by_slots : {A : Type 0} → Option ℕ → A → (ℕ → A) → A
by_slots None without with = without
by_slots (Some n) without with = with n

-- The rows of readings, from slot p and line k on, where these labels wait.
abbrev pub rows : ℕ → ℕ → List ℕ → List (LineReading Line) → List ℕ
rows p k labels [] = []
rows p k labels (reading ∷ more) = by_slots (slots_said (statement_of reading))
    (rows p (k + 1) (labels_and labels (label_of reading)) more)
    (λ n. row p k (labels_and labels (label_of reading)) ++ rows (p + n) (k + 1) [] more)
