-- Scaffolding: the two rounds over what is read of a listing's lines.
use Rattle.std.specs.Prelude.{ℕ, ℤ, pos, negsuc, ◌+◌, ◌-ℤ◌, Bool, nat_le, nat_lt, if◌then◌else◌, List, [], ◌∷◌, ◌++◌, Option, Some, None, Result, Ok, Err}
use Rattle.bpf_isa.specs.declared.instruction.Insn.{Insn}
use Rattle.bpf_isa.specs.declared.instruction.Insn.TheVariants.{JumpIf, Jump, JumpLong, CallLocal}
use Rattle.bpf_isa.specs.Programs.{slots_of}
use Rattle.bpf_isa.specs.Checker.{most_slots}
use Rattle.bpf_text.specs.declared.fault.LineFault.TheVariants.{TooFar, LabelTwice, UnknownLabel, TooManySlots}
use Rattle.bpf_text.specs.declared.fault.AsmFault.{AsmFault}
use Rattle.bpf_text.specs.declared.fault.AsmFault.TheVariants.{Line}
use Rattle.bpf_text.specs.declared.read.first_round.Placed.{Placed}
use Rattle.bpf_text.specs.declared.read.labels.Definition.{Definition}
use Rattle.bpf_text.specs.declared.read.line.Line.{Line as LineSaid}
use Rattle.bpf_text.specs.declared.read.statement.Statement.{Statement}
pub use Rattle.bpf_text.specs.Labels.{Labels, no_label, labels_with, definition_of}
use Rattle.bpf_text.specs.LineGrammar.{LineReading}
pub use Rattle.bpf_text.specs.Listing.{insns_with, AreWords}

-- The label of a line, and its statement, if it has them.
abbrev pub label_of : LineReading LineSaid → Option (List ℕ)
label_of (Ok line) = line.label
label_of (Err fault) = None

abbrev pub statement_or_none : LineReading (Option Statement) → Option Statement
statement_or_none (Ok statement) = statement
statement_or_none (Err fault) = None

abbrev pub statement_of : LineReading LineSaid → Option Statement
statement_of (Ok line) = statement_or_none line.statement
statement_of (Err fault) = None

-- The slot after a statement, which can't pass slot 65,534.
abbrev pub slot_after : ℕ → LineReading (Option Statement) → LineReading ℕ
slot_after slot (Err fault) = Err fault
slot_after slot (Ok None) = Ok slot
slot_after slot (Ok (Some statement)) =
    if nat_le (slot + slots_of statement.insn) most_slots then Ok (slot + slots_of statement.insn) else Err TooManySlots

-- The first round at a line: the slot after it, or its first fault.
abbrev pub unless_defined : Option Definition → LineReading ℕ → LineReading ℕ
unless_defined (Some definition) next = Err (LabelTwice definition.line)
unless_defined None next = next

abbrev pub line_end : Labels → ℕ → LineReading LineSaid → LineReading ℕ
line_end labels slot (Err fault) = Err fault
line_end labels slot (Ok line) = unless_defined (definition_of labels line.label) (slot_after slot line.statement)

-- What follows a line, unless it has a fault.
abbrev pub line_or : {A B : Type 0} → LineReading A → ℕ → (A → Result B AsmFault) → Result B AsmFault
line_or (Err fault) line_number next = Err (Line fault line_number)
line_or (Ok value) line_number next = next value

-- The first round over lines from a slot and a line number on: all labels and all statements in their places, or the first fault.
abbrev pub Collected : Type 0
Collected = Labels × List Placed

abbrev pub placed_with : List Placed → ℕ → ℕ → Option Statement → List Placed
placed_with placed slot line_number None = placed
placed_with placed slot line_number (Some statement) = placed ++ record { line = line_number; slot = slot; statement = statement } ∷ []

abbrev pub collected_with : Collected → ℕ → ℕ → LineReading LineSaid → Collected
collected_with outline slot line_number reading =
    (labels_with outline.0 (record { line = line_number; slot = slot }) (label_of reading), placed_with outline.1 slot line_number (statement_of reading))

abbrev pub nothing : Collected
nothing = (no_label, [])

abbrev pub first_round : Collected → ℕ → ℕ → List (LineReading LineSaid) → Result Collected AsmFault
first_round outline slot line_number [] = Ok outline
first_round outline slot line_number (reading ∷ rest) = line_or (line_end outline.0 slot reading) line_number
    (λ next. first_round (collected_with outline slot line_number reading) next (line_number + 1) rest)

-- Whether a distance fits the offset of ja and of a conditional jump, of 16 bits.
abbrev pub fits_offset : ℤ → Bool
fits_offset (pos n) = nat_lt n 32768
fits_offset (negsuc n) = nat_lt n 32768

-- An instruction with the distance of its target.
abbrev pub fitting : ℤ → Insn → LineReading Insn
fitting distance insn = if fits_offset distance then Ok insn else Err (TooFar distance)

abbrev pub with_distance : Insn → ℤ → LineReading Insn
with_distance (JumpIf condition width dst source offset) distance =
    fitting distance (JumpIf condition width dst source distance)
with_distance (Jump offset) distance = fitting distance (Jump distance)
with_distance (JumpLong old) distance = Ok (JumpLong distance)
with_distance (CallLocal old) distance = Ok (CallLocal distance)
with_distance insn distance = Ok insn

-- The instruction in a slot whose target is a label: the distance is counted from the next slot.
abbrev pub with_label : ℕ → Insn → Option Definition → LineReading Insn
with_label slot insn None = Err UnknownLabel
with_label slot insn (Some target) = with_distance insn (pos target.slot -ℤ pos (slot + 1))

abbrev pub with_target : Labels → ℕ → Insn → Option (List ℕ) → LineReading Insn
with_target labels slot insn None = Ok insn
with_target labels slot insn (Some name) = with_label slot insn (labels name)

-- The second round over statements: their instructions, labels replaced by distances, or the first fault.
abbrev pub insn_at : Labels → Placed → LineReading Insn
insn_at labels placed = with_target labels placed.slot placed.statement.insn placed.statement.target

abbrev pub second_round : Labels → List Placed → Result (List Insn) AsmFault
second_round labels [] = Ok []
second_round labels (placed ∷ rest) = line_or (insn_at labels placed) placed.line (λ insn. insns_with insn (second_round labels rest))

-- Both rounds over what is read of a listing's lines: its instructions, or its first fault.
abbrev pub after_first_round : Result Collected AsmFault → Result (List Insn) AsmFault
after_first_round (Ok outline) = second_round outline.0 outline.1
after_first_round (Err fault) = Err fault

abbrev pub rounds : List (LineReading LineSaid) → Result (List Insn) AsmFault
rounds readings = after_first_round (first_round nothing 0 1 readings)
