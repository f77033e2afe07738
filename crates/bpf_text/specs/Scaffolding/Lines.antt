-- Scaffolding: statements and lines as they are read.
use Rattle.std.specs.Prelude.{ℕ, ◌≡◌, if◌then◌else◌, List, [], ◌∷◌, Option, Some, None, Result, Ok, Err, ⊤}
use Rattle.std.specs.List.{list_all}
use Rattle.bpf_isa.specs.declared.instruction.Insn.{Insn}
use Rattle.bpf_isa.specs.declared.mnemonic.Mnemonic.{Mnemonic}
use Rattle.bpf_text.specs.declared.fault.LineFault.TheVariants.{UnknownMnemonic, WrongOperands, OutOfRange, NotText}
use Rattle.bpf_text.specs.declared.fault.AsmFault.{AsmFault}
use Rattle.bpf_text.specs.declared.fault.AsmFault.TheVariants.{Line, Memory}
use Rattle.bpf_text.specs.declared.read.line.Line.{Line as LineSaid}
use Rattle.bpf_text.specs.declared.read.statement.Statement.{Statement}
use Rattle.bpf_text.specs.declared.read.term.Terms.{Terms}
use Rattle.counted_io.specs.Lines.{trim_start}
use Rattle.bpf_text.specs.Characters.{is_text}
use Rattle.bpf_text.specs.Scaffolding.Instructions.{forms_of, insn_with, target_in}
use Rattle.bpf_text.specs.LineGrammar.{LineReading}
use Rattle.counted_io.specs.Cuts.{before, after, trim}
use Rattle.bpf_text.specs.Scaffolding.Cuts.{without_comment, is_labelled, mnemonic_part, operands_part}
use Rattle.bpf_text.specs.Scaffolding.Named.{named}
use Rattle.bpf_text.specs.Scaffolding.Terms.{terms_of}

-- The statement of a mnemonic and its operands, which are looked at for their forms first, and then for their ranges.
abbrev pub in_ranges : Option Insn → Terms → LineReading (Option Statement)
in_ranges None terms = Err OutOfRange
in_ranges (Some insn) terms = Ok (Some (record { insn = insn; target = target_in terms }))

abbrev pub of_forms : Mnemonic → Option Terms → LineReading (Option Statement)
of_forms mnemonic None = Err WrongOperands
of_forms mnemonic (Some terms) = in_ranges (insn_with mnemonic terms) terms

abbrev pub of_mnemonic : Option Mnemonic → List ℕ → LineReading (Option Statement)
of_mnemonic None operands = Err UnknownMnemonic
of_mnemonic (Some mnemonic) operands = of_forms mnemonic (terms_of (forms_of mnemonic) operands)

-- What a line says behind its label: nothing, or an instruction.
abbrev pub read_statement : List ℕ → LineReading (Option Statement)
read_statement [] = Ok None
read_statement (b ∷ s) = of_mnemonic (named (mnemonic_part (b ∷ s))) (operands_part (b ∷ s))

-- A label, or none, and what stands behind it.
abbrev pub line_with : Option (List ℕ) → List ℕ → LineSaid
line_with label rest = record { label = label; statement = read_statement (trim rest) }

-- What is said by a line's code without the blanks in front.
abbrev pub line_of : List ℕ → LineSaid
line_of s = if is_labelled s then line_with (Some (before 58 s)) (after 58 s) else line_with None s

-- What a line says. What is wrong with its statement comes with it, since a label that is there already is told first.
abbrev pub read_line : List ℕ → LineReading LineSaid
read_line line = if list_all is_text (without_comment line) then Ok (line_of (trim_start (without_comment line))) else Err NotText

-- The outcome, or want of memory.
abbrev pub MemoryOr : {A : Type 0} → Result A AsmFault → AsmFault → Type 0
MemoryOr outcome Memory = ⊤
MemoryOr outcome (Line fault line_number) = outcome ≡ Err (Line fault line_number)
