-- The faults of listings, each its number, which is printed after A, and its text. bpfdb's own choice.
use Rattle.std.specs.Prelude.{ℕ, List, Option, Some, None, codes}
use Rattle.bpf_isa.specs.Faults.{load_fault}
use Rattle.bpf_isa.specs.declared.fault.LoadFault.TheVariants as load
use Rattle.bpf_text.specs.declared.fault.LineFault.{LineFault}
use Rattle.bpf_text.specs.declared.fault.LineFault.TheVariants.{UnknownMnemonic, WrongOperands, OutOfRange, TooFar, LabelTwice, UnknownLabel, NotText, TooManySlots}
use Rattle.bpf_text.specs.declared.fault.AsmFault.{AsmFault}
use Rattle.bpf_text.specs.declared.fault.AsmFault.TheVariants.{Line, Memory}

-- The number and the text of a fault of a line.
abbrev pub line_fault : LineFault → ℕ × List ℕ
line_fault UnknownMnemonic = (1, codes "unknown mnemonic")
line_fault WrongOperands = (2, codes "wrong operands")
line_fault OutOfRange = (3, codes "number out of range")
line_fault (TooFar distance) = (3, codes "number out of range")
line_fault (LabelTwice first) = (4, codes "label defined twice")
line_fault UnknownLabel = (5, codes "unknown label")
line_fault NotText = (6, codes "byte outside ASCII text")
line_fault TooManySlots = (8, codes "too many slots")

-- Those of a fault.
abbrev pub asm_fault : AsmFault → ℕ × List ℕ
asm_fault (Line fault line) = line_fault fault
asm_fault Memory = (7, (load_fault load.Memory).1)

-- The line of a fault.
abbrev pub fault_line : AsmFault → Option ℕ
fault_line (Line fault line) = Some line
fault_line Memory = None
