-- Why an opening is refused. bpfdb's own choice.
use Rattle.std.specs.Prelude.{ℕ, List, codes}
use Rattle.bpf_opening.specs.declared.fault.OpeningFault.{OpeningFault}
use Rattle.bpf_opening.specs.declared.fault.OpeningFault.TheVariants.{Malformed, OutOfRange, FramePointer, Twice}

-- A fault's number, which is printed after O, behind those of a machine that isn't opened, and its text.
abbrev pub opening_fault : OpeningFault → ℕ × List ℕ
opening_fault Malformed = (3, codes "malformed list of registers")
opening_fault OutOfRange = (4, codes "value of a register out of range")
opening_fault FramePointer = (5, codes "r10 is not writable")
opening_fault Twice = (6, codes "two values of one register")
