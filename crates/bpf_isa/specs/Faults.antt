-- Faults: each its number, which is printed after C or M, and its text. bpfdb's own choice.
use Rattle.std.specs.Prelude.{◌≤◌, ℕ, List, codes}
use Rattle.bpf_isa.specs.declared.fault.WordFault.{WordFault}
use Rattle.bpf_isa.specs.declared.fault.WordFault.TheVariants.{UnknownInstruction, RegisterAboveTen, UnusedField, CutOff}
use Rattle.bpf_isa.specs.declared.fault.PieceFault.{PieceFault}
use Rattle.bpf_isa.specs.declared.fault.PieceFault.TheVariants.{Word, WritesFramePointer, NoTarget, RunsOff, UnknownHelper, NoMap}
use Rattle.bpf_isa.specs.declared.fault.LoadFault.{LoadFault}
use Rattle.bpf_isa.specs.declared.fault.LoadFault.TheVariants.{Empty, TooLong, Ragged, At, Memory}
use Rattle.bpf_isa.specs.declared.fault.MapFault.{MapFault}
use Rattle.bpf_isa.specs.declared.fault.MapFault.TheVariants.{ValueSize, Entries, Total, Full, Malformed}

-- Of those faults that apply, the one with the least number.
pub record IsLeast {F : Type 0} (told : F → ℕ × List ℕ) (Applies : F → Type 0) (fault : F) : Type 0 where
  pub applies : Applies fault
  pub least : (other : F) → Applies other → (told fault).0 ≤ (told other).0

-- Of bytes that are no word.
abbrev pub word_fault : WordFault → ℕ × List ℕ
word_fault UnknownInstruction = (4, codes "unknown instruction")
word_fault RegisterAboveTen = (5, codes "register above 10")
word_fault UnusedField = (6, codes "unused field is not zero")
word_fault CutOff = (9, codes "wide instruction cut off")

-- Of a piece of a program.
abbrev pub piece_fault : PieceFault → ℕ × List ℕ
piece_fault (Word fault) = word_fault fault
piece_fault WritesFramePointer = (7, codes "write to r10")
piece_fault NoTarget = (8, codes "target is no instruction")
piece_fault RunsOff = (10, codes "program runs off its end")
piece_fault UnknownHelper = (11, codes "unknown helper")
piece_fault NoMap = (12, codes "no such map or offset")

-- Of a program.
abbrev pub load_fault : LoadFault → ℕ × List ℕ
load_fault Empty = (1, codes "empty program")
load_fault TooLong = (2, codes "program too long")
load_fault Ragged = (3, codes "length is no multiple of 8")
load_fault (At slot fault) = piece_fault fault
load_fault Memory = (13, codes "out of memory")

-- Of a map or of a list of maps.
abbrev pub map_fault : MapFault → ℕ × List ℕ
map_fault ValueSize = (1, codes "value size not 1 to 256")
map_fault Entries = (2, codes "entries not 1 to 4096")
map_fault Total = (3, codes "map larger than 65536 bytes")
map_fault Full = (4, codes "more than 16 maps")
map_fault Malformed = (5, codes "malformed map list")
