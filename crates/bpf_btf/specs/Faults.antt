-- Faults: each its number, which is printed after E, and its text. bpfdb's own choice.
use Rattle.std.specs.Prelude.{ℕ, List, codes, Bool, true, false, Result, Ok, Err}
use Rattle.bpf_isa.specs.Faults.{load_fault, map_fault}
use Rattle.bpf_isa.specs.declared.fault.LoadFault.TheVariants as load
use Rattle.bpf_btf.specs.declared.fault.BtfFault.{BtfFault}
use Rattle.bpf_btf.specs.declared.fault.BtfFault.TheVariants.{NoBtf, Version, Header, UnknownType, CutType, NoMap, NoStruct, NoNumber, NoSize, TwoSizes, Kind, KeySize, Limits, Ext, LongName, Memory}
use Rattle.bpf_btf.specs.MapKinds.{kind_text}

abbrev pub btf_fault : BtfFault → ℕ × List ℕ
btf_fault NoBtf = (40, codes "no BTF in the section .BTF")
btf_fault Version = (41, codes "BTF of another version than 1")
btf_fault Header = (42, codes "malformed header of BTF")
btf_fault UnknownType = (43, codes "BTF has a type of unknown kind")
btf_fault CutType = (44, codes "BTF has a type that is cut off")
btf_fault NoMap = (45, codes "map has no description in BTF")
btf_fault NoStruct = (46, codes "map is defined by no struct")
btf_fault NoNumber = (47, codes "number of a map's definition is no pointer to an array")
btf_fault NoSize = (48, codes "key or value of a map's definition is no pointer to a type with a size")
btf_fault TwoSizes = (49, codes "map has two sizes of its keys or of its values")
btf_fault (Kind kind) = (50, kind_text kind)
btf_fault KeySize = (51, codes "keys of an array are not of 4 bytes")
btf_fault (Limits fault) = (52, (map_fault fault).1)
btf_fault Ext = (53, codes "malformed section .BTF.ext")
btf_fault LongName = (54, codes "name of a map longer than 255 bytes")
btf_fault Memory = (26, (load_fault load.Memory).1)

-- What follows where a test holds, and the fault where it doesn't.
abbrev pub provided : {A : Type 0} → Bool → BtfFault → Result A BtfFault → Result A BtfFault
provided true fault next = next
provided false fault next = Err fault

-- What follows a value, unless there is a fault.
abbrev pub after : {A B : Type 0} → Result A BtfFault → (A → Result B BtfFault) → Result B BtfFault
after (Ok value) next = next value
after (Err fault) next = Err fault
