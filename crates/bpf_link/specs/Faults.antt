-- Faults: each its number, which is printed after E, and its text. bpfdb's own choice.
use Rattle.std.specs.Prelude.{ℕ, List, codes}
use Rattle.bpf_isa.specs.Faults.{load_fault, piece_fault}
use Rattle.bpf_isa.specs.declared.fault.PieceFault.TheVariants.{UnknownHelper}
use Rattle.bpf_btf.specs.Faults.{btf_fault}
use Rattle.bpf_btf.specs.declared.fault.BtfFault.TheVariants as btf
use Rattle.bpf_packet.specs.Faults.{use_row}
use Rattle.bpf_link.specs.declared.fault.LinkFault.{LinkFault}
use Rattle.bpf_link.specs.declared.fault.LinkFault.TheVariants.{NotElf, Class, Order, Kind, Machine, SectionTable, LongName, NoSection, ManySections, Section, TooLong, RunsOff, SymbolTable, ManyMapSections, TooManyMaps, RelocationTable, Place, Symbol, Relocation, Program, Memory, LongData, DataSection, Pointer, ManyPrograms, NoEntry, Helper, StubList, StubRange, StubTwice, ManyStubs, Types, Map, Fields, ManyRecords, ManyWanted, Pointers, Context, Packet, Unsettled, Undefined}
use Rattle.bpf_link.specs.declared.fault.RelocationFault.{RelocationFault}
use Rattle.bpf_link.specs.declared.fault.RelocationFault.TheVariants.{Extern, RelocationKind, CallTarget, NoCall, Data, NoLoad}

-- Of a relocation against a symbol.
abbrev pub relocation_fault : RelocationFault → ℕ × List ℕ
relocation_fault Extern = (19, codes "symbol is not defined in the object")
relocation_fault RelocationKind = (20, codes "unknown relocation")
relocation_fault CallTarget = (21, codes "call of no function of the program")
relocation_fault NoCall = (22, codes "relocation of a call at no call")
relocation_fault Data = (23, codes "reference to data that is no map")
relocation_fault NoLoad = (24, codes "relocation of a map at no empty wide load")

-- Of an object.
abbrev pub link_fault : LinkFault → ℕ × List ℕ
link_fault NotElf = (1, codes "no ELF file")
link_fault Class = (2, codes "not of 64 bits")
link_fault Order = (3, codes "not little-endian")
link_fault Kind = (4, codes "no relocatable object")
link_fault Machine = (5, codes "not for BPF")
link_fault SectionTable = (6, codes "malformed section table")
link_fault LongName = (7, codes "section name longer than 255 bytes")
link_fault NoSection = (8, codes "no such code section")
link_fault ManySections = (9, codes "more than one code section")
link_fault Section = (10, codes "malformed code section")
link_fault TooLong = (11, codes "program too long")
link_fault RunsOff = (12, codes "code section runs off its end")
link_fault SymbolTable = (13, codes "malformed symbol table")
link_fault ManyMapSections = (14, codes "more than one section of maps")
link_fault TooManyMaps = (15, codes "more than 16 maps")
link_fault RelocationTable = (16, codes "malformed relocation table")
link_fault Place = (17, codes "relocation at no slot, or out of order")
link_fault (Symbol slot) = (18, codes "relocation against no symbol")
link_fault (Relocation fault slot at) = relocation_fault fault
link_fault (Undefined slot count places) = relocation_fault Extern
link_fault (Program fault source) = (25, (load_fault fault).1)
link_fault Memory = btf_fault btf.Memory
link_fault LongData = (27, codes "data longer than 65536 bytes")
link_fault DataSection = (28, codes "malformed data section")
link_fault (Pointer at) = (29, codes "address in data of what is no data")
link_fault ManyPrograms = (30, codes "more than one program in the code section")
link_fault NoEntry = (31, codes "no such function in the code section")
link_fault (Helper slot helper source others) = (25, (piece_fault UnknownHelper).1)
link_fault StubList = (32, codes "malformed list of stubs")
link_fault StubRange = (33, codes "helper or value of a stub out of range")
link_fault StubTwice = (34, codes "two stubs of one helper")
link_fault ManyStubs = (35, codes "more than 16 stubs")
link_fault (Fields count slot at) = (36, codes "relocations of fields")
link_fault ManyRecords = (37, codes "more than 1024 maps")
link_fault ManyWanted = (38, codes "more than 256 undefined symbols")
link_fault Pointers = (39, codes "addresses in the data of an object of functions")
link_fault (Packet fault slot source) = use_row fault
link_fault Unsettled = (60, codes "use of the packet's struct can't be followed")
link_fault (Context at) = (55, codes "entry takes the kernel's own struct of a packet")
link_fault (Types fault) = btf_fault fault
link_fault (Map at fault) = btf_fault fault
