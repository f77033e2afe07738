-- What a step reads for the values that it writes (RFC 9669, sections 4 and 5), in the state before it. A register that only makes an
-- address is told apart from what is read there, and so is one that only decides where a jump goes.
use Rattle.std.specs.Prelude.{ℕ, Bool, nat_lt, if◌then◌else◌, List, [], ◌∷◌, ◌++◌}
use Rattle.std.specs.Option.{option_map_or}
use Rattle.bpf_isa.specs.Helpers.{helper_of}
use Rattle.bpf_isa.specs.declared.helpers.Helper.{Helper}
use Rattle.bpf_isa.specs.declared.helpers.Helper.TheVariants as named
use Rattle.bpf_isa.specs.Programs.{insn_at}
use Rattle.bpf_isa.specs.Sizes.{size_len, signed_len}
use Rattle.bpf_isa.specs.declared.instruction.AtomicOp.{AtomicOp}
use Rattle.bpf_isa.specs.declared.instruction.AtomicOp.TheVariants.{CompareExchange}
use Rattle.bpf_isa.specs.declared.instruction.BinaryOp.{BinaryOp}
use Rattle.bpf_isa.specs.declared.instruction.BinaryOp.TheVariants.{Mov}
use Rattle.bpf_isa.specs.declared.instruction.Insn.{Insn}
use Rattle.bpf_isa.specs.declared.instruction.Insn.TheVariants as insn
use Rattle.bpf_isa.specs.declared.instruction.LoadSize.{LoadSize}
use Rattle.bpf_isa.specs.declared.instruction.LoadSize.TheVariants.{Plain, Signed}
use Rattle.bpf_isa.specs.declared.instruction.Source.{Source}
use Rattle.bpf_isa.specs.declared.instruction.Source.TheVariants.{Immediate, Register}
use Rattle.bpf_entries.specs.declared.status.Fault.TheVariants.{Access}
use Rattle.bpf_entries.specs.declared.status.Status.{Status}
use Rattle.bpf_entries.specs.declared.status.Status.TheVariants.{Faulted}
use Rattle.bpf_steps.specs.declared.change.Change.{Change}
use Rattle.bpf_steps.specs.declared.change.Change.TheVariants.{Cell}
use Rattle.bpf_machine.specs.declared.moves.Move.{Move}
use Rattle.bpf_machine.specs.declared.moves.Move.TheVariants as move
use Rattle.bpf_steps.specs.Access.{address}
use Rattle.bpf_steps.specs.Atomics.{size_of}
use Rattle.bpf_steps.specs.Next.{change}
use Rattle.bpf_steps.specs.State.{State, register, depth}
use Rattle.bpf_origin.specs.declared.place.Part.{Part}
use Rattle.bpf_origin.specs.declared.place.Part.TheVariants as part
use Rattle.bpf_origin.specs.Places.{depth_for}

-- A register, of which r10 is no place, and a second operand.
abbrev pub of_register : State → ℕ → List Part
of_register x r = if nat_lt r 10 then part.Register (depth_for (depth x) r) r ∷ [] else []

abbrev pub of_source : State → Source → List Part
of_source x (Immediate imm) = []
of_source x (Register r) = of_register x r

-- The first operand of arithmetic, which a move alone does not read.
abbrev pub of_first : State → BinaryOp → ℕ → List Part
of_first x Mov dst = []
of_first x op dst = of_register x dst

-- The number that a compare-exchange compares with.
abbrev pub of_compared : State → AtomicOp → List Part
of_compared x CompareExchange = of_register x 0
of_compared x op = []

-- How many bytes a load reads.
abbrev pub load_len : LoadSize → ℕ
load_len (Plain size) = size_len size
load_len (Signed size) = signed_len size

-- Helpers: the map's token and the key; an update's flags, and the bytes of the value where it is written; the word that is traced.
abbrev pub of_key : State → List Part
of_key x = of_register x 1 ++ part.Bytes (register x 2) 4 ∷ []

abbrev pub of_value : State → Change → List Part
of_value x (Cell a from n next) = part.Bytes (register x 3) n ∷ []
of_value x _ = []

abbrev pub of_helper : State → Change → Helper → List Part
of_helper x c named.Lookup = of_key x
of_helper x c named.Update = of_key x ++ (of_register x 4 ++ of_value x c)
of_helper x c named.Trace = of_register x 1

-- What an instruction reads. Jumps, calls, returns and wide loads read nothing that they write.
abbrev pub reads_by : State → Insn → List Part
reads_by x (insn.Binary op width dst source) = of_first x op dst ++ of_source x source
reads_by x (insn.Negate width dst) = of_register x dst
reads_by x (insn.SignExtend extension dst src) = of_register x src
reads_by x (insn.SwapBytes order width dst) = of_register x dst
reads_by x (insn.CallHelper number) = option_map_or (of_helper x (change x)) (helper_of number) []
reads_by x (insn.Load size dst from) = part.Bytes (address x from) (load_len size) ∷ []
reads_by x (insn.Store size to source) = of_source x source
reads_by x (insn.Atomic op width to src) =
    of_compared x op ++ (of_register x src ++ part.Bytes (address x to) (size_len (size_of width)) ∷ [])
reads_by x _ = []

-- The registers that make its addresses: the base of an access, a helper's pointers to key and value.
abbrev pub helper_bases : State → Helper → List Part
helper_bases x named.Lookup = of_register x 2
helper_bases x named.Update = of_register x 2 ++ of_register x 3
helper_bases x named.Trace = []

abbrev pub bases_by : State → Insn → List Part
bases_by x (insn.CallHelper number) = option_map_or (helper_bases x) (helper_of number) []
bases_by x (insn.Load size dst from) = of_register x from.base
bases_by x (insn.Store size to source) = of_register x to.base
bases_by x (insn.Atomic op width to src) = of_register x to.base
bases_by x _ = []

-- The registers that a conditional jump decides by.
abbrev pub conditions_by : State → Insn → List Part
conditions_by x (insn.JumpIf condition width dst source offset) = of_register x dst ++ of_source x source
conditions_by x _ = []

-- The same for a move. An edit reads nothing: a person wrote it.
abbrev pub of_step : (State → Insn → List Part) → State → Move → List Part
of_step table x move.Step = option_map_or (table x) (insn_at x.program x.pc) []
of_step table x (move.Edit e) = []

abbrev pub reads : State → Move → List Part
reads x m = of_step reads_by x m

abbrev pub bases : State → Move → List Part
bases x m = of_step bases_by x m

abbrev pub conditions : State → Move → List Part
conditions x m = of_step conditions_by x m

-- What an answer follows: what the move reads and, on demand, the registers of its addresses.
abbrev pub followed : Bool → State → Move → List Part
followed addresses x m = reads x m ++ (if addresses then bases x m else [])

-- What is asked about where nothing is named: at a fault of an access the registers of its address, else r0.
abbrev pub asked_at : Status → State → List Part
asked_at (Faulted (Access a)) x = bases x move.Step
asked_at _ x = of_register x 0

abbrev pub asked : State → List Part
asked x = asked_at x.status x
