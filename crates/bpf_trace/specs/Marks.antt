-- Scaffolding: no public contract cites this. The bytes of the stack that were written, as marks; and what an instruction reads of them.
use Rattle.std.specs.Prelude.{◌≡◌, ◌<◌, ◌+◌, ℕ, Bool, true, false, List, get_or, Option, None}
use Rattle.std.specs.Option.{option_map_or, option_or}
use Rattle.bpf_isa.specs.Helpers.{helper_of}
use Rattle.bpf_isa.specs.Programs.{insn_at}
use Rattle.bpf_isa.specs.Sizes.{size_len}
use Rattle.bpf_isa.specs.declared.helpers.Helper.{Helper}
use Rattle.bpf_isa.specs.declared.helpers.Helper.TheVariants as named
use Rattle.bpf_isa.specs.declared.instruction.Insn.{Insn}
use Rattle.bpf_isa.specs.declared.instruction.Insn.TheVariants as insn
use Rattle.bpf_steps.specs.Access.{address}
use Rattle.bpf_steps.specs.Atomics.{size_of}
use Rattle.bpf_steps.specs.Platform.{frame_base, frame_len}
use Rattle.bpf_steps.specs.State.{State, depth, register}
use Rattle.bpf_steps.specs.declared.change.Change.{Change}
use Rattle.bpf_steps.specs.declared.change.Change.TheVariants.{Set, Go, Store, Fetch, Call, Cell}
use Rattle.bpf_origin.specs.Reads.{load_len}
use Rattle.bpf_trace.specs.Written.{first_in, is_written}
use Rattle.bpf_trace.specs.declared.marks.Run.{Run}

-- The first byte that has a mark, and how many have one: eight frames, each with what lies behind it.
abbrev pub stack_base : ℕ
stack_base = 0x2_0000_0000

abbrev pub stack_room : ℕ
stack_room = 8192

-- The mark of a byte says that it was written.
pub record IsMarked (before : List State) (marks : List Bool) : Type 0 where
  pub each : (i : ℕ) → i < stack_room → get_or marks i false ≡ is_written before (stack_base + i)

-- The bytes that a step with this change wrote, which led to y, and whether it is no call.
abbrev pub run_by : State → Change → Run
run_by y (Store a at size value next) = record { address = a; len = size_len size; written = true }
run_by y (Fetch a at size value r next) = record { address = a; len = size_len size; written = true }
run_by y (Cell a from n next) = record { address = a; len = n; written = true }
run_by y (Call to) = record { address = frame_base (depth y); len = frame_len; written = false }
run_by y _ = record { address = 0; len = 0; written = true }

-- The first byte without a mark of the value that an update writes, of what a helper reads, and of what an instruction reads.
abbrev pub first_of_value : List State → State → Change → Option ℕ
first_of_value before x (Cell a from n next) = first_in before (register x 3) n
first_of_value before x _ = None

abbrev pub first_of_helper : List State → State → Change → Helper → Option ℕ
first_of_helper before x c named.Lookup = first_in before (register x 2) 4
first_of_helper before x c named.Update = option_or (first_in before (register x 2) 4) (first_of_value before x c)
first_of_helper before x c named.Trace = None

abbrev pub first_of_call : List State → State → Change → ℕ → Option ℕ
first_of_call before x c number = option_map_or (first_of_helper before x c) (helper_of number) None

abbrev pub first_by : List State → State → Change → Insn → Option ℕ
first_by before x c (insn.Load size dst from) = first_in before (address x from) (load_len size)
first_by before x c (insn.Atomic op width to src) = first_in before (address x to) (size_len (size_of width))
first_by before x c (insn.CallHelper number) = first_of_call before x c number
first_by before x c _ = None

abbrev pub first_with : List State → State → Change → Option ℕ
first_with before x c = option_map_or (first_by before x c) (insn_at x.program x.pc) None

-- Whether an instruction may read memory or write it, and whether that at pc may. The changes of one that does neither are quiet.
abbrev pub touches : Insn → Bool
touches (insn.Binary op width dst source) = false
touches (insn.Negate width dst) = false
touches (insn.SignExtend extension dst src) = false
touches (insn.SwapBytes order width dst) = false
touches (insn.JumpIf condition width dst source offset) = false
touches (insn.Jump offset) = false
touches (insn.JumpLong distance) = false
touches (insn.LoadWide dst value) = false
touches _ = true

abbrev pub next_touches : State → Bool
next_touches x = option_map_or touches (insn_at x.program x.pc) true

abbrev pub is_quiet : Change → Bool
is_quiet (Set r value next) = true
is_quiet (Go next) = true
is_quiet _ = false
