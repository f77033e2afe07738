-- Instructions that make a constant (RFC 9669, sections 4.1, 5.2 and 5.4), and the slots of a program that make a value.
use Rattle.std.specs.Prelude.{ℕ, zero, suc, ◌-◌, ◌%◌, ◌==◌, ◌&&◌, nat_le, nat_lt, if◌then◌else◌, Bool, true, false, List, [], ◌∷◌, ◌++◌, Option, Some, None}
use Rattle.std.specs.Option.{option_map_or}
use Rattle.bpf_isa.specs.Programs.{Checked, insn_at}
use Rattle.bpf_isa.specs.declared.instruction.Address.{Address}
use Rattle.bpf_isa.specs.declared.instruction.BinaryOp.{BinaryOp}
use Rattle.bpf_isa.specs.declared.instruction.BinaryOp.TheVariants.{Mov}
use Rattle.bpf_isa.specs.declared.instruction.Insn.{Insn}
use Rattle.bpf_isa.specs.declared.instruction.Insn.TheVariants.{Binary, LoadWide, Store}
use Rattle.bpf_isa.specs.declared.instruction.Size.{Size}
use Rattle.bpf_isa.specs.declared.instruction.Size.TheVariants.{Byte, Double, Half, Word}
use Rattle.bpf_isa.specs.declared.instruction.Source.{Source}
use Rattle.bpf_isa.specs.declared.instruction.Source.TheVariants.{Immediate}
use Rattle.bpf_isa.specs.declared.instruction.WideValue.{WideValue}
use Rattle.bpf_isa.specs.declared.instruction.WideValue.TheVariants.{Number}
use Rattle.bpf_isa.specs.declared.instruction.Width.{Width}
use Rattle.bpf_isa.specs.declared.instruction.Width.TheVariants.{Bits32, Bits64}
use Rattle.bpf_steps.specs.Numbers.{wrap}
use Rattle.bpf_whynot.specs.declared.maker.Maker.{Maker}

-- A number of 64 bits, cut to a width, and to the bytes of a store.
abbrev pub cut_by : Width → ℕ → ℕ
cut_by Bits32 n = n % 4294967296
cut_by Bits64 n = n

abbrev pub cut_to : Size → ℕ → ℕ
cut_to Byte n = n % 256
cut_to Half n = n % 65536
cut_to Word n = n % 4294967296
cut_to Double n = n

-- A move of an immediate makes it, as it is in the register then; so does a store of one to the frame, by r10, as it is in memory; and a wide load its number.
abbrev pub moved : BinaryOp → Width → Source → Option ℕ
moved Mov width (Immediate imm) = Some (cut_by width (wrap 64 imm))
moved op width source = None

abbrev pub stored : Size → ℕ → Source → Option ℕ
stored size base (Immediate imm) = if base == 10 then Some (cut_to size (wrap 64 imm)) else None
stored size base source = None

abbrev pub wide : WideValue → Option ℕ
wide (Number n) = Some n
wide value = None

abbrev pub made_by : Insn → Option ℕ
made_by (Binary op width dst source) = moved op width source
made_by (Store size to source) = stored size to.base source
made_by (LoadWide dst value) = wide value
made_by i = None

-- A value below 2^32 is held against the low 32 bits, which the kernel takes of what a program answers, and a larger one against all 64.
abbrev pub is_value : ℕ → ℕ → Bool
is_value v made = if nat_lt v 4294967296 then made % 4294967296 == v else made == v

abbrev pub makes : ℕ → Insn → Bool
makes v i = option_map_or (is_value v) (made_by i) false

-- The slots that make a value, among so many from one on, the lowest first.
abbrev pub is_maker : Checked → Maker → ℕ → Bool
is_maker program m p = nat_le m.first p && (nat_lt (p - m.first) m.count && option_map_or (makes m.value) (insn_at program p) false)

abbrev pub with_slot : Bool → ℕ → List ℕ → List ℕ
with_slot true p goals = goals ++ p ∷ []
with_slot false p goals = goals

abbrev pub makers : Checked → Maker → ℕ → List ℕ
makers program m zero = []
makers program m (suc n) = with_slot (is_maker program m n) n (makers program m n)
