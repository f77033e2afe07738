-- The names of mnemonics (the tables of RFC 9669, sections 4 and 5, a row an equation). bpfdb's own choice.
use Rattle.std.specs.Prelude.{ℕ, List, [], ◌++◌, codes}
use Rattle.bpf_isa.specs.declared.instruction.Width.{Width}
use Rattle.bpf_isa.specs.declared.instruction.Width.TheVariants.{Bits32, Bits64}
use Rattle.bpf_isa.specs.declared.instruction.Size.{Size}
use Rattle.bpf_isa.specs.declared.instruction.Size.TheVariants.{Word, Half, Byte, Double}
use Rattle.bpf_isa.specs.declared.instruction.LoadSize.{LoadSize}
use Rattle.bpf_isa.specs.declared.instruction.LoadSize.TheVariants.{Plain, Signed}
use Rattle.bpf_isa.specs.declared.instruction.SignedSize.TheVariants as signed
use Rattle.bpf_isa.specs.declared.instruction.BinaryOp.{BinaryOp}
use Rattle.bpf_isa.specs.declared.instruction.BinaryOp.TheVariants as binary
use Rattle.bpf_isa.specs.declared.instruction.Extension.{Extension}
use Rattle.bpf_isa.specs.declared.instruction.Extension.TheVariants.{Byte64, Half64, Word64, Byte32, Half32}
use Rattle.bpf_isa.specs.declared.instruction.ByteOrder.{ByteOrder}
use Rattle.bpf_isa.specs.declared.instruction.ByteOrder.TheVariants.{Little, Big, Swap}
use Rattle.bpf_isa.specs.declared.instruction.SwapWidth.{SwapWidth}
use Rattle.bpf_isa.specs.declared.instruction.SwapWidth.TheVariants as swap
use Rattle.bpf_isa.specs.declared.instruction.Condition.{Condition}
use Rattle.bpf_isa.specs.declared.instruction.Condition.TheVariants as condition
use Rattle.bpf_isa.specs.declared.instruction.AtomicOp.{AtomicOp}
use Rattle.bpf_isa.specs.declared.instruction.AtomicOp.TheVariants as atomic
use Rattle.bpf_isa.specs.declared.instruction.SourceKind.{SourceKind}
use Rattle.bpf_isa.specs.declared.instruction.SourceKind.TheVariants.{Immediate, Register}
use Rattle.bpf_isa.specs.declared.mnemonic.WideKind.{WideKind}
use Rattle.bpf_isa.specs.declared.mnemonic.WideKind.TheVariants.{Number, Map, MapValue}
use Rattle.bpf_isa.specs.declared.mnemonic.Mnemonic.{Mnemonic}
use Rattle.bpf_isa.specs.declared.mnemonic.Mnemonic.TheVariants.{Binary, Negate, SignExtend, SwapBytes, JumpIf, Jump, JumpLong, CallHelper, CallLocal, Exit, Load, Store, Atomic, LoadWide}

-- Arithmetic (section 4.1).
abbrev pub binary_name : BinaryOp → List ℕ
binary_name binary.Add = codes "add"
binary_name binary.Sub = codes "sub"
binary_name binary.Mul = codes "mul"
binary_name binary.Div = codes "div"
binary_name binary.SignedDiv = codes "sdiv"
binary_name binary.Or = codes "or"
binary_name binary.And = codes "and"
binary_name binary.LeftShift = codes "lsh"
binary_name binary.RightShift = codes "rsh"
binary_name binary.Mod = codes "mod"
binary_name binary.SignedMod = codes "smod"
binary_name binary.Xor = codes "xor"
binary_name binary.Mov = codes "mov"
binary_name binary.SignedRightShift = codes "arsh"

-- Arithmetic and jumps on 32 bits have a suffix.
abbrev pub width_suffix : Width → List ℕ
width_suffix Bits32 = codes "32"
width_suffix Bits64 = []

-- Moves that extend the sign (section 4.1).
abbrev pub extension_suffix : Extension → List ℕ
extension_suffix Byte64 = codes "8"
extension_suffix Half64 = codes "16"
extension_suffix Word64 = codes "32"
extension_suffix Byte32 = codes "8_32"
extension_suffix Half32 = codes "16_32"

-- Byte swaps (section 4.2).
abbrev pub order_name : ByteOrder → List ℕ
order_name Little = codes "le"
order_name Big = codes "be"
order_name Swap = codes "swap"

-- How many bits a byte swap keeps.
abbrev pub swap_suffix : SwapWidth → List ℕ
swap_suffix swap.Bits16 = codes "16"
swap_suffix swap.Bits32 = codes "32"
swap_suffix swap.Bits64 = codes "64"

-- Conditional jumps (section 4.3).
abbrev pub condition_name : Condition → List ℕ
condition_name condition.Equal = codes "jeq"
condition_name condition.Greater = codes "jgt"
condition_name condition.GreaterOrEqual = codes "jge"
condition_name condition.BitsSet = codes "jset"
condition_name condition.NotEqual = codes "jne"
condition_name condition.SignedGreater = codes "jsgt"
condition_name condition.SignedGreaterOrEqual = codes "jsge"
condition_name condition.Less = codes "jlt"
condition_name condition.LessOrEqual = codes "jle"
condition_name condition.SignedLess = codes "jslt"
condition_name condition.SignedLessOrEqual = codes "jsle"

-- The sizes of loads and stores (section 5).
abbrev pub size_suffix : Size → List ℕ
size_suffix Word = codes "w"
size_suffix Half = codes "h"
size_suffix Byte = codes "b"
size_suffix Double = codes "dw"

-- The sizes of loads; those that extend the sign have an s (section 5.2).
abbrev pub load_suffix : LoadSize → List ℕ
load_suffix (Plain size) = size_suffix size
load_suffix (Signed signed.Word) = codes "sw"
load_suffix (Signed signed.Half) = codes "sh"
load_suffix (Signed signed.Byte) = codes "sb"

-- Stores of a number and of a register (section 5.1).
abbrev pub store_name : SourceKind → List ℕ
store_name Immediate = codes "st"
store_name Register = codes "stx"

-- Atomic operations (section 5.3).
abbrev pub atomic_name : AtomicOp → List ℕ
atomic_name atomic.Add = codes "atomic_add"
atomic_name atomic.Or = codes "atomic_or"
atomic_name atomic.And = codes "atomic_and"
atomic_name atomic.Xor = codes "atomic_xor"
atomic_name atomic.FetchAdd = codes "atomic_fetch_add"
atomic_name atomic.FetchOr = codes "atomic_fetch_or"
atomic_name atomic.FetchAnd = codes "atomic_fetch_and"
atomic_name atomic.FetchXor = codes "atomic_fetch_xor"
atomic_name atomic.Exchange = codes "atomic_xchg"
atomic_name atomic.CompareExchange = codes "atomic_cmpxchg"

-- The width of an atomic operation.
abbrev pub atomic_suffix : Width → List ℕ
atomic_suffix Bits32 = codes "32"
atomic_suffix Bits64 = codes "64"

-- Wide loads (section 5.4).
abbrev pub wide_name : WideKind → List ℕ
wide_name Number = codes "lddw"
wide_name Map = codes "ldmap"
wide_name MapValue = codes "ldmapval"

-- The name of a mnemonic.
abbrev pub name_of : Mnemonic → List ℕ
name_of (Binary op width) = binary_name op ++ width_suffix width
name_of (Negate width) = codes "neg" ++ width_suffix width
name_of (SignExtend extension) = codes "movsx" ++ extension_suffix extension
name_of (SwapBytes order width) = order_name order ++ swap_suffix width
name_of (JumpIf condition width) = condition_name condition ++ width_suffix width
name_of Jump = codes "ja"
name_of JumpLong = codes "ja32"
name_of CallHelper = codes "call"
name_of CallLocal = codes "callf"
name_of Exit = codes "exit"
name_of (Load size) = codes "ldx" ++ load_suffix size
name_of (Store size kind) = store_name kind ++ size_suffix size
name_of (Atomic op width) = atomic_name op ++ atomic_suffix width
name_of (LoadWide kind) = wide_name kind
