-- What a row of the tables says of a word's fields (RFC 9669, section 3.1): each is unused and zero, or holds a number of the row, or a part of the instruction. The tables stand whole in appendix A.
use Rattle.std.specs.Prelude.{◌≡◌, ℕ}
use Rattle.bpf_isa.specs.declared.row.Field.{Field}
use Rattle.bpf_isa.specs.declared.row.Field.TheVariants.{Unused, Code, Used}
use Rattle.bpf_isa.specs.declared.instruction.Width.{Width}
use Rattle.bpf_isa.specs.declared.instruction.Width.TheVariants.{Bits32, Bits64}
use Rattle.bpf_isa.specs.declared.instruction.SourceKind.{SourceKind}
use Rattle.bpf_isa.specs.declared.instruction.SourceKind.TheVariants.{Immediate, Register}

-- Whether a number may stand in a field, as far as the row's own numbers go.
abbrev pub HasCode : Field → ℕ → Type 0
HasCode (Code k) n = n ≡ k
HasCode _ n = Unit {0}

-- Whether a number may stand in a field, as far as unused fields go.
abbrev pub IsClear : Field → ℕ → Type 0
IsClear Unused n = n ≡ 0
IsClear _ n = Unit {0}

-- The four opcodes of a row of arithmetic: K32, X32, K64, X64.
abbrev pub alu : ℕ → ℕ → ℕ → ℕ → Width → SourceKind → ℕ
alu k32 x32 k64 x64 Bits32 Immediate = k32
alu k32 x32 k64 x64 Bits32 Register = x32
alu k32 x32 k64 x64 Bits64 Immediate = k64
alu k32 x32 k64 x64 Bits64 Register = x64

-- The four opcodes of a row of jumps: K64, X64, K32, X32.
abbrev pub jmp : ℕ → ℕ → ℕ → ℕ → Width → SourceKind → ℕ
jmp k64 x64 k32 x32 width source = alu k32 x32 k64 x64 width source

-- The form K uses imm.
abbrev pub imm_of : SourceKind → Field
imm_of Immediate = Used
imm_of Register = Unused

-- The form X uses src.
abbrev pub src_of : SourceKind → Field
src_of Immediate = Unused
src_of Register = Used
