use Rattle.std.proofs.Common.{◌≡◌, ◌+◌, Some, arith}
use Rattle.bpf_isa.specs.declared.instruction.Width.{Width}
use Rattle.bpf_isa.specs.declared.instruction.BinaryOp.TheVariants.{Div, SignedDiv}
use Rattle.bpf_isa.specs.declared.instruction.SourceKind.{SourceKind}
use Rattle.bpf_isa.specs.declared.fields.Fields.{Fields}
use Rattle.bpf_isa.specs.declared.mnemonic.Mnemonic.{Mnemonic}
use Rattle.bpf_isa.specs.declared.mnemonic.Mnemonic.TheVariants.{Binary}
use Rattle.bpf_isa.specs.Scaffolding.Codec.{row, source_bit_of, class_of}
use Rattle.bpf_isa.specs.Words.{HasCodes}
use Rattle.bpf_isa.proofs.opcode.arithmetic.division_mnemonic.Goals as goal

is_division : (mnemonic : Mnemonic) (kind : SourceKind) (fields : Fields) (width : Width) (source : SourceKind) → fields.opcode ≡ 0x30 + source_bit_of source + class_of width → fields.offset ≡ 0 → HasCodes (row mnemonic kind) fields → Some (Binary Div width) ≡ Some mnemonic
is_division mnemonic kind fields width source opcode offset codes = grind arith

is_signed : (mnemonic : Mnemonic) (kind : SourceKind) (fields : Fields) (width : Width) (source : SourceKind) → fields.opcode ≡ 0x30 + source_bit_of source + class_of width → fields.offset ≡ 1 → HasCodes (row mnemonic kind) fields → Some (Binary SignedDiv width) ≡ Some mnemonic
is_signed mnemonic kind fields width source opcode offset codes = grind arith

pub returns-in-0-clause-only : goal.returns-in-0-clause-only
returns-in-0-clause-only c = λ mnemonic kind codes. is_division mnemonic kind _ _ _ c.requires c.in-0.is codes

pub returns-in-1-clause-only : goal.returns-in-1-clause-only
returns-in-1-clause-only c = λ mnemonic kind codes. is_signed mnemonic kind _ _ _ c.requires c.in-1.is codes
