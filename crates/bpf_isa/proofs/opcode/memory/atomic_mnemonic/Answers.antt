use Rattle.std.proofs.Common.{◌≡◌, arith}
use Rattle.bpf_isa.specs.declared.instruction.Width.{Width}
use Rattle.bpf_isa.specs.declared.instruction.AtomicOp.{AtomicOp}
use Rattle.bpf_isa.specs.declared.instruction.SourceKind.{SourceKind}
use Rattle.bpf_isa.specs.declared.fields.Fields.{Fields}
use Rattle.bpf_isa.specs.declared.mnemonic.Mnemonic.{Mnemonic}
use Rattle.bpf_isa.specs.declared.mnemonic.Mnemonic.TheVariants.{Atomic}
use Rattle.bpf_isa.specs.Memory.{atomic_opcode, atomic_code}
use Rattle.bpf_isa.specs.Scaffolding.Codec.{row}
use Rattle.bpf_isa.specs.Words.{HasCodes}
use Rattle.bpf_isa.proofs.opcode.memory.atomic_mnemonic.Goals as goal

-- an atomic opcode is that of an atomic operation
is_atomic : (mnemonic : Mnemonic) (kind : SourceKind) (fields : Fields) (width : Width) → fields.opcode ≡ atomic_opcode width → HasCodes (row mnemonic kind) fields → (op : AtomicOp) × (mnemonic ≡ Atomic op width) × (fields.imm ≡ atomic_code op)
is_atomic mnemonic kind fields width opcode codes = grind arith

pub returns-in-None-clause-only : goal.returns-in-None-clause-only
returns-in-None-clause-only c = λ mnemonic kind codes.
    let known = is_atomic mnemonic kind _ _ c.requires codes in
    let only = c.atomic_op.ensures.only known.0 known.2 in
    cc only

pub returns-in-Some-clause-only : goal.returns-in-Some-clause-only
returns-in-Some-clause-only c = λ mnemonic kind codes.
    let known = is_atomic mnemonic kind _ _ c.requires codes in
    let only = c.atomic_op.ensures.only known.0 known.2 in
    cc (known.1, only)
