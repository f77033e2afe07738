use Rattle.std.proofs.Common.{refl, sym, subst, false, arith}
use Rattle.std.specs.Prelude.{IsTrue}
use Rattle.bpf_isa.specs.Words.{HasRegisters, IsClean}
use Rattle.bpf_isa.proofs.Readings.{reads_none, unknown_fault, register_fault, is_read, no_word, ok_reading}
use Rattle.bpf_isa.proofs.decoder.read_insn.Goals as goal

not_true : IsTrue false → ⊥
not_true e = cc

pub returns-in-None-clause-fault : goal.returns-in-None-clause-fault
returns-in-None-clause-fault c = record { least = unknown_fault c.args.bytes.now c.read-fields.result c.read-fields.ensures.value c.in-None.ensures.only; early = omega arith }

pub returns-in-None-clause-only : goal.returns-in-None-clause-only
returns-in-None-clause-only c = λ insn whole. absurd (reads_none c.args.bytes.now c.read-fields.result c.read-fields.ensures.value c.in-None.ensures.only insn whole.reads)

pub returns-then-not-has_registers-clause-fault : goal.returns-then-not-has_registers-clause-fault
returns-then-not-has_registers-clause-fault c =
    let above : HasRegisters c.read-fields.result → ⊥ = λ registers. not_true (c.if-not-has_registers.ensures.1 registers) in
    record { least = register_fault c.args.bytes.now c.read-fields.result c.in-Some.mnemonic c.source_kind-source.result c.read-fields.ensures.value c.in-Some.ensures.found above; early = omega arith }

pub returns-then-not-is_clean-clause-only : goal.returns-then-not-is_clean-clause-only
returns-then-not-is_clean-clause-only c =
    let insn = c.insn_of-insn.ensures in
    λ other whole. absurd (no_word c.args.bytes.now c.read-fields.result _ _ _ c.read-fields.ensures.value c.in-Some.ensures.found c.in-Some.ensures.only insn.mnemonic insn.row insn.parts (λ clean. not_true (c.if-not-is_clean.ensures.1 (subst (λ r. IsClean r c.read-fields.result) (sym c.of.ensures) clean))) other whole)

pub returns-clause-ok : goal.returns-clause-ok
returns-clause-ok c =
    let clean = subst (λ r. IsClean r c.read-fields.result) c.of.ensures (c.if-not-is_clean.ensures.0 refl) in
    let insn = c.insn_of-insn.ensures in
    is_read c.args.bytes.now c.read-fields.result _ _ _ c.read-fields.ensures.value c.read-fields.ensures.within c.in-Some.ensures.found c.in-Some.ensures.only insn.mnemonic insn.row insn.parts (c.if-not-has_registers.ensures.0 refl) clean

pub returns-clause-only : goal.returns-clause-only
returns-clause-only c =
    let clean = subst (λ r. IsClean r c.read-fields.result) c.of.ensures (c.if-not-is_clean.ensures.0 refl) in
    let insn = c.insn_of-insn.ensures in
    let read = is_read c.args.bytes.now c.read-fields.result _ _ _ c.read-fields.ensures.value c.read-fields.ensures.within c.in-Some.ensures.found c.in-Some.ensures.only insn.mnemonic insn.row insn.parts (c.if-not-has_registers.ensures.0 refl) clean in
    λ other whole. ok_reading c.args.bytes.now _ other read whole
