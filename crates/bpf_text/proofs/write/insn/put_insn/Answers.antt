-- The name and then the operands.
use Rattle.std.proofs.Common.{ap, ◌∙◌, ◌++◌}
use Rattle.bpf_isa.specs.Mnemonics.{mnemonic_of}
use Rattle.bpf_text.specs.Mnemonics.{name_of}
use Rattle.bpf_text.specs.Operands.{operands_text}
use Rattle.bpf_text.specs.Scaffolding.Named.{stem_of, suffix_of}
use Rattle.bpf_text.proofs.MnemonicNames.{name-pieces}
use Rattle.counted_io.proofs.Appending.{WritesAfter-WritesAfter}
use Rattle.bpf_text.proofs.write.insn.put_insn.Goals as goal

pub returns : goal.returns
returns g c =
    let insn = c.args.insn in
    let operands = operands_text c.operands_of.result in
    let stem = c.as_bytes-stem.ensures.value ∙ c.stem_of.ensures ∙ ap stem_of c.of-mnemonic.ensures in
    let suffix = c.as_bytes-suffix.ensures.value ∙ c.suffix_of.ensures ∙ ap suffix_of c.of-mnemonic.ensures in
    WritesAfter-WritesAfter g.W.Write.contents _ _ _ _ _ _ _ _ _ c.put_all-named.ensures c.put_operands.ensures
    (ap (λ s. s ++ c.as_bytes-suffix.result.now ++ operands) stem
    ∙ ap (λ s. stem_of (mnemonic_of insn) ++ s ++ operands) suffix
    ∙ ap (λ s. s ++ operands) (name-pieces (mnemonic_of insn))
    ∙ ap (λ o. name_of (mnemonic_of insn) ++ operands_text o) c.operands_of.ensures)
