-- The laws of definitions.
use Rattle.std.proofs.Common.{◌∙◌, ap, sym}
use Rattle.bpf_text.specs.Scaffolding.Named.{named}
use Rattle.bpf_text.proofs.Assembling.{one-size, one-insn, one-assembly}
use Rattle.bpf_text.proofs.ListingGrammar.{one-cut}
use Rattle.bpf_text.proofs.MnemonicNames.{named-name_of}
use Rattle.bpf_text.proofs.laws.one_reading.Goals as goal

pub returns : goal.returns
returns c = record {
  value = λ a b e. let same = sym (named-name_of a) ∙ ap named e ∙ named-name_of b in cc;
  instructions = one-insn;
  sizes = one-size;
  lines = one-cut;
  only = one-assembly;
}
