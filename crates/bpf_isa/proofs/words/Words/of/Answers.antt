use Rattle.std.proofs.Common.{◌<◌, ℕ, arith}
use Rattle.std.proofs.lemmas.Grind.{common_steps}
use Rattle.std.proofs.lemmas.List.Elements.{All-take}
use Rattle.bpf_isa.proofs.words.Words.of.Goals as goal

pub returns : goal.returns
returns c = record {
  value = grind (arith, common_steps);
  within = All-take (λ (byte : ℕ). byte < 256) _ c.to_bytes.result c.to_bytes.ensures.within;
  wide = grind (arith, common_steps);
  short = grind (arith, common_steps);
}
