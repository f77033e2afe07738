use Rattle.std.proofs.Common.{◌≡◌, ◌<◌, length}
use Rattle.std.specs.Prelude.{IfSome}
use Rattle.bpf_btf.specs.Maps.{last_below}
use Rattle.bpf_join.specs.Functions.{answers}
use Rattle.bpf_link.specs.Tables.{symbol_at}
use Rattle.bpf_join.proofs.functions.answering.Given as goal

abbrev pub invariant-loop-i : goal.invariant-loop-i
invariant-loop-i l = record {
  found : l.found ≡ last_below (λ i. answers l.functions l.helper (symbol_at l.functions.symbols i)) l.i;
  below : IfSome l.found (λ i. i < length l.functions.symbols);
}
