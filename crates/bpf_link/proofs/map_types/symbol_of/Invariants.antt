use Rattle.std.proofs.Common.{◌≡◌, ◌<◌, length}
use Rattle.std.specs.Prelude.{IfSome}
use Rattle.bpf_btf.specs.Maps.{last_below}
use Rattle.bpf_link.specs.MapTypes.{is_map_at}
use Rattle.bpf_link.specs.Tables.{symbol_at}
use Rattle.bpf_link.proofs.map_types.symbol_of.Given as goal

abbrev pub invariant-loop-i : goal.invariant-loop-i
invariant-loop-i l = record {
  found : l.found ≡ last_below (λ i. is_map_at l.plan l.place (symbol_at l.plan.symbols i)) l.i;
  below : IfSome l.found (λ i. i < length l.plan.symbols);
}
