use Rattle.std.proofs.Common.{◌≡◌, ◌<◌, length}
use Rattle.std.specs.Prelude.{IfSome}
use Rattle.bpf_btf.specs.Maps.{last_below}
use Rattle.bpf_join.specs.Spots.{offers}
use Rattle.bpf_link.specs.Tables.{symbol_at}
use Rattle.bpf_join.proofs.spots.offered.Given as goal

abbrev pub invariant-loop-i : goal.invariant-loop-i
invariant-loop-i l = record {
  found : l.found ≡ last_below (λ i. offers l.second l.name (symbol_at l.second.symbols i)) l.i;
  below : IfSome l.found (λ i. i < length l.second.symbols);
}
