use Rattle.std.proofs.Common.{◌≡◌, ◌<◌}
use Rattle.std.specs.Prelude.{IfSome}
use Rattle.bpf_btf.specs.Maps.{last_below, is_maps_at}
use Rattle.bpf_btf.proofs.maps.maps_section.Given as goal

abbrev pub invariant-loop-i : goal.invariant-loop-i
invariant-loop-i l = record {
  found : l.found ≡ last_below (is_maps_at l.btf) l.i;
  below : IfSome l.found (λ i. i < 18446744073709551615);
}
