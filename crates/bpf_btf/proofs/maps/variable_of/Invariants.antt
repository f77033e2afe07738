use Rattle.std.proofs.Common.{◌≡◌, ◌<◌}
use Rattle.std.specs.Prelude.{IfSome}
use Rattle.bpf_btf.specs.Maps.{last_below, is_variable_at}
use Rattle.bpf_btf.proofs.maps.variable_of.Given as goal

abbrev pub invariant-loop-i : goal.invariant-loop-i
invariant-loop-i l = record {
  found : l.found ≡ last_below (is_variable_at l.btf l.name l.section) l.i;
  below : IfSome l.found (λ i. i < 65536);
}
