use Rattle.std.proofs.Common.{◌≡◌, length}
use Rattle.bpf_lines.specs.NamedMaps.{first_maps}
use Rattle.bpf_lines.proofs.named_maps.named_maps.Given as goal

abbrev pub invariant-loop-k : goal.invariant-loop-k
invariant-loop-k l = record {
  maps : l.maps.items ≡ first_maps l.plan l.types l.own l.sections l.shapes l.places l.k;
  size : length l.maps.items ≡ l.k;
}
