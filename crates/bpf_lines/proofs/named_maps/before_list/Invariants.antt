use Rattle.std.proofs.Common.{◌≡◌, ◌<◌, ◌+◌}
use Rattle.std.specs.Prelude.{IfSome}
use Rattle.bpf_btf.specs.Maps.{last_below}
use Rattle.bpf_lines.specs.NamedMaps.{is_list}
use Rattle.bpf_lines.proofs.named_maps.before_list.Given as goal

abbrev pub invariant-loop-i : goal.invariant-loop-i
invariant-loop-i l = record {
  found : l.found ≡ last_below (λ i. is_list l.types l.name (i + 1)) l.i;
  below : IfSome l.found (λ i. i < 18446744073709551615);
}
