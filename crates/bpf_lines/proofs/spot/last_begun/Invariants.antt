use Rattle.std.proofs.Common.{◌≡◌, ◌<◌}
use Rattle.std.specs.Prelude.{IfSome, nat_le}
use Rattle.bpf_btf.specs.Maps.{last_below}
use Rattle.bpf_lines.specs.Spots.{begin_of}
use Rattle.bpf_lines.proofs.spot.last_begun.Given as goal

abbrev pub invariant-loop-i : goal.invariant-loop-i
invariant-loop-i l = record {
  found : l.found ≡ last_below (λ i. nat_le (begin_of l.types l.spot.of i) l.spot.offset) l.i;
  below : IfSome l.found (λ i. i < 65536);
}
