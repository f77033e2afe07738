use Rattle.std.proofs.Common.{◌≡◌}
use Rattle.counted_io.specs.Writing.{WritesAfter}
use Rattle.bpf_link.specs.Names.{built}
use Rattle.bpf_lines.specs.Spots.{spot_in, with_part}
use Rattle.bpf_lines.proofs.spot.put_path.Given as goal

abbrev pub invariant-loop : goal.invariant-loop
invariant-loop g l = record {
  at : l.at ≡ spot_in l.types l.fn.spot l.counter;
  written : WritesAfter g.W.Write.contents l.fn.writer l.fn.so_far l.writer l.told (built (with_part l.types l.fn.spot) l.counter);
}
