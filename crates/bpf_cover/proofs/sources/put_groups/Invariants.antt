use Rattle.std.proofs.Common.{◌≤◌, ◌-◌, true, length}
use Rattle.std.specs.Prelude.{drop, flat_map}
use Rattle.bpfdb_script.proofs.Telling.{Telling}
use Rattle.bpf_cover.specs.Sources.{group_text, groups}
use Rattle.bpf_cover.proofs.sources.put_groups.Given as goal

abbrev pub invariant-loop-start : goal.invariant-loop-start
invariant-loop-start g l = record {
  within : l.start ≤ length l.spots;
  telling : Telling g.W.Write.contents l.fn.writer l.fn.so_far l.writer l.told (flat_map (group_text l.marks) (groups true (drop l.start l.spots)))
      (flat_map (group_text l.marks) (groups true l.spots));
}

abbrev pub decreases-loop-start : goal.decreases-loop-start
decreases-loop-start g l = length l.spots - l.start
