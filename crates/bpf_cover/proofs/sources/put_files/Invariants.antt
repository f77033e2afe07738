use Rattle.std.proofs.Common.{◌≤◌, ◌-◌, false, length}
use Rattle.std.specs.Prelude.{drop, flat_map}
use Rattle.bpfdb_script.proofs.Telling.{Telling}
use Rattle.bpf_cover.specs.Sources.{file_text, groups}
use Rattle.bpf_cover.proofs.sources.put_files.Given as goal

abbrev pub invariant-loop-start : goal.invariant-loop-start
invariant-loop-start g l = record {
  within : l.start ≤ length l.spots;
  telling : Telling g.W.Write.contents l.fn.writer l.fn.so_far l.writer l.told (flat_map (file_text l.marks) (groups false (drop l.start l.spots)))
      (flat_map (file_text l.marks) (groups false l.spots));
}

abbrev pub decreases-loop-start : goal.decreases-loop-start
decreases-loop-start g l = length l.spots - l.start
