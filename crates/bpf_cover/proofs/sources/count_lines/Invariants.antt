use Rattle.std.proofs.Common.{◌≡◌, ◌+◌, ◌-◌, ◌≤◌, length, true}
use Rattle.std.specs.Prelude.{count_by, drop}
use Rattle.bpf_cover.specs.Sources.{groups, line_ran}
use Rattle.bpf_cover.proofs.sources.count_lines.Given as goal

abbrev pub invariant-loop-start : goal.invariant-loop-start
invariant-loop-start l = record {
  within : l.start ≤ length l.spots;
  lines : l.lines + length (groups true (drop l.start l.spots)) ≡ length (groups true l.spots);
  ran : l.ran + count_by (line_ran l.marks) (groups true (drop l.start l.spots)) ≡ count_by (line_ran l.marks) (groups true l.spots);
  few : l.lines ≤ l.start;
  fewer : l.ran ≤ l.lines;
}

abbrev pub decreases-loop-start : goal.decreases-loop-start
decreases-loop-start l = length l.spots - l.start
