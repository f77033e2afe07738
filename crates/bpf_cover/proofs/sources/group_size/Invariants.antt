use Rattle.std.proofs.Common.{◌≡◌, ◌<◌, ◌-◌, take}
use Rattle.std.specs.Prelude.{drop}
use Rattle.bpf_cover.proofs.Grouping.{onto-front}
use Rattle.bpf_cover.specs.Sources.{groups}
use Rattle.bpf_cover.proofs.sources.group_size.Given as goal

abbrev pub invariant-loop-at : goal.invariant-loop-at
invariant-loop-at l = record {
  begun : 0 < l.at;
  known : groups l.by_line l.spots ≡ onto-front (take (l.at - 1) l.spots) (groups l.by_line (drop (l.at - 1) l.spots));
}
