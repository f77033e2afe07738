use Rattle.std.proofs.Common.{◌≡◌, ◌≤◌, None, length}
use Rattle.std.specs.Prelude.{drop}
use Rattle.bpf_cover.specs.Places.{last_cut}
use Rattle.bpf_cover.proofs.places.last_cut.Given as goal

abbrev pub invariant-loop-end : goal.invariant-loop-end
invariant-loop-end l = (l.end ≤ length l.text) × (last_cut l.byte (drop l.end l.text) ≡ None)

abbrev pub decreases-loop-end : goal.decreases-loop-end
decreases-loop-end l = l.end
