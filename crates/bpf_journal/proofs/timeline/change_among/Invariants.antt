use Rattle.std.proofs.Common.{◌≤◌, ◌-◌, List}
use Rattle.bpf_entries.specs.Keeping.{Kept}
use Rattle.bpf_journal.proofs.ByteChanges.{Looking}
use Rattle.bpf_journal.proofs.timeline.change_among.Given as goal

abbrev pub invariant-loop-k : goal.invariant-loop-k
invariant-loop-k g l = record {
  within : l.k ≤ l.len;
  looking : (es : List Kept) → g.K.Keeper.holds l.keeper es → Looking g.K.Keeper.holds g.K.Keeper.place l.keeper es l.address l.value l.depth l.at l.deep l.k;
}

abbrev pub decreases-loop-k : goal.decreases-loop-k
decreases-loop-k g l = l.len - l.k
