use Rattle.std.proofs.Common.{◌≡◌, ℕ, List, drop}
use Rattle.bpf_entries.specs.Keeping.{Kept}
use Rattle.bpf_whynot.specs.Overwrites.{over_after}
use Rattle.bpf_whynot.specs.declared.over.Over.TheVariants.{Unwritten}
use Rattle.bpf_whynot.proofs.Unmaking.{StandsAt}
use Rattle.bpf_whynot.proofs.over.branch_over.Given as goal

abbrev pub invariant-loop-k : goal.invariant-loop-k
invariant-loop-k g l = record {
  stands : (es : List Kept) → g.K.Keeper.holds l.keeper es → StandsAt g.K.Keeper.holds g.K.Keeper.place l.keeper es l.depth l.at l.deep l.k;
  known : (es : List Kept) → g.K.Keeper.holds l.keeper es
      → over_after l.program l.made 0 l.depth es Unwritten ≡ over_after l.program l.made l.k l.deep (drop l.k es) l.over;
}
