use Rattle.std.proofs.Common.{ℕ, List}
use Rattle.bpf_entries.specs.Keeping.{Kept}
use Rattle.bpf_isa.specs.Programs.{Checked}
use Rattle.bpf_whynot.specs.Tables.{AreGoals}
use Rattle.bpf_whynot.proofs.Unmaking.{HasNoticed, StandsAt}
use Rattle.bpf_whynot.proofs.made.leave_unmade.Given as goal

abbrev pub invariant-loop-k : goal.invariant-loop-k
invariant-loop-k g l = record {
  stands : (es : List Kept) → g.K.Keeper.holds l.keeper es → StandsAt g.K.Keeper.holds g.K.Keeper.place l.keeper es l.depth l.at l.deep l.k;
  noticed : (es : List Kept) (program : Checked) (goals : List ℕ) → g.K.Keeper.holds l.keeper es → AreGoals program goals l.fn.flags
      → HasNoticed program goals es l.depth l.flags l.newest l.deep l.k;
}
