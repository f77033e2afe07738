use Rattle.std.proofs.Common.{◌≤◌, List}
use Rattle.bpf_entries.specs.Keeping.{Kept}
use Rattle.bpf_journal.proofs.Walks.{Walking}
use Rattle.bpf_journal.proofs.keeper.Keeper.steps.Given as goal

abbrev pub invariant-loop : goal.invariant-loop
invariant-loop g l =
    (l.steps ≤ l.counter)
    × ((es : List Kept) → g.Self.Keeper.holds l.self es → Walking g.Self.Keeper.holds g.Self.Keeper.place l.self es l.at l.steps l.counter)
