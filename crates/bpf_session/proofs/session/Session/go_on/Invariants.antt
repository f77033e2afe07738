use Rattle.std.proofs.Common.{◌≤◌, ◌-◌}
use Rattle.bpf_session.proofs.Redoing.{Redoing}
use Rattle.bpf_session.proofs.session.Session.go_on.Given as goal

abbrev pub invariant-loop-made : goal.invariant-loop-made
invariant-loop-made g l =
    (l.made ≤ l.moves) × Redoing g.K.Keeper.holds g.K.Keeper.refused g.K.Keeper.room l.fn.self l.self l.made

abbrev pub decreases-loop-made : goal.decreases-loop-made
decreases-loop-made g l = l.moves - l.made
