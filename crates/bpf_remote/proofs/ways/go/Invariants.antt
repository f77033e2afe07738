use Rattle.std.proofs.Common.{◌-◌}
use Rattle.bpf_steps.specs.State.{depth}
use Rattle.bpf_remote.specs.Ways.{wants_again}
use Rattle.bpf_remote.proofs.Rounds.{Gone}
use Rattle.bpf_remote.proofs.ways.go.Given as goal

abbrev pub invariant-rounds : goal.invariant-rounds
invariant-rounds g l =
    Gone g.K.Keeper.holds g.K.Keeper.refused g.K.Keeper.room l.command (wants_again l.request l.conditions (depth l.fn.session.moment.state))
    l.fn.session l.session l.fn.moves l.moves l.made

-- the moves that are left
abbrev pub decreases-rounds : goal.decreases-rounds
decreases-rounds g l = l.limit - l.made
