use Rattle.std.proofs.Common.{◌≤◌, ◌-◌, []}
use Rattle.bpf_journal.specs.Tracks.{track_of}
use Rattle.bpf_session.specs.Backward.{passes}
use Rattle.bpf_session.specs.Sessions.{point_of}
use Rattle.bpf_session.proofs.Backwards.{Seeking}
use Rattle.bpf_session.proofs.session.Session.back_to.Given as goal

abbrev pub invariant-loop-gone : goal.invariant-loop-gone
invariant-loop-gone g l = record {
  within : l.gone ≤ l.kept;
  seeking : Seeking g.K.Keeper.holds g.K.Keeper.refused g.K.Keeper.room (passes l.target (point_of l.initial.self (track_of []))) l.count l.initial.self l.self l.seen l.left l.gone;
}

abbrev pub decreases-loop-gone : goal.decreases-loop-gone
decreases-loop-gone g l = l.kept - l.gone
