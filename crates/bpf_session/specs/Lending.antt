-- What a session is once the loan of its course is over.
use Rattle.std.specs.Borrow.{Fml, Lends, MutBor, RattleType}
use Rattle.bpf_journal.specs.Tracks.{CourseValue}
use Rattle.bpf_journal.specs.contracts.course.Course as course
use Rattle.bpf_journal.specs.declared.keeper.Keeper.{Ghosts}
use Rattle.bpf_session.specs.Sessions.{SessionValue}
use Rattle.bpf_session.specs.contracts.session.Session.{the_row}

module _ (K : RattleType) (keeper : Ghosts K.Denot) where
  -- It stands where the course does; breakpoints, watches and the limit are as they were.
  abbrev pub LendsCourse : MutBor (SessionValue K.Denot) → MutBor (CourseValue K.Denot) → Fml
  LendsCourse s c = Lends (the_row K keeper) (course.the_row K keeper) s c (λ moment. record s.now { moment = moment })
