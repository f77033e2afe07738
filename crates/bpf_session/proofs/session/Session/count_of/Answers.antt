use Rattle.std.proofs.Common.{arith}
use Rattle.bpf_session.specs.Sessions.{point_of}
use Rattle.bpf_session.proofs.Accepting.{some_kept}
use Rattle.bpf_session.proofs.session.Session.count_of.Goals as goal

pub returns-in-Steps-clause-some : goal.returns-in-Steps-clause-some
returns-in-Steps-clause-some g c =
    let t = c.invariant.ensures in
    let kept = some_kept c.in-Steps.count (point_of c.args.self.now t.track) (rw c.in-Steps.is at c.requires t.track t.follows) in
    let n = c.steps_up_to.ensures t.track (rw (← c.self.view_is) at t.follows) in
    omega (arith, kept, n)
