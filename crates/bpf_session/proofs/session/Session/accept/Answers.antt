use Rattle.std.proofs.Common.{refl}
use Rattle.bpf_session.specs.Meaning.{accepted}
use Rattle.bpf_session.specs.Sessions.{point_of}
use Rattle.bpf_session.proofs.Accepting.{in_sight, is_editable, runs_on}
use Rattle.bpf_session.proofs.session.Session.accept.Goals as goal

pub forward-requires : goal.forward-requires
forward-requires g c =
    let i = c.invariant.ensures in
    runs_on _ (point_of c.args.self.now i.track) (rw c.in-Forward.is at c.requires i.track i.follows)

pub edit-requires : goal.edit-requires
edit-requires g c =
    let i = c.invariant.ensures in
    is_editable c.before.in-Edit.edit (point_of c.args.self.now i.track) (rw c.in-Edit.is at c.requires i.track i.follows)

pub returns-in-Forward : goal.returns-in-Forward
unfolding accepted
returns-in-Forward g c = rw c.in-Forward.is c.forward.ensures

pub returns-in-Back : goal.returns-in-Back
unfolding accepted
returns-in-Back g c = rw c.in-Back.is c.back.ensures

pub returns-in-Redo : goal.returns-in-Redo
unfolding accepted
returns-in-Redo g c = rw c.in-Redo.is c.redo.ensures

pub returns-in-Edit : goal.returns-in-Edit
unfolding accepted
returns-in-Edit g c = rw c.in-Edit.is c.edit.ensures

pub returns-in-Add : goal.returns-in-Add
unfolding accepted
returns-in-Add g c = rw c.in-Add.is c.add.ensures

pub returns-in-Remove : goal.returns-in-Remove
unfolding accepted
returns-in-Remove g c = rw c.in-Remove.is c.remove.ensures

pub returns-in-Show : goal.returns-in-Show
unfolding accepted
returns-in-Show g c =
    let i = c.invariant.ensures in
    rw c.in-Show.is (record {
      answered = λ h past. refl;
      stands = λ h past. (refl, past);
      counted = refl;
      bounds = refl;
      there = in_sight _ (point_of c.args.self.now i.track) (rw c.in-Show.is at c.requires i.track i.follows);
    })
