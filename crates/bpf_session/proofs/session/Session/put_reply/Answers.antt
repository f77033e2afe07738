use Rattle.bpf_session.specs.Replies.{text_of_reply}
use Rattle.bpf_session.proofs.session.Session.put_reply.Goals as goal

pub returns-in-Forward : goal.returns-in-Forward
unfolding text_of_reply
returns-in-Forward g c = λ h past. rw c.in-Forward.is (rw c.cpu-cpu.ensures at c.put_move.ensures)

pub returns-in-Back : goal.returns-in-Back
unfolding text_of_reply
returns-in-Back g c = λ h past. rw c.in-Back.is (rw c.cpu-cpu.ensures at c.put_move-in-Back.ensures)

pub returns-in-Redone : goal.returns-in-Redone
unfolding text_of_reply
returns-in-Redone g c = λ h past. rw c.in-Redone.is (rw c.cpu-cpu.ensures at c.put_move-in-Redone.ensures)

pub returns-in-Shown : goal.returns-in-Shown
unfolding text_of_reply
returns-in-Shown g c = λ h past. rw c.in-Shown.is (c.put_view.ensures h past)
