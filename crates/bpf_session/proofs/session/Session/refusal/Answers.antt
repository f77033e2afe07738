use Rattle.bpf_session.proofs.session.Session.refusal.Goals as goal

pub returns-in-Edit : goal.returns-in-Edit
returns-in-Edit g c = λ h past. rw c.in-Edit.is (c.edit_refusal.ensures h)
