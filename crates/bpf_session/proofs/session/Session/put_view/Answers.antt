use Rattle.std.proofs.Common.{ap, ◌∙◌}
use Rattle.bpf_session.specs.Replies.{text_of_view}
use Rattle.bpf_session.proofs.session.Session.put_view.Goals as goal

pub returns-in-Breaks : goal.returns-in-Breaks
unfolding text_of_view
returns-in-Breaks g c = λ h past.
    let slots = c.as_slice.ensures ∙ ap (λ s. s.breaks) c.self.view_is in
    let addresses = c.as_slice-in-Breaks.ensures ∙ ap (λ s. s.watches) c.self.view_is in
    rw c.in-Breaks.is (rw (slots, addresses) at c.put_breaks.ensures)

pub returns-in-History : goal.returns-in-History
unfolding text_of_view
returns-in-History g c = λ h past.
    let held = rw (← c.self.view_is) at past in
    let room = c.capacity.ensures ∙ ap g.K.Keeper.room c.keeper.ensures in
    rw c.in-History.is (rw (c.len.ensures h held, c.marked.ensures h held, c.weight.ensures h held, room) at c.put_history.ensures)

pub returns-in-LastWrite : goal.returns-in-LastWrite
unfolding text_of_view
returns-in-LastWrite g c = λ h past. rw c.in-LastWrite.is (c.put_last.ensures h past)
