use Rattle.std.proofs.Common.{ap, ◌∙◌}
use Rattle.bpfdb_script.specs.ReadLines.{Holds}
use Rattle.bpf_questions.specs.Inquiries.{inquiry_of}
use Rattle.bpf_questions.proofs.Telling.{hears-inquiry, hears-long}
use Rattle.bpf_questions.proofs.conversation.hear.Goals as goal

pub returns-in_default : goal.returns-in_default
returns-in_default g c = λ text held.
    hears-long g.K.Keeper.holds g.K.Keeper.refused g.K.Keeper.room c.args.view.now (c.args.session.now, c.args.past) text _ (rw c.in_default.is at (c.bytes.ensures text held)) c.in_ok-refused.ensures

pub returns-in-Some-inquiry_in : goal.returns-in-Some-inquiry_in
returns-in-Some-inquiry_in g c =
    hears-inquiry g.K.Keeper.holds g.K.Keeper.refused g.K.Keeper.room c.args.view.now c.answer.result (c.args.session.now, c.args.past) c.answer.new.session _ _ (Holds c.args.line.now) c.if-not-view.false
    (λ text held. (rw c.in-Some-inquiry_in.is at c.inquiry_in.ensures) ∙ ap inquiry_of (rw c.in-Some.is at (c.bytes.ensures text held))) c.answer.ensures
