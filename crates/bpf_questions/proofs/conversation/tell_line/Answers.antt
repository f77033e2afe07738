use Rattle.std.proofs.Common.{refl}
use Rattle.counted_io.proofs.Appending.{Writes-none}
use Rattle.bpf_questions.specs.Conversations.{nothing, says}
use Rattle.bpf_questions.specs.Messages.{message_text}
use Rattle.bpf_questions.proofs.Telling.{counts-unwritten, tells-unwritten}
use Rattle.bpf_questions.proofs.conversation.tell_line.Goals as goal

pub returns-in-Nothing-clause-tells : goal.returns-in-Nothing-clause-tells
returns-in-Nothing-clause-tells g c = λ text held.
    (nothing, rw c.in-Nothing.is at (c.in-Ok.ensures text held), refl, Writes-none g.W.Write.contents c.args.writer.now tt)

pub returns-in-Ok-write_message-clause-tells : goal.returns-in-Ok-write_message-clause-tells
returns-in-Ok-write_message-clause-tells g c = λ text held.
    (says c.in-Says.message.kind c.in-Says.message.text.items, rw c.in-Says.is at (c.in-Ok.ensures text held), refl, rw c.saturating_add.ensures at c.in-Ok-write_message.ensures)

pub returns-clause-tells : goal.returns-clause-tells
returns-clause-tells g c = λ text held.
    tells-unwritten g.K.Keeper.holds g.K.Keeper.refused g.K.Keeper.room c.args.view.now g.W.Write.contents _ (c.args.session.now, c.args.progress.past) c.hear.new.session c.in-Ok.past _ text _ c.in-Says.message.kind c.args.writer.now _
    (rw c.in-Says.is at (c.in-Ok.ensures text held)) (rw (c.saturating_add.ensures, c.in-Err.is) at c.write_message.ensures)

pub returns-in-Ok-write_message-clause-counts : goal.returns-in-Ok-write_message-clause-counts
returns-in-Ok-write_message-clause-counts g c = c.in-Ok-write_message.ensures.same

pub returns-clause-counts : goal.returns-clause-counts
returns-clause-counts g c =
    counts-unwritten g.W.Write.contents c.args.writer.now c.write_message.new.writer c.in-Err.fault
    (message_text c.args.view.now.form c.saturating_add.result c.in-Says.message.kind c.in-Says.message.text.items) (rw c.in-Err.is at c.write_message.ensures)
