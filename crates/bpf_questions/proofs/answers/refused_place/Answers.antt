use Rattle.std.proofs.Common.{ap}
use Rattle.counted_io.proofs.Appending.{Writes-none}
use Rattle.bpf_questions.specs.Conversations.{says}
use Rattle.bpf_questions.specs.declared.message.Kind.TheVariants as kind
use Rattle.bpf_questions.proofs.answers.refused_place.Goals as goal

pub returns-in-Ok : goal.returns-in-Ok
returns-in-Ok c =
    let w = rw c.in-Ok.is at (c.put_no_place.ensures _ _ (Writes-none _ c.new-writer.result _)) in
    ap (says kind.Refused) (rw c.into_inner.ensures (rw (c.new-writer.ensures, c.new.ensures.items) at w.ok))
