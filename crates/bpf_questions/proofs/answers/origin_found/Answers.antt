use Rattle.std.proofs.Common.{sym}
use Rattle.counted_io.proofs.Appending.{Writes-none}
use Rattle.bpf_questions.proofs.answers.origin_found.Goals as goal

pub returns-in-Ok-clause-text : goal.returns-in-Ok-clause-text
returns-in-Ok-clause-text g c = λ t past.
    let there = rw (c.course_mut.ensures.value, c.question_of-question.ensures t past, c.as_slice.ensures.value, c.parts_asked-parts.ensures, c.cpu.ensures) at (c.look_back-looked.ensures.text t (rw (sym c.course_mut.ensures.value) at past)) in
    let w = rw c.in-Ok.is at (there _ _ (Writes-none _ c.new-writer.result _)) in
    rw c.into_inner.ensures (rw (c.new-writer.ensures, c.new.ensures.items) at w.ok)
