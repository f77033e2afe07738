use Rattle.std.proofs.Common.{◌+◌, ◌∙◌, ap, arith, refl, sym}
use Rattle.counted_io.proofs.Appending.{WritesAfter-WritesAfter}
use Rattle.bpf_cover.specs.Texts.{texts_of}
use Rattle.bpf_trace.proofs.Lines.{anyway, broken_more, trace_is}
use Rattle.bpf_trace.proofs.Stepping.{Steps-Steps, Steps-program, whole_run, whole_end, whole_way}
use Rattle.bpf_trace.proofs.trace.put_trace.Goals as goal

pub put_steps-taken-requires-clause-words : goal.put_steps-taken-requires-clause-words
put_steps-taken-requires-clause-words g c = record {
  texts = c.requires.words.texts ∙ ap texts_of (sym (Steps-program _ _ _ c.run-passed.ensures.steps));
  members = c.requires.words.members;
}

pub told_in-told-requires-clause-text : goal.told_in-told-requires-clause-text
told_in-told-requires-clause-text g c = c.text_of_slot-place.ensures

pub told_in-told-requires-clause-members : goal.told_in-told-requires-clause-members
told_in-told-requires-clause-members g c = λ is. c.requires.words.members is c.from-slot.result

pub returns-in-Err-clause-text : goal.returns-in-Err-clause-text
returns-in-Err-clause-text g c =
    let run = rw (c.min.ensures, c.before-2.ensures) at c.run-passed.ensures in
    broken_more g.W.Write.contents _ _ _ _ _ _ _ (rw c.in-Err.is at c.put_steps-taken.ensures.text)
    (trace_is c.args.limit c.min-2.result c.run-passed.result c.args.shown c.args.cpu.now _ _ run c.min-2.ensures refl)

pub returns-in-Err-clause-way : goal.returns-in-Err-clause-way
returns-in-Err-clause-way g c =
    let first = c.run-passed.ensures.within in
    let second = c.put_steps-taken.ensures.taken.within in
    let least = c.min.ensures in
    let most = c.min-2.ensures in
    (c.run-passed.result + c.put_steps-taken.result.steps, omega arith, Steps-Steps _ _ _ _ _ c.run-passed.ensures.steps c.put_steps-taken.ensures.taken.steps)

pub returns-clause-text : goal.returns-clause-text
returns-clause-text g c =
    let first = c.run-passed.ensures.within in
    let second = c.put_steps-taken.ensures.taken.within in
    let least = c.min.ensures in
    let most = c.min-2.ensures in
    let whole = whole_run c.args.limit _ _ _ _ _ _ _ _ c.run-passed.ensures.steps c.put_steps-taken.ensures.taken.steps (omega arith) refl c.run-rest.ensures in
    let run = rw (c.min.ensures, c.before-2.ensures) at c.run-passed.ensures in
    let told = rw (c.from-slot.ensures ∙ c.pc.ensures) at c.told_in-told.ensures in
    WritesAfter-WritesAfter g.W.Write.contents _ _ _ _ _ _ _ _ _ c.put_steps-taken.ensures.text (rw told at c.put_end_row.ensures)
    (trace_is c.args.limit c.min-2.result c.run-passed.result c.args.shown c.args.cpu.now _ _ run c.min-2.ensures (whole_end _ _ _ _ whole))

pub returns-clause-next : goal.returns-clause-next
returns-clause-next g c =
    let first = c.run-passed.ensures.within in
    let second = c.put_steps-taken.ensures.taken.within in
    let least = c.min.ensures in
    let most = c.min-2.ensures in
    let whole = whole_run c.args.limit _ _ _ _ _ _ _ _ c.run-passed.ensures.steps c.put_steps-taken.ensures.taken.steps (omega arith) refl c.run-rest.ensures in
    anyway c.put_end_row.result (whole_end _ _ _ _ whole)

pub returns-clause-way : goal.returns-clause-way
returns-clause-way g c =
    let first = c.run-passed.ensures.within in
    let second = c.put_steps-taken.ensures.taken.within in
    let least = c.min.ensures in
    let most = c.min-2.ensures in
    let whole = whole_run c.args.limit _ _ _ _ _ _ _ _ c.run-passed.ensures.steps c.put_steps-taken.ensures.taken.steps (omega arith) refl c.run-rest.ensures in
    whole_way _ _ _ _ whole
