use Rattle.std.proofs.Common.{◌∙◌, ap, refl, sym}
use Rattle.std.proofs.lemmas.List.{append-nil}
use Rattle.counted_io.proofs.Appending.{Writes-none, Writes-text}
use Rattle.bpfdb_faults.specs.declared.refusal.JobRefusal.TheVariants.{TraceLine}
use Rattle.input_texts.specs.TraceFaults.{bad_line}
use Rattle.input_texts.specs.TraceForms.{told}
use Rattle.bpfdb_jobs.specs.Endings.{Exhausted, Refused}
use Rattle.bpfdb_jobs.specs.Jobs.{against_print}
use Rattle.bpfdb_jobs.proofs.Diffing.{against-prints, against-refuses, machine-against, opens-as, told-ends}
use Rattle.bpfdb_jobs.proofs.against.against_job.Goals as goal

pub returns-in-Err-clause-does : goal.returns-in-Err-clause-does
returns-in-Err-clause-does g c =
    Refused c.in-Err.refusal
    (against-refuses c.args.diff.now c.args.job.now c.in-Err.refusal c.requires.trace (machine-against c.args.job.now c.in-Err.refusal c.in-Err.ensures.err)) refl
    c.give_up.ensures.told c.give_up.ensures.value

pub returns-in-Err-form_of_trace-clause-does : goal.returns-in-Err-form_of_trace-clause-does
returns-in-Err-form_of_trace-clause-does g c =
    let opened = opens-as c.args.job.now c.args.loaded c.in-Ok.cpu c.requires.loaded c.in-Ok.ensures.ok in
    let bad = c.in-Err-form_of_trace.bad in
    Refused (TraceLine bad.fault bad.line)
    (against-refuses c.args.diff.now c.args.job.now (TraceLine bad.fault bad.line) c.requires.trace
    (opened.0, opened.1, ap bad_line (sym c.bytes_of-file.ensures) ∙ c.in-Err-form_of_trace.ensures.err)) refl
    c.give_up-in-Err-form_of_trace.ensures.told c.give_up-in-Err-form_of_trace.ensures.value

pub returns-in-Ok-put_against-clause-does : goal.returns-in-Ok-put_against-clause-does
returns-in-Ok-put_against-clause-does g c =
    let text = c.in-Ok-put_against.ensures.text _ _ (Writes-none g.W.Write.contents c.args.streams.now.output _) in
    let written = Writes-text g.W.Write.contents _ _ _ _ _ (c.flush_after-written.ensures _ _ text) (append-nil _) in
    told-ends c.args.diff.now c.args.job.now _ _ c.in-Ok-put_against.against.tells_run _ _
    (against-prints c.args.diff.now c.args.job.now c.in-Ok.cpu c.in-Ok-form_of_trace.form c.bytes_of-file.result.now c.requires.trace
    (opens-as c.args.job.now c.args.loaded c.in-Ok.cpu c.requires.loaded c.in-Ok.ensures.ok)
    c.bytes_of-file.ensures c.in-Ok-form_of_trace.ensures.ok)
    c.in-Ok-put_against.ensures.told written c.end_of.ensures.ok c.end_of.ensures.err

pub returns-clause-does : goal.returns-clause-does
returns-clause-does g c =
    Exhausted (against_print c.in-Ok-form_of_trace.form c.args.job.now.options.limit c.in-Ok.cpu (told c.bytes_of-file.result.now))
    (against-prints c.args.diff.now c.args.job.now c.in-Ok.cpu c.in-Ok-form_of_trace.form c.bytes_of-file.result.now c.requires.trace
    (opens-as c.args.job.now c.args.loaded c.in-Ok.cpu c.requires.loaded c.in-Ok.ensures.ok)
    c.bytes_of-file.ensures c.in-Ok-form_of_trace.ensures.ok)
    tt c.in-Err-put_against.ensures.err c.give_up-in-Err-put_against.ensures.told c.give_up-in-Err-put_against.ensures.value
