use Rattle.std.proofs.Common.{◌≡◌, ◌∙◌, ap, refl, sym}
use Rattle.bpf_session.specs.Plain.{ending_of}
use Rattle.bpf_session.specs.declared.plain.Ending.TheVariants.{Exited, Faulted, Limit}
use Rattle.bpfdb_jobs.specs.Endings.{Refused}
use Rattle.bpf_trace.specs.UnwrittenTexts.{unwritten_line}
use Rattle.bpfdb_jobs.specs.Jobs.{run_print, stopped}
use Rattle.bpfdb_jobs.specs.Results.{result_text}
use Rattle.bpfdb_jobs.proofs.Printing.{err-printed, line-got, line-lost, opens-strict, out-printed, run-prints, stopped-prints}
use Rattle.bpfdb_options.specs.declared.ask.Ask.TheVariants.{Run}
use Rattle.bpfdb_jobs.proofs.run.run_job.Goals as goal

pub returns-in-Exited-clause-does : goal.returns-in-Exited-clause-does
returns-in-Exited-clause-does g c =
    let end = c.run_quietly.new.cpu in
    let is : Exited ≡ ending_of end.status = ap ending_of (sym c.in-Exited.is ∙ c.status.ensures) in
    out-printed (Run c.args.is_strict) c.args.job.now (result_text c.args.job.now.target end) c.write_result.result c.ended.result
    (run-prints c.args.is_strict c.args.job.now c.args.known c.in-Ok.strict.cpu c.in-Ok.strict.unwritten
    (opens-strict c.args.is_strict c.args.known.own c.args.job.now c.args.loaded c.in-Ok.strict.cpu c.in-Ok.strict.unwritten c.requires.loaded c.in-Ok.ensures.ok) c.requires.known end Exited c.in-None.is c.run_quietly.ensures is)
    c.write_result.ensures c.ended.ensures.ok c.ended.ensures.err

pub returns-in-Faulted-clause-does : goal.returns-in-Faulted-clause-does
returns-in-Faulted-clause-does g c =
    let end = c.run_quietly.new.cpu in
    let is : Faulted ≡ ending_of end.status = ap ending_of (sym c.in-Faulted.is ∙ c.status.ensures) in
    let w = c.tell_end.ensures in
    err-printed (Run c.args.is_strict) c.args.job.now (run_print c.args.job.now.target c.args.known.places c.args.job.now.options.limit Faulted end) c.tell_end.result c.told_as-in-Faulted.result
    (run-prints c.args.is_strict c.args.job.now c.args.known c.in-Ok.strict.cpu c.in-Ok.strict.unwritten
    (opens-strict c.args.is_strict c.args.known.own c.args.job.now c.args.loaded c.in-Ok.strict.cpu c.in-Ok.strict.unwritten c.requires.loaded c.in-Ok.ensures.ok) c.requires.known end Faulted c.in-None.is c.run_quietly.ensures is)
    refl (line-got _ _ w) (line-lost _ _ w) c.told_as-in-Faulted.ensures.ok c.told_as-in-Faulted.ensures.err

pub returns-clause-does : goal.returns-clause-does
returns-clause-does g c =
    let end = c.run_quietly.new.cpu in
    let is : Limit ≡ ending_of end.status = ap ending_of (sym c.in-Running.is ∙ c.status.ensures) in
    let w = c.tell_end-in-Running.ensures in
    err-printed (Run c.args.is_strict) c.args.job.now (run_print c.args.job.now.target c.args.known.places c.args.job.now.options.limit Limit end) c.tell_end-in-Running.result c.told_as-in-Running.result
    (run-prints c.args.is_strict c.args.job.now c.args.known c.in-Ok.strict.cpu c.in-Ok.strict.unwritten
    (opens-strict c.args.is_strict c.args.known.own c.args.job.now c.args.loaded c.in-Ok.strict.cpu c.in-Ok.strict.unwritten c.requires.loaded c.in-Ok.ensures.ok) c.requires.known end Limit c.in-None.is c.run_quietly.ensures is)
    refl (line-got _ _ w) (line-lost _ _ w) c.told_as-in-Running.ensures.ok c.told_as-in-Running.ensures.err

pub returns-in-Err-clause-does : goal.returns-in-Err-clause-does
returns-in-Err-clause-does g c = Refused c.in-Err.refusal c.in-Err.ensures.err refl c.give_up.ensures.told c.give_up.ensures.value

pub returns-in-Some-clause-does : goal.returns-in-Some-clause-does
returns-in-Some-clause-does g c =
    let w = c.tell_unwritten.ensures in
    err-printed (Run c.args.is_strict) c.args.job.now (stopped (unwritten_line c.args.known.places c.in-Some.read)) c.tell_unwritten.result c.told_as.result
    (stopped-prints c.args.is_strict c.args.job.now c.args.known c.in-Ok.strict.cpu c.in-Ok.strict.unwritten
    (opens-strict c.args.is_strict c.args.known.own c.args.job.now c.args.loaded c.in-Ok.strict.cpu c.in-Ok.strict.unwritten c.requires.loaded c.in-Ok.ensures.ok) c.requires.known c.in-Some.read c.in-Some.is) refl
    (line-got _ _ w) (line-lost _ _ w) c.told_as.ensures.ok c.told_as.ensures.err
