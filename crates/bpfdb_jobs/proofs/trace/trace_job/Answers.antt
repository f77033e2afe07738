use Rattle.std.proofs.Common.{refl}
use Rattle.bpfdb_jobs.specs.Endings.{Refused}
use Rattle.bpfdb_jobs.proofs.Printing.{opens-strict}
use Rattle.bpfdb_jobs.proofs.Telling.{trace-ends, until-ends}
use Rattle.bpfdb_jobs.proofs.trace.trace_job.Goals as goal

pub returns-in-Err-clause-does : goal.returns-in-Err-clause-does
returns-in-Err-clause-does g c = Refused c.in-Err.refusal c.in-Err.ensures.err refl c.give_up.ensures.told c.give_up.ensures.value

pub returns-in-Some-clause-does : goal.returns-in-Some-clause-does
returns-in-Some-clause-does g c =
    until-ends c.args.trace.now c.args.job.now c.args.known c.in-Ok.strict.cpu c.in-Ok.strict.unwritten c.in-Some.read c.tell_until-before.result c.end_of.result
    (opens-strict c.args.trace.now.is_strict c.args.known.own c.args.job.now c.args.loaded c.in-Ok.strict.cpu c.in-Ok.strict.unwritten c.requires.loaded c.in-Ok.ensures.ok) c.requires.known c.in-Some.is
    (rw c.shown_steps-shown.ensures at c.tell_until-before.ensures) c.end_of.ensures.ok c.end_of.ensures.err

pub returns-clause-does : goal.returns-clause-does
returns-clause-does g c =
    let ok = rw (c.status_of.ensures.value, c.status.ensures) at c.end_of-in-None.ensures.ok in
    trace-ends c.args.trace.now c.args.job.now c.args.known c.in-Ok.strict.cpu c.tell_run-told.new.cpu c.in-Ok.strict.unwritten c.tell_run-told.result c.end_of-in-None.result
    (opens-strict c.args.trace.now.is_strict c.args.known.own c.args.job.now c.args.loaded c.in-Ok.strict.cpu c.in-Ok.strict.unwritten c.requires.loaded c.in-Ok.ensures.ok) c.requires.known c.in-None.is
    c.tell_run-told.ensures.told c.tell_run-told.ensures.next ok c.end_of-in-None.ensures.err
