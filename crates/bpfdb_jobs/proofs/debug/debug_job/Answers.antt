use Rattle.std.proofs.Common.{refl, sym, arith}
use Rattle.bpf_session.specs.Runs.{Exchange}
use Rattle.bpfdb_jobs.specs.Endings.{Refused}
use Rattle.bpfdb_jobs.specs.Jobs.{start_of}
use Rattle.bpfdb_jobs.proofs.Refusing.{session-refused}
use Rattle.bpfdb_jobs.proofs.Sessions.{both-err, both-ok, session-ends}
use Rattle.bpfdb_jobs.proofs.debug.debug_job.Goals as goal

pub returns-in-Err-clause-does : goal.returns-in-Err-clause-does
returns-in-Err-clause-does g c = Refused c.in-Err.refusal c.in-Err.ensures.err refl refl (rw (session-refused c.args.job.now c.in-Err.refusal c.in-Err.ensures.err) at c.give_up.ensures.told) c.give_up.ensures.value

pub returns-clause-does : goal.returns-clause-does
returns-clause-does g c =
    let o = c.in-Ok.ensures.ok in
    let from = start_of c.args.job.now c.args.program in
    session-ends c.args.job.now _ _ c.run-served.result c.session_ended.result o.room
    (both-ok c.run-served.result c.run-served.ensures.value c.run-served.ensures.ok (λ value spared. (
      λ script told left held.
          let r = value from script told o.begins left held in
          let x : Exchange = record {
            script = script;
            told = told;
            after = g.W.Write.contents c.run-served.new.writer.inner;
            left = g.R.Read.remaining c.run-served.new.reader.inner;
          } in
          let whole = c.nothing_refused_nothing_missing.ensures.run from r.0 x (omega arith) (sym r.1.refusals) r.2 in
          (whole.1, whole.2),
      spared.0,
      spared.1,
    )))
    (both-err c.run-served.result c.run-served.ensures.broken c.run-served.ensures.err (λ why broken fails. (
      λ script told left held.
          let r = broken from script told o.begins left held in
          (r.0, sym r.1.refusals, r.2),
      fails,
    )))
    c.session_ended.ensures.ok c.session_ended.ensures.err
