use Rattle.std.proofs.Common.{◌≡◌, ℕ, Bool, true, false, sym, subst}
use Rattle.bpfdb_jobs.specs.Streams.{Outputs}
use Rattle.bpfdb_jobs.specs.Suites.{EndsCovered, EndsRun, EndsTests, EndsTraced}
use Rattle.bpfdb_jobs.specs.declared.job.Job.{Job}
use Rattle.bpfdb_options.specs.declared.ask.TestAsk.{TestAsk}
use Rattle.bpfdb_jobs.proofs.suite.run_job.Goals as goal

module _ {W E : Type 0} (s : Outputs W E) (ask : TestAsk) (job : Job) (status : ℕ) where
  -- by what is told beside the report
  traced : (t b : Bool) → t ≡ true → EndsTraced ask job s status → EndsRun t b ask job s status
  traced t b is ends = subst (λ (t : Bool). EndsRun t b ask job s status) (sym is) ends

  covered : (t b : Bool) → t ≡ false → b ≡ true → EndsCovered ask job s status → EndsRun t b ask job s status
  covered t b off is ends =
      subst (λ (t : Bool). EndsRun t b ask job s status) (sym off) (subst (λ (b : Bool). EndsRun false b ask job s status) (sym is) ends)

  reported : (t b : Bool) → t ≡ false → b ≡ false → EndsTests ask job s status → EndsRun t b ask job s status
  reported t b off none ends =
      subst (λ (t : Bool). EndsRun t b ask job s status) (sym off) (subst (λ (b : Bool). EndsRun false b ask job s status) (sym none) ends)

pub returns-then-ask-clause-does : goal.returns-then-ask-clause-does
returns-then-ask-clause-does g c =
    let job = c.args.job.now in
    traced _ c.args.ask.now job c.tracefile_job.result c.args.ask.now.is_tracefile c.args.ask.now.covers c.if-ask.true c.tracefile_job.ensures.does

pub returns-then-ask-2-clause-does : goal.returns-then-ask-2-clause-does
returns-then-ask-2-clause-does g c =
    let job = c.args.job.now in
    covered _ c.args.ask.now job c.cover_job.result c.args.ask.now.is_tracefile c.args.ask.now.covers c.if-ask.false c.if-ask-2.true c.cover_job.ensures.does

pub returns-else-ask-2-clause-does : goal.returns-else-ask-2-clause-does
returns-else-ask-2-clause-does g c =
    let job = c.args.job.now in
    reported _ c.args.ask.now job c.report_job.result c.args.ask.now.is_tracefile c.args.ask.now.covers c.if-ask.false c.if-ask-2.false c.report_job.ensures.does
