-- How a job ends that opens a session.
use Rattle.std.proofs.Common.{ℕ, ◌≡◌, Result, Ok, Err}
use Rattle.std.specs.Prelude.{IfErr, OnOk}
use Rattle.bpf_session.specs.Runs.{FailsBy}
use Rattle.bpf_session.specs.declared.fault.RunFault.{RunFault}
use Rattle.bpfdb_faults.specs.Streams.{Spared, Stream, Told}
use Rattle.bpfdb_jobs.specs.Endings.{Broken, EndsSession, Served, broken_line}
use Rattle.bpfdb_jobs.specs.Jobs.{HasRoom}
use Rattle.bpfdb_jobs.specs.declared.job.Job.{Job}

-- it was served to its end, or until a read or a write failed
pub session-ends : {R W E A : Type 0} {reader : Stream R} {writer : Stream W} {errors : Stream E} (job : Job) (Serves : Type 0)
    (Breaks : RunFault → Type 0) (r : Result A RunFault) (status : ℕ) → HasRoom job
    → OnOk r (Serves × Spared reader × Spared writer)
    → IfErr r (λ why. Breaks why × FailsBy why reader.old reader.new writer.old writer.new)
    → OnOk r ((errors.new ≡ errors.old) × (status ≡ 0)) → IfErr r (λ why. Told errors (broken_line why) × (status ≡ 2))
    → EndsSession job Serves Breaks reader writer errors status
session-ends job Serves Breaks (Ok v) status room serves breaks ok err = Served room serves.0 serves.1 serves.2 ok.0 ok.1
session-ends job Serves Breaks (Err why) status room serves breaks ok err = Broken why room breaks.0 breaks.1 err.0 err.1

-- what follows of two facts on a success, and on a failure
pub both-ok : {A E P Q S : Type 0} (r : Result A E) → OnOk r P → OnOk r Q → (P → Q → S) → OnOk r S
both-ok (Ok v) p q both = both p q
both-ok (Err e) p q both = tt

pub both-err : {A E : Type 0} {P Q S : E → Type 0} (r : Result A E) → IfErr r P → IfErr r Q → ((why : E) → P why → Q why → S why) → IfErr r S
both-err (Ok v) p q both = tt
both-err (Err e) p q both = both e p q
