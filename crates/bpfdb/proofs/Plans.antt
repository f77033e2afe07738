-- The exit status of a plan.
use Rattle.std.proofs.Common.{ℕ, ◌≡◌, ◌≢◌, ◌∙◌, Bool, true, false, List, Option, Some, None, subst, sym}
use Rattle.bpfdb_faults.specs.Streams.{Stream}
use Rattle.bpfdb_cli.specs.declared.plans.Plan.{Plan}
use Rattle.bpfdb_jobs.specs.Statuses.{EndsWith}
use Rattle.bpfdb_jobs.proofs.Statuses.{ends_with}
use Rattle.bpfdb_jobs.specs.declared.job.Job.{Job}
use Rattle.bpfdb_options.specs.declared.ask.Ask.{Ask}
use Rattle.bpfdb_options.specs.declared.ask.Ask.TheVariants.{Debug}
use Rattle.bpfdb_jobs.specs.Done.{DoesJob}
use Rattle.bpfdb_jobs.specs.Streams.{Outputs, behind, until}
use Rattle.bpfdb.specs.declared.telling.Telling.{Telling}
use Rattle.bpfdb.specs.Telling.{DoesTold, Retells, telling_of}
use Rattle.bpfdb.specs.Telling as retold
use Rattle.bpfdb.specs.Outputs.{Does, DoesForFile, EndsForFile, ErrLost, Exhausted, Kept, KeptLost, PrintsInMemory, Unwritten, Written}
use Rattle.bpfdb.specs.Contents.{Contents}
use Rattle.bpfdb.specs.Contexts.{with_contexts}
use Rattle.bpfdb.specs.Files.{World}
use Rattle.bpfdb.specs.Done.{DoesFitting, DoesOr, DoesPlan, DoesRead, DoesReplaced, Done, Chosen, Unchosen, EndsPlanWith, Fits, Like, Misfits, Replaced, Unlike, Unread, Unreplaced, refuses_unlike}

-- It is that of the plan's job, unless it is 2, told as JSON or not.
ends_retold_with : {R W E : Type 0} (reader : Stream R) (s : Outputs W E) (telling : Telling) (job : Job) (status : ℕ)
    → Retells telling job reader s status → status ≢ 2 → EndsWith job.ask job status
ends_retold_with reader s telling job status (retold.Exhausted memory done does kept said two) other = absurd (other two)
ends_retold_with reader s telling job status (retold.Tells text err done tells (retold.OutLost lost said two)) other = absurd (other two)
ends_retold_with reader s telling job status (retold.Tells text err done tells (retold.ErrLost gets lost two)) other = absurd (other two)
ends_retold_with reader s telling job status (retold.Tells text err done tells (retold.Written gets said same)) other =
    ends_with reader tells.0 job.ask job status (subst (λ (n : ℕ). DoesJob job.ask job reader tells.0 n) (sym same) tells.1) other

ends_told_with : {R W E : Type 0} (reader : Stream R) (s : Outputs W E) (telling : Option Telling) (job : Job) (status : ℕ)
    → DoesTold telling job reader s status → status ≢ 2 → EndsWith job.ask job status
ends_told_with reader s None job status does other = ends_with reader s job.ask job status does other
ends_told_with reader s (Some telling) job status does other = ends_retold_with reader s telling job status does other

ends_or_with : {R W E : Type 0} (reader : Stream R) (s : Outputs W E) (refuses at_terminal : Bool) (plan : Plan) (job : Job) (status : ℕ)
    → DoesOr refuses at_terminal plan job reader s status → status ≢ 2 → EndsWith job.ask job status
ends_or_with reader s refuses at_terminal plan job status (Unlike is only) other = absurd (other only.3)
ends_or_with reader s refuses at_terminal plan job status (Like is does) other =
    ends_told_with reader (until does.told s) (telling_of plan) job status does.does other

ends_fitting_with : {R W E : Type 0} (reader : Stream R) (s : Outputs W E) (at_terminal : Bool) (plan : Plan) (of : Contents) (job : Job)
    (status : ℕ) → DoesFitting at_terminal plan of job reader s status → status ≢ 2 → EndsWith job.ask job status
ends_fitting_with reader s at_terminal plan of job status (Misfits why is only) other = absurd (other only.3)
ends_fitting_with reader s at_terminal plan of job status (Fits none does) other =
    ends_or_with reader (behind does.noted s) (refuses_unlike plan does.unlike) at_terminal plan job status does.does other

ends_replaced_with : {R W E : Type 0} (reader : Stream R) (s : Outputs W E) (world : World) (plan : Plan) (of : Contents) (status : ℕ)
    → DoesReplaced world plan of reader s status → status ≢ 2 → EndsPlanWith plan status
ends_replaced_with reader s world plan of status (Unreplaced fault why only) other = absurd (other only.3)
ends_replaced_with reader s world plan of status (Replaced bytes tests job is does) other = record {
  of = record of { file = bytes };
  job = job;
  is = is;
  ends = ends_fitting_with reader s world.at_terminal plan (record of { file = bytes }) job status does other;
}

ends_read_with : {R W E : Type 0} (reader : Stream R) (s : Outputs W E) (world : World) (plan : Plan) (of : Contents) (status : ℕ)
    → DoesRead world plan of reader s status → status ≢ 2 → EndsPlanWith plan status
ends_read_with reader s world plan of status (Unchosen fault why only) other = absurd (other only.3)
ends_read_with reader s world plan of status (Chosen contexts are noted told does) other =
    ends_replaced_with reader (behind noted s) world plan (with_contexts of contexts) status does other

pub ends_plan_with : {R W E : Type 0} (reader : Stream R) (s : Outputs W E) (world : World) (plan : Plan) (status : ℕ)
    → DoesPlan world plan reader s status → status ≢ 2 → EndsPlanWith plan status
ends_plan_with reader s world plan status (Unread fault why only) other = absurd (other only.3)
ends_plan_with reader s world plan status (Done of are does) other =
    ends_read_with reader s world plan of status does other

-- So it is where a file takes what the plan prints.
ends_for_file_with : {R W E : Type 0} (reader : Stream R) (file : Stream W) (errors : Stream E) (world : World) (plan : Plan) (path text err : List ℕ)
    (done status : ℕ) → PrintsInMemory world plan reader text err done → EndsForFile path text err done file errors status → status ≢ 2
    → EndsPlanWith plan status
ends_for_file_with reader file errors world plan path text err done status prints (KeptLost not_well same lost two) other = absurd (other two)
ends_for_file_with reader file errors world plan path text err done status prints (ErrLost well gets lost two) other = absurd (other two)
ends_for_file_with reader file errors world plan path text err done status prints (Unwritten well lost told two) other = absurd (other two)
ends_for_file_with reader file errors world plan path text err done status prints (Kept not_well kept gets same) other =
    ends_plan_with reader prints.0 world plan status (subst (λ (n : ℕ). DoesPlan world plan reader prints.0 n) (sym same) prints.1) other
ends_for_file_with reader file errors world plan path text err done status prints (Written well gets said ends) other =
    ends_plan_with reader prints.0 world plan status (subst (λ (n : ℕ). DoesPlan world plan reader prints.0 n) (well ∙ sym ends) prints.1) other

pub ends_file_with : {R W E : Type 0} (reader : Stream R) (file : Stream W) (errors : Stream E) (world : World) (plan : Plan) (path : List ℕ) (status : ℕ)
    → DoesForFile world plan path reader file errors status → status ≢ 2 → EndsPlanWith plan status
ends_file_with reader file errors world plan path status (Exhausted memory done does kept said two) other = absurd (other two)
ends_file_with reader file errors world plan path status (Does text err done prints ends) other =
    ends_for_file_with reader file errors world plan path text err done status prints ends other

-- Of a plan to debug it is 0 then.
pub debug_ends_with : (plan : Plan) (status : ℕ) → plan.ask ≡ Debug → EndsPlanWith plan status → status ≡ 0
debug_ends_with plan status debugs ends =
    let at : EndsWith Debug ends.job status = subst (λ (s : Ask). EndsWith s ends.job status) (ends.is.ask ∙ debugs) ends.ends in
    at.2
