-- Linux's library of helpers is joined by itself, as the last of the objects with functions, where FILE lacks functions without it, or the other program does.
-- bpfdb's own choice.
use Rattle.std.specs.Prelude.{ℕ, ◌≡◌, ◌&&◌, ◌||◌, Bool, true, false, not, List, Option, Some, None}
use Rattle.std.specs.Borrow.{Bor}
use Rattle.bpf_load.specs.Faults.{LacksFunctions}
use Rattle.bpf_load.specs.declared.target.SourceKind.{SourceKind}
use Rattle.bpf_load.specs.declared.target.Target.{Target}
use Rattle.bpfdb_cli.specs.declared.plans.Plan.{Plan}
use Rattle.bpfdb_jobs.specs.Jobs.{links_first}
use Rattle.bpfdb_jobs.specs.declared.job.Job.{Job}
use Rattle.bpfdb_options.specs.declared.ask.Ask.{Ask}
use Rattle.bpfdb_options.specs.declared.ask.Ask.TheVariants.{Link}
use Rattle.bpfdb.specs.Contents.{Contents}
use Rattle.bpfdb.specs.Jobs.{IsJobOf, links_by}
use Rattle.bpfdb.specs.Kinds.{runs_two}

-- The object that would be linked is asked for.
abbrev pub is_joined : Ask → Bool
is_joined (Link joined) = joined
is_joined ask = false

-- It may be: that isn't forbidden, and FILE is linked to a program.
abbrev pub may_join : Plan → Job → Bool
may_join plan job = not plan.target.no_linux && (not (is_joined job.ask) && links_by job.ask job.target.kind)

-- The other program lacks functions, if there is one.
abbrev pub OtherLacks : Bool → Option (Bor (List ℕ)) → Target → Bool → Type 0
OtherLacks false other target lacks = lacks ≡ false
OtherLacks true None target lacks = lacks ≡ false
OtherLacks true (Some other) target lacks = LacksFunctions target other.now lacks

pub record Lacks (job : Job) (lacks : Bool) : Type 0 where
  pub own : Bool
  pub of_file : LacksFunctions job.target job.file.now own
  pub others : Bool
  pub of_other : OtherLacks (runs_two job) job.other job.target others
  pub told : lacks ≡ (own || others)

abbrev pub LacksIf : Bool → Job → Bool → Type 0
LacksIf false job lacks = lacks ≡ false
LacksIf true job lacks = Lacks job lacks

-- What was read of a plan's files lacks them.
abbrev pub DoesLack : Plan → Contents → Bool → Type 0
DoesLack plan of lacks = (job : Job) × IsJobOf plan of job × LacksIf (may_join plan job) job lacks
