-- What FILE is, and the other program, and whether that goes together with what is asked.
use Rattle.std.specs.Prelude.{ℕ, ◌&&◌, ◌||◌, Bool, true, false, not, is_some, if◌then◌else◌, List, Option, Some, None}
use Rattle.bpf_load.specs.Kinds.{kind_of}
use Rattle.bpf_load.specs.declared.target.SourceKind.{SourceKind}
use Rattle.bpf_load.specs.declared.target.SourceKind.TheVariants.{Listing, Object, Words}
use Rattle.bpfdb_cli.specs.declared.plans.Plan.{Plan}
use Rattle.bpfdb_cli.specs.declared.plans.TargetWords.{TargetWords}
use Rattle.bpfdb_faults.specs.declared.kind.KindFault.{KindFault}
use Rattle.bpfdb_faults.specs.declared.kind.KindFault.TheVariants.{Maps, Programs}
use Rattle.bpfdb_jobs.specs.Jobs.{links_first}
use Rattle.bpfdb_jobs.specs.declared.job.Job.{Job}
use Rattle.bpfdb_options.specs.Asks.{is_context, is_trace}
use Rattle.bpfdb_options.specs.declared.ask.Ask.{Ask}
use Rattle.bpfdb_options.specs.declared.ask.Ask.TheVariants.{Asm, Batch, Diff, Link, Test}

-- What FILE is, or the other program: what is said, and else what its name and its bytes show, where that is found out for what is asked.
abbrev pub finds_kind : Ask → Bool
finds_kind Asm = false
finds_kind (Link joined) = false
finds_kind (Test ask) = false
finds_kind Batch = false
finds_kind ask = true

abbrev pub said_kind : TargetWords → Bool → SourceKind → SourceKind
said_kind words finds found = if words.is_object then Object else if words.is_listing then Listing
    else if words.is_words || not finds then Words else found

abbrev pub source_kind : Plan → List ℕ → List ℕ → SourceKind
source_kind plan name file = said_kind plan.target (finds_kind plan.ask) (kind_of name file)

-- What its files are doesn't go together with what it asks: maps are named beside an object, or one of two programs is an object and the other isn't.
abbrev pub differ : Bool → Bool → Bool
differ true b = not b
differ false b = b

abbrev pub runs_two_by : Ask → Bool
runs_two_by (Diff diff) = not (is_context diff.other) && not (is_trace diff.other)
runs_two_by ask = false

abbrev pub runs_two : Job → Bool
runs_two job = runs_two_by job.ask

abbrev pub misfit_of : Job → Option KindFault
misfit_of job = if links_first job.target.kind && is_some job.target.maps then Some Maps
    else if runs_two job && differ (links_first job.target.kind) (links_first job.other_kind) then Some Programs else None
