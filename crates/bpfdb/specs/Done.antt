-- What becomes of a plan, and of help that is asked for.
use Rattle.std.specs.Prelude.{ℕ, ◌≡◌, ◌&&◌, Bool, true, false, List, Option, Some, None}
use Rattle.bpfdb_cli.specs.declared.plans.Plan.{Plan}
use Rattle.bpfdb_faults.specs.Streams.{Gets, Loses, Stream, Told}
use Rattle.bpfdb_faults.specs.Faults.{line_of}
use Rattle.bpfdb_jobs.specs.Hints.{AddsHint}
use Rattle.bpfdb_jobs.specs.Statuses.{EndsWith}
use Rattle.bpfdb_jobs.specs.Streams.{Outputs, TellsOnly, behind, until}
use Rattle.bpfdb_faults.specs.declared.fault.JobFault.{JobFault}
use Rattle.bpfdb_faults.specs.declared.fault.JobFault.TheVariants.{Memory, Output, Refused}
use Rattle.bpfdb_faults.specs.declared.kind.KindFault.{KindFault}
use Rattle.bpfdb_faults.specs.declared.kind.KindFault.TheVariants.{Unfaithful}
use Rattle.bpfdb_faults.specs.declared.refusal.JobRefusal.TheVariants.{Kind}
use Rattle.bpfdb_jobs.specs.declared.job.Job.{Job}
use Rattle.bpfdb.specs.Contents.{Contents}
use Rattle.bpfdb.specs.Contexts.{AreContexts, IsContextFault, context_line, notes_of, with_contexts}
use Rattle.bpfdb.specs.declared.contexts.ContextFault.{ContextFault}
use Rattle.bpfdb.specs.declared.contexts.Contexts.{Contexts}
use Rattle.bpfdb.specs.Files.{AreRead, IsUnread, World}
use Rattle.bpfdb.specs.Jobs.{IsJobOf}
use Rattle.bpfdb.specs.Kinds.{misfit_of}
use Rattle.bpfdb.specs.Notes.{SaysNotes}
use Rattle.bpfdb.specs.Telling.{DoesTold, telling_of}
use Rattle.bpfdb.specs.declared.telling.Telling.{Telling}
use Rattle.bpfdb.specs.Tests.{IsTestsFor, IsUnreplaced, files_line}
use Rattle.suite_files.specs.declared.fault.FilesFault.{FilesFault}
use Rattle.counted_io.specs.Counted.{Tally}

-- A job is done, as it is or told in another form, and its hint follows on standard error where that is a terminal.
pub record DoesHinted {R W E : Type 0} (at_terminal : Bool) (telling : Option Telling) (job : Job) (reader : Stream R) (s : Outputs W E) (status : ℕ)
    : Type 0 where
  pub told : Tally E
  pub does : DoesTold telling job reader (until told s) status
  pub adds : AddsHint at_terminal job status (record s.errors { old = told })

-- It is done behind what is said of its program, unless that is to be like Linux's and something of it isn't.
abbrev pub refuses_unlike : Plan → Bool → Bool
refuses_unlike plan unlike = plan.target.is_faithful && unlike

pub data DoesOr {R W E : Type 0} (refuses at_terminal : Bool) (plan : Plan) (job : Job) (reader : Stream R) (s : Outputs W E) (status : ℕ) : Type 0 where
  Like : refuses ≡ false → DoesHinted at_terminal (telling_of plan) job reader s status → DoesOr refuses at_terminal plan job reader s status
  Unlike : refuses ≡ true → TellsOnly reader s (line_of (Refused (Kind Unfaithful))) status → DoesOr refuses at_terminal plan job reader s status

pub record DoesNoted {R W E : Type 0} (at_terminal : Bool) (plan : Plan) (of : Contents) (job : Job) (reader : Stream R) (s : Outputs W E) (status : ℕ)
    : Type 0 where
  pub noted : Tally E
  pub unlike : Bool
  pub says : SaysNotes plan job of (record s.errors { new = noted }) unlike
  pub does : DoesOr (refuses_unlike plan unlike) at_terminal plan job reader (behind noted s) status

-- A job is done unless what its files are doesn't go together with what it asks: that is told, and nothing else happens.
pub data DoesFitting {R W E : Type 0} (at_terminal : Bool) (plan : Plan) (of : Contents) (job : Job) (reader : Stream R) (s : Outputs W E) (status : ℕ)
    : Type 0 where
  Fits : misfit_of job ≡ None → DoesNoted at_terminal plan of job reader s status → DoesFitting at_terminal plan of job reader s status
  Misfits : (why : KindFault) → misfit_of job ≡ Some why → TellsOnly reader s (line_of (Refused (Kind why))) status
      → DoesFitting at_terminal plan of job reader s status

-- The job is done over FILE as it is, or over the file of tests in which each section that names files is replaced; or why there is none is told, and
-- nothing else happens.
pub data DoesReplaced {R W E : Type 0} (world : World) (plan : Plan) (of : Contents) (reader : Stream R) (s : Outputs W E) (status : ℕ) : Type 0 where
  Replaced : (bytes : List ℕ) → IsTestsFor world plan of.file bytes → (job : Job) → IsJobOf plan (record of { file = bytes }) job
      → DoesFitting world.at_terminal plan (record of { file = bytes }) job reader s status → DoesReplaced world plan of reader s status
  Unreplaced : (fault : FilesFault) → IsUnreplaced world plan of.file fault → TellsOnly reader s (files_line fault) status
      → DoesReplaced world plan of reader s status

-- It is done on the contexts that its files hold, behind what is said of these; or why one isn't there is told, and nothing else happens.
pub data DoesRead {R W E : Type 0} (world : World) (plan : Plan) (of : Contents) (reader : Stream R) (s : Outputs W E) (status : ℕ) : Type 0 where
  Chosen : (contexts : Contexts) → AreContexts plan of contexts → (noted : Tally E) → Told (record s.errors { new = noted }) (notes_of contexts)
      → DoesReplaced world plan (with_contexts of contexts) reader (behind noted s) status → DoesRead world plan of reader s status
  Unchosen : (fault : ContextFault) → IsContextFault plan of fault → TellsOnly reader s (context_line fault) status
      → DoesRead world plan of reader s status

-- Its files can't be read, which is told, and nothing else happens; or they are, and its job is done.
pub data DoesPlan {R W E : Type 0} (world : World) (plan : Plan) (reader : Stream R) (s : Outputs W E) (status : ℕ) : Type 0 where
  Unread : (fault : JobFault) → IsUnread world plan fault → TellsOnly reader s (line_of fault) status → DoesPlan world plan reader s status
  Done : (of : Contents) → AreRead world plan of → DoesRead world plan of reader s status → DoesPlan world plan reader s status

-- A status other than 2 is that of its job, over some bytes of its files.
pub record EndsPlanWith (plan : Plan) (status : ℕ) : Type 0 where
  pub of : Contents
  pub job : Job
  pub is : IsJobOf plan of job
  pub ends : EndsWith job.ask job status

-- A text was written as help; or a beginning of it; or memory ran out, and nothing was written.
pub data Helps {W E : Type 0} (writer : Stream W) (errors : Stream E) (status : ℕ) : Type 0 where
  Shown : (text : List ℕ) → Gets writer (Some text) → errors.new ≡ errors.old → status ≡ 0 → Helps writer errors status
  Lost : (text : List ℕ) → Loses writer (Some text) → Told errors (line_of Output) → status ≡ 2 → Helps writer errors status
  Exhausted : writer.new ≡ writer.old → Told errors (line_of Memory) → status ≡ 2 → Helps writer errors status
