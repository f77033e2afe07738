-- What is said on standard error before the job of an object: that Linux's library isn't found where functions lack, how many fields stay where they were
-- compiled, and each helper that answers otherwise than Linux's. bpfdb's own choice.
use Rattle.std.specs.Prelude.{ℕ, ◌≡◌, ◌==◌, Bool, true, false, not, if◌then◌else◌, List, [], ◌++◌, codes, decimal}
use Rattle.bpf_load.specs.Notes.{AreNotes, differs}
use Rattle.bpf_load.specs.declared.notes.Notes.{Notes}
use Rattle.bpfdb_cli.specs.declared.plans.Plan.{Plan}
use Rattle.bpfdb_faults.specs.Streams.{Stream, Told}
use Rattle.bpfdb_jobs.specs.Differences.{differences}
use Rattle.bpfdb_jobs.specs.declared.job.Job.{Job}
use Rattle.bpfdb_options.specs.declared.ask.Ask.{Ask}
use Rattle.bpfdb_options.specs.declared.ask.Ask.TheVariants.{Link, Load}
use Rattle.bpfdb.specs.Contents.{Contents}
use Rattle.bpfdb.specs.Jobs.{links_by}
use Rattle.bpfdb.specs.declared.linux.Linux.{Linux}
use Rattle.bpfdb.specs.declared.linux.Linux.TheVariants.{Missing}

-- The lines.
abbrev pub missing_line : Linux → List ℕ
missing_line Missing = codes "no bpfdb-linux.o is found, which has Linux's helpers: BPFDB_LINUX=PATH names it\n"
missing_line linux = []

abbrev pub count_line : ℕ → List ℕ
count_line fields = if fields == 0 then [] else codes "fields left as compiled: " ++ decimal fields ++ codes "\n"

-- `link` tells it behind the maps.
abbrev pub fields_line : Ask → ℕ → List ℕ
fields_line (Link joined) fields = []
fields_line ask fields = count_line fields

-- An answer of `load` tells what is other than Linux's, unless that is refused.
abbrev pub answers_by : Ask → Bool → Bool
answers_by Load faithful = not faithful
answers_by ask faithful = false

abbrev pub answers_unlike : Plan → Bool
answers_unlike plan = answers_by plan.ask plan.target.is_faithful

abbrev pub unlike_lines : Bool → Notes → List ℕ
unlike_lines answered notes = if answered then [] else differences notes

abbrev pub notes_text : Bool → Ask → Linux → Notes → List ℕ
notes_text answered ask linux notes = missing_line linux ++ fields_line ask notes.fields ++ unlike_lines answered notes

-- They are said of what is linked, as far as they can be written; and whether a helper answers otherwise.
pub data SaysNotes {E : Type 0} (plan : Plan) (job : Job) (of : Contents) (errors : Stream E) (unlike : Bool) : Type 0 where
  Silent : links_by job.ask job.target.kind ≡ false → errors.new ≡ errors.old → unlike ≡ false → SaysNotes plan job of errors unlike
  Said : (notes : Notes) → links_by job.ask job.target.kind ≡ true → AreNotes job.target job.file.now job.library.now notes
      → Told errors (notes_text (answers_unlike plan) job.ask of.linux notes)
      → unlike ≡ differs notes → SaysNotes plan job of errors unlike
