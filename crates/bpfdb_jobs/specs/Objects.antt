-- A job over a program that is loaded first: which it is, why it isn't done, and what is known then.
use Rattle.std.specs.Prelude.{is_some, ◌≡◌, ◌⊎◌, ◌||◌, ⊤, ℕ, Bool, true, false, List, Option, Some, None, codes, map, option_map}
use Rattle.bpf_link.specs.declared.fault.LinkFault.{LinkFault}
use Rattle.bpf_load.specs.declared.loading.LinkedObject.{LinkedObject}
use Rattle.bpfdb_faults.specs.declared.refusal.JobRefusal.{JobRefusal}
use Rattle.bpf_lines.specs.declared.objects.ObjectLines.{ObjectLines}
use Rattle.bpfdb_faults.specs.Streams.{Stream, Told}
use Rattle.bpfdb_jobs.specs.Jobs.{AreLinesFor, HasFunctions, HasOwn, HasPlace, HasPlaces, LacksLines, asked_place, is_memory, tells_calls, tells_places}
use Rattle.bpfdb_jobs.specs.Refusals.{RefusesLoading, RefusesTable}
use Rattle.bpfdb_jobs.specs.declared.job.Job.{Job}
use Rattle.bpfdb_jobs.specs.declared.known.Places.{Places}
use Rattle.bpfdb_options.specs.declared.ask.Ask.{Ask}
use Rattle.bpfdb_options.specs.declared.ask.Ask.TheVariants.{Asm, Batch, Lines, Link, Test}

-- What is asked of the program of FILE, which is loaded.
abbrev pub is_check : Ask → Bool
is_check Asm = false
is_check Lines = false
is_check (Link joined) = false
is_check (Test tests) = false
is_check Batch = false
is_check ask = true

-- Why such a one isn't done: FILE isn't loaded; or nothing is told of its lines where a place is asked about, or for want of memory.
abbrev pub insists : Job → LinkFault → Bool
insists job fault = is_some (asked_place job.ask) || is_memory fault

abbrev pub RefusesInsisting : Job → JobRefusal → Type 0
RefusesInsisting job refusal = (table : RefusesTable job refusal) × (insists job table.it.fault ≡ true)

abbrev pub Unloads : Job → JobRefusal → Type 0
Unloads job refusal = RefusesLoading job refusal ⊎ RefusesInsisting job refusal

-- What is known of its slots, in memory.
pub record ArePlaces (job : Job) (object : Option LinkedObject) (places : Places) : Type 0 where
  pub goals : HasPlace (asked_place job.ask) job object (option_map (λ goals. goals.items) places.goals)
  pub texts : HasPlaces (tells_places job.ask) job object (option_map (λ texts. map (λ text. text.items) texts.items) places.texts)
  pub functions : HasFunctions (tells_calls job.ask) job object places.functions
  pub own : HasOwn job object (option_map (λ texts. map (λ text. text.items) texts.items) places.texts) places.own

-- Otherwise a job is done without lines that can't be read, which is said first.
abbrev pub lines_note : List ℕ
lines_note = codes "lines of C can't be read, and are left out: bpfdb lines says why\n"

abbrev pub HasLines : Job → Option LinkedObject → Bool → Type 0
HasLines job None tells = ⊤
HasLines job (Some linked) false = ⊤
HasLines job (Some linked) true = (all : List ObjectLines) × AreLinesFor job linked all

pub data SaysLines {E : Type 0} (job : Job) (object : Option LinkedObject) (errors : Stream E) : Type 0 where
  Silent : HasLines job object (tells_places job.ask) → errors.new ≡ errors.old → SaysLines job object errors
  Said : (linked : LinkedObject) → object ≡ Some linked → tells_places job.ask ≡ true → LacksLines job linked → Told errors lines_note
      → SaysLines job object errors
