-- Linux's library of helpers in parts: a folder with an object of each helper, of which those are joined that the program calls. bpfdb's own choice.
use Rattle.std.specs.Prelude.{ℕ, zero, suc, ◌≡◌, ◌+◌, ◌-◌, ◌*◌, ◌/◌, ◌==◌, ◌&&◌, ◌||◌, nat_le, bytes_eq, Bool, true, false, List, [], ◌∷◌, ◌++◌, Option, Some, Result, Ok, Err, codes, length, slice_range, if◌then◌else◌}
use Rattle.bpf_link.specs.Begun.{IsReachedCode}
use Rattle.bpf_link.specs.Helpers.{helper_name}
use Rattle.bpf_link.specs.Links.{planned}
use Rattle.bpf_link.specs.Missing.{is_called}
use Rattle.bpf_link.specs.Plans.{symbol_place}
use Rattle.bpf_link.specs.Stubs.{calls_helper}
use Rattle.bpf_link.specs.Tables.{symbol_at}
use Rattle.bpf_link.specs.declared.fault.LinkFault.{LinkFault}
use Rattle.bpf_link.specs.declared.layout.SymbolEntry.{SymbolEntry}
use Rattle.bpf_link.specs.declared.plan.Plan.{Plan as Planned}
use Rattle.bpf_load.specs.Targets.{Gathers, object_of}
use Rattle.bpf_load.specs.declared.loading.Sources.{Sources}
use Rattle.bpfdb_cli.specs.declared.plans.Plan.{Plan}
use Rattle.bpfdb_files.specs.Reading.{Gives}
use Rattle.bpfdb_files.specs.declared.kinds.FileKind.TheVariants.{Source}
use Rattle.bpfdb_jobs.specs.declared.job.Job.{Job}
use Rattle.bpfdb.specs.Contents.{Contents}
use Rattle.bpfdb.specs.Jobs.{IsJobOf}
use Rattle.bpfdb.specs.Kinds.{runs_two}

-- The path of a helper's part: its name in the kernel, in the folder.
abbrev pub part_path : List ℕ → ℕ → List ℕ
part_path folder helper = ((folder ++ codes "/bpf_") ++ helper_name helper) ++ codes ".o"

-- An object leaves a symbol undefined whose name begins as those of helpers do; so does one of which that isn't known.
abbrev pub has_prefix : List ℕ → ℕ → Bool
has_prefix bytes at = nat_le (at + 4) (length bytes) && bytes_eq (slice_range bytes at (at + 4)) (codes "bpf_")

abbrev pub is_elsewhere : Planned → SymbolEntry → Bool
is_elsewhere plan symbol = (symbol.section == 0) && has_prefix plan.object.bytes (symbol_place plan symbol)

abbrev pub leaves_below : Planned → ℕ → Bool
leaves_below plan zero = false
leaves_below plan (suc n) = is_elsewhere plan (symbol_at plan.symbols n) || leaves_below plan n

abbrev pub leaves_in : Result Planned LinkFault → Bool
leaves_in (Ok plan) = leaves_below plan (length plan.symbols)
leaves_in (Err fault) = true

abbrev pub leaves_names : List ℕ → List ℕ → Bool
leaves_names object section = leaves_in (planned object section)

-- The calls of helpers in code: the slots that are such, one behind the other.
abbrev pub with_call : List ℕ → ℕ → List ℕ → List ℕ
with_call code slot calls = if calls_helper code slot then calls ++ slice_range code (8 * slot) (8 * slot + 8) else calls

abbrev pub calls_below : List ℕ → ℕ → List ℕ
calls_below code zero = []
calls_below code (suc n) = with_call code n (calls_below code n)

abbrev pub calls_in : List ℕ → List ℕ
calls_in code = calls_below code (length code / 8)

-- Those of the code that an object's entry reaches, where no helper is undefined.
pub record CallsIn (object section entry calls : List ℕ) : Type 0 where
  pub whole : leaves_names object section ≡ false
  pub code : List ℕ
  pub reached : IsReachedCode object section entry code
  pub are : calls ≡ calls_in code

-- Those of a job's program, of FILE and of the objects with functions.
pub record Calls (job : Job) (calls : List ℕ) : Type 0 where
  pub sources : Sources
  pub gathers : Gathers job.target job.file.now sources
  pub called : CallsIn (object_of sources) job.target.section.now job.target.entry.now calls

-- A helper's part is read where it is called.
abbrev pub GivesOne : Bool → Option (List ℕ) → List (List ℕ) → List (List ℕ) → Type 0
GivesOne false known before all = all ≡ before
GivesOne true known before all = (part : List ℕ) × Gives Source known (Some part) × (all ≡ before ++ part ∷ [])

-- The parts of the last n helpers of the kernel's list, the last one first. (The parts of maps' helpers, 2 and 3, are the longest, and each part is copied
-- once for each one behind it.)
abbrev pub GivesBelow : (List ℕ → Option (List ℕ)) → List ℕ → List ℕ → ℕ → List (List ℕ) → Type 0
GivesBelow bytes_at folder calls zero all = all ≡ []
GivesBelow bytes_at folder calls (suc n) all = (before : List (List ℕ)) × GivesBelow bytes_at folder calls n before
    × GivesOne (is_called calls (211 - n)) (bytes_at (part_path folder (211 - n))) before all

-- The parts of all helpers that are called, and last that of lookups, helper 1, whether it is called or not: it has what the others share.
pub record GivesParts (bytes_at : List ℕ → Option (List ℕ)) (folder calls : List ℕ) (parts : List (List ℕ)) : Type 0 where
  pub others : List (List ℕ)
  pub of_others : GivesBelow bytes_at folder calls 210 others
  pub shared : List ℕ
  pub of_shared : Gives Source (bytes_at (part_path folder 1)) (Some shared)
  pub all : parts ≡ others ++ shared ∷ []

-- The parts for the only program of a plan.
pub record ArePartsFor (bytes_at : List ℕ → Option (List ℕ)) (folder : List ℕ) (plan : Plan) (of : Contents) (parts : List (List ℕ)) : Type 0 where
  pub job : Job
  pub is_job : IsJobOf plan of job
  pub one : runs_two job ≡ false
  pub calls : List ℕ
  pub of_job : Calls job calls
  pub gives : GivesParts bytes_at folder calls parts
