-- What is said at a terminal behind a refusal of a program: what FILE looks like where it isn't words, which helper a slot calls that bpfdb lacks,
-- and the line of a slot where it is a listing. bpfdb's own choice.
use Rattle.std.specs.Prelude.{ℕ, ◌+◌, ◌*◌, ◌/◌, length, nat_lt, ◌≡◌, ◌==◌, ◌&&◌, Bool, true, false, if◌then◌else◌, List, [], ◌∷◌, ◌++◌, Option, Some, None, option_map, codes, decimal}
use Rattle.std.specs.List.{after_first, before_first}
use Rattle.std.specs.Option.{option_and_then, option_map_or}
use Rattle.bpf_isa.specs.declared.fault.LoadFault.{LoadFault}
use Rattle.bpf_isa.specs.declared.fault.LoadFault.TheVariants.{Ragged, At}
use Rattle.bpf_isa.specs.declared.fault.PieceFault.TheVariants.{Word, UnknownHelper}
use Rattle.bpf_isa.specs.declared.fault.WordFault.TheVariants.{UnknownInstruction, UnusedField}
use Rattle.bpf_isa.specs.Words.{u32_at}
use Rattle.bpf_link.specs.Helpers.{helper_name}
use Rattle.bpf_load.specs.Faults.{IsTargetFault}
use Rattle.bpf_load.specs.Kinds.{is_object}
use Rattle.bpf_load.specs.Targets.{Loads}
use Rattle.bpf_load.specs.declared.fault.TargetFault.{TargetFault}
use Rattle.bpf_load.specs.declared.fault.TargetFault.TheVariants.{Program}
use Rattle.bpf_load.specs.declared.program.Loaded.{Loaded}
use Rattle.bpf_load.specs.declared.target.SourceKind.TheVariants as kind
use Rattle.bpf_text.specs.LineTable.{IsLineTable}
use Rattle.bpf_text.specs.Listing.{IsFaultOf}
use Rattle.bpf_text.specs.declared.fault.AsmFault.{AsmFault}
use Rattle.counted_io.specs.Lines.{lines}
use Rattle.counted_io.specs.Numerals.{as_u64, natural}
use Rattle.bpfdb_faults.specs.Streams.{Stream, Told}
use Rattle.bpfdb_script.specs.Shown.{shown}
use Rattle.bpfdb_jobs.specs.Looks.{is_text}
use Rattle.bpfdb_jobs.specs.Objects.{is_check}
use Rattle.bpfdb_jobs.specs.declared.hint.Hint.{Hint}
use Rattle.bpfdb_jobs.specs.declared.hint.Hint.TheVariants as hint
use Rattle.bpfdb_jobs.specs.declared.job.Job.{Job}

-- The faults of a file that isn't words: C3, and at the first slot C4 and C6.
abbrev pub is_of_file : LoadFault → Bool
is_of_file Ragged = true
is_of_file (At slot (Word UnknownInstruction)) = slot == 0
is_of_file (At slot (Word UnusedField)) = slot == 0
is_of_file fault = false

abbrev pub look_of : List ℕ → Option Hint
look_of file = if is_object file then Some hint.Object else if is_text file then Some hint.Listing else None

-- The helper that the word at a slot calls: its imm (RFC 9669, 4.3.1).
abbrev pub helper_at : ℕ → List ℕ → Option Hint
helper_at slot file = if nat_lt slot (length file / 8) then Some (hint.Helper slot (u32_at file (8 * slot + 4))) else None

-- After a refusal of words.
abbrev pub hint_after : LoadFault → List ℕ → Option Hint
hint_after (At slot UnknownHelper) file = helper_at slot file
hint_after fault file = if is_of_file fault then look_of file else None

abbrev pub look_after : TargetFault → List ℕ → Option Hint
look_after (Program fault) file = hint_after fault file
look_after why file = None

-- The line of an instruction, by the rows of a listing's table: their first word is the slot, their second one the line.
abbrev pub number_of : List ℕ → Option ℕ
number_of word = option_and_then as_u64 (natural word)

abbrev pub is_number : ℕ → List ℕ → Bool
is_number n word = option_map_or (λ m. m == n) (number_of word) false

abbrev pub line_at : ℕ → List (List ℕ) → Option ℕ
line_at slot [] = None
line_at slot (row ∷ rows) = if is_number slot (before_first (λ b. b == 32) row)
    then number_of (before_first (λ b. b == 32) (after_first (λ b. b == 32) row))
    else line_at slot rows

-- After a refusal of a listing's program, by its table.
abbrev pub place_after : TargetFault → List ℕ → Option Hint
place_after (Program (At slot fault)) table = option_map (hint.Line slot) (line_at slot (lines table))
place_after why table = None

-- The hint of a job, if there is one: none where FILE isn't read as a program, or is an object, or the program is loaded, or no table is made of a
-- listing.
pub data IsHintOf (job : Job) (hint : Option Hint) : Type 0 where
  Unchecked : is_check job.ask ≡ false → hint ≡ None → IsHintOf job hint
  Linked : job.target.kind ≡ kind.Object → hint ≡ None → IsHintOf job hint
  Accepted : (loaded : Loaded) → Loads job.target job.file.now loaded → hint ≡ None → IsHintOf job hint
  Looks : (why : TargetFault) → is_check job.ask ≡ true → job.target.kind ≡ kind.Words → IsTargetFault job.target job.file.now why
      → hint ≡ look_after why job.file.now → IsHintOf job hint
  Stands : (why : TargetFault) (table : List ℕ) → is_check job.ask ≡ true → job.target.kind ≡ kind.Listing
      → IsTargetFault job.target job.file.now why → IsLineTable job.file.now table → hint ≡ place_after why table → IsHintOf job hint
  Untold : (why : AsmFault) → job.target.kind ≡ kind.Listing → IsFaultOf job.file.now why → hint ≡ None → IsHintOf job hint

-- Its line on standard error.
abbrev pub place_line : List ℕ → ℕ → ℕ → List ℕ
place_line name slot line = codes "slot " ++ decimal slot ++ codes " is line " ++ decimal line ++ codes " of " ++ shown name ++ codes "\n"

-- The kernel's name of a helper, where it has one.
abbrev pub named : List ℕ → List ℕ
named [] = []
named name = codes " (bpf_" ++ name ++ codes ")"

abbrev pub helper_line : ℕ → ℕ → List ℕ
helper_line slot helper = codes "slot " ++ decimal slot ++ codes " calls helper " ++ decimal helper ++ named (helper_name helper)
    ++ codes ": in an object --with, --helper or Linux's library answers it\n"

abbrev pub hint_line : List ℕ → Hint → List ℕ
hint_line name hint.Object = shown name ++ codes " looks like an object: --object\n"
hint_line name hint.Listing = shown name ++ codes " looks like a listing: --listing\n"
hint_line name (hint.Helper slot helper) = helper_line slot helper
hint_line name (hint.Line slot line) = place_line name slot line

abbrev pub AddsLine : {E : Type 0} → List ℕ → Stream E → Option Hint → Type 0
AddsLine name errors None = errors.new ≡ errors.old
AddsLine name errors (Some hint) = Told errors (hint_line name hint)

-- What follows a job on standard error: where that is a terminal, and the status is 2, its hint, as far as it can be written; else nothing.
pub data AddsHint {E : Type 0} (at_terminal : Bool) (job : Job) (status : ℕ) (errors : Stream E) : Type 0 where
  Silent : (at_terminal && status == 2) ≡ false → errors.new ≡ errors.old → AddsHint at_terminal job status errors
  Hinted : (hint : Option Hint) → (at_terminal && status == 2) ≡ true → IsHintOf job hint → AddsLine job.name.now errors hint
      → AddsHint at_terminal job status errors
