-- What comes of a test's program: it is refused, or it runs to its end or to the limit.
use Rattle.std.specs.Prelude.{ℕ, ◌≡◌, ◌≤◌, ⊤, true, false, Bool, not, List, [], ◌∷◌, ◌++◌, codes, find, length, Option, Some, None, Result, Ok, Err, IfErr, OnErr, OnOk, slice_get}
use Rattle.bpf_isa.specs.Checker.{IsRefused}
use Rattle.bpf_isa.specs.Maps.{IsListFault}
use Rattle.bpf_isa.specs.Programs.{Checked, IsProgram}
use Rattle.bpf_isa.specs.declared.fault.LoadFault.TheVariants as load
use Rattle.bpf_isa.specs.declared.maps.MapShape.{MapShape}
use Rattle.bpf_text.specs.Listing.{IsFaultOf, IsListing}
use Rattle.bpf_text.specs.declared.fault.AsmFault.{AsmFault}
use Rattle.bpf_text.specs.declared.fault.AsmFault.TheVariants as assembly
use Rattle.bpf_machine.specs.Edits.{edited, has_cell}
use Rattle.bpf_steps.specs.Opening as opening
use Rattle.bpf_steps.specs.Platform.{context_limit}
use Rattle.bpf_steps.specs.State.{State, initial}
use Rattle.bpf_machine.specs.declared.edit.Edit.{Edit}
use Rattle.bpf_machine.specs.declared.edit.Edit.TheVariants as edit
use Rattle.bpf_steps.specs.declared.fault.OpenFault.TheVariants as unopened
use Rattle.bpf_entries.specs.declared.status.Status.{Status}
use Rattle.bpf_entries.specs.declared.status.Status.TheVariants as status
use Rattle.bpf_session.specs.Plain.{plain_end}
use Rattle.bpfdb_script.specs.Texts.{place}
use Rattle.bpf_suite.specs.Refusals.{refusal_text}
use Rattle.bpf_suite.specs.Regs.{with_regs}
use Rattle.bpf_suite.specs.Tables.{HasMaps}
use Rattle.bpf_suite.specs.declared.cells.Cell.{Cell}
use Rattle.bpf_suite.specs.declared.refusal.Refusal.{Refusal}
use Rattle.bpf_suite.specs.declared.refusal.Refusal.TheVariants.{Maps, Listing, Load, Open, NoCell}
use Rattle.bpf_suite.specs.declared.setting.Setting.{Setting}

-- The words of a program: those of a listing, or as they stand.
abbrev pub HasWords : Bool → List ℕ → List ℕ → Type 0
HasWords false program words = words ≡ program
HasWords true program words = IsListing program words

-- Its words, or the fault of its listing.
abbrev pub Reads : Bool → List ℕ → Result (List ℕ) AsmFault → Type 0
Reads listing program (Ok words) = HasWords listing program words
Reads listing program (Err fault) = (listing ≡ true) × IsFaultOf program fault

-- The program: the checker accepted its words with its maps.
pub record IsProgramOf (t : Setting) (code : Checked) : Type 0 where
  pub maps : HasMaps t.maps code.maps
  pub words : HasWords t.is_listing t.program code.bytes
  pub accepted : IsProgram code

-- The first cell that no map of these shapes has, or whose values have another length.
abbrev pub is_there : List MapShape → Cell → Bool
is_there maps cell = has_cell (slice_get maps cell.map) cell.index (length cell.value)

abbrev pub missing : List MapShape → List Cell → Option Cell
missing maps cells = find (λ cell. not (is_there maps cell)) cells

-- Cells get their values, one after another, as `set cell` of the debugger gives them.
abbrev pub edit_of : Cell → Edit
edit_of cell = edit.Cell cell.map cell.index cell.value

abbrev pub with_cells : List Cell → State → State
with_cells [] x = x
with_cells (cell ∷ cells) x = with_cells cells (edited x (edit_of cell))

-- A cell gets its value, unless it isn't there.
pub record GivesCell (cell : Cell) (old new : State) (result : Result (Unit {0}) Refusal) : Type 0 where
  pub ok : OnOk result (is_there old.program.maps cell ≡ true)
  pub next : OnOk result (new ≡ edited old (edit_of cell))
  pub err : OnErr result (is_there old.program.maps cell ≡ false)
  pub told : IfErr result (λ refusal. refusal ≡ NoCell cell.map cell.index)
  pub program : new.program ≡ old.program

-- Why cells don't get their values: one isn't there, or memory ran out.
abbrev pub RefusesCells : List MapShape → List Cell → Refusal → Type 0
RefusesCells maps cells (NoCell map index) =
    (cell : Cell) × (missing maps cells ≡ Some cell) × (map ≡ cell.map) × (index ≡ cell.index)
RefusesCells maps cells (Open unopened.OutOfMemory) = ⊤
RefusesCells maps cells _ = ⊥

-- Cells get their values, one after another, unless one isn't there.
pub record GivesCells (cells : List Cell) (old new : State) (result : Result (Unit {0}) Refusal) : Type 0 where
  pub there : OnOk result (missing old.program.maps cells ≡ None)
  pub next : OnOk result (new ≡ with_cells cells old)
  pub why : IfErr result (RefusesCells old.program.maps cells)
  pub program : new.program ≡ old.program

-- The machine is opened on the program and the context.
pub record IsOpened (t : Setting) (code : Checked) : Type 0 where
  pub program : IsProgramOf t code
  pub short : length t.context ≤ context_limit

-- Why it is refused. Each refusal comes where those before don't.
abbrev pub Refuses : Setting → Refusal → Type 0
Refuses t (Maps fault) = (text : List ℕ) × (t.maps ≡ Some text) × IsListFault text fault
Refuses t (Listing fault) = (shapes : List MapShape) × HasMaps t.maps shapes × (t.is_listing ≡ true) × IsFaultOf t.program fault
Refuses t (Load fault) = (shapes : List MapShape) × HasMaps t.maps shapes
    × (words : List ℕ) × HasWords t.is_listing t.program words × IsRefused words shapes fault
Refuses t (Open fault) = (code : Checked) × IsProgramOf t code × opening.Refused t.context fault
Refuses t (NoCell map index) = (code : Checked) × IsOpened t code
    × (cell : Cell) × (missing code.maps t.cells ≡ Some cell) × (map ≡ cell.map) × (index ≡ cell.index)

-- Want of memory is no outcome.
abbrev pub is_memory : Refusal → Bool
is_memory (Listing assembly.Memory) = true
is_memory (Load load.Memory) = true
is_memory (Open unopened.OutOfMemory) = true
is_memory _ = false

-- The state in which a program ends, or has taken as many steps as it may, from the opening with its cells and its registers set.
abbrev pub Ends : Setting → State → Type 0
Ends t x = (code : Checked) × IsOpened t code × (missing code.maps t.cells ≡ None)
    × (x ≡ plain_end t.limit (with_regs t.regs (with_cells t.cells (initial code t.context))))

-- An outcome: that state, or why the program is refused.
abbrev pub Outcome : Type 0
Outcome = Result State Refusal

abbrev pub Comes : Setting → Outcome → Type 0
Comes t (Ok x) = Ends t x
Comes t (Err refusal) = Refuses t refusal × (is_memory refusal ≡ false)

-- The word in front of where a machine stands that still runs.
abbrev pub limit_word : Status → List ℕ
limit_word status.Running = codes "limit "
limit_word status.Exited = []
limit_word (status.Faulted fault) = []

-- An outcome as it is printed.
abbrev pub outcome_text : Outcome → List ℕ
outcome_text (Ok x) = limit_word x.status ++ place x
outcome_text (Err refusal) = refusal_text refusal
