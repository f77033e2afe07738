-- The program that tests of a file share: its words are read once, it is checked with the maps of a test, and tests run on one machine, one after another.
use Rattle.std.specs.Prelude.{ℕ, ◌≡◌, Bool, true, false, not, List, Option, Some, None, Result, Ok, Err}
use Rattle.std.specs.Option.{option_or}
use Rattle.bpf_text.specs.declared.fault.AsmFault.{AsmFault}
use Rattle.bpf_suite.specs.Cells.{cell_lines}
use Rattle.bpf_suite.specs.Faults.{has_part}
use Rattle.bpf_suite.specs.Images.{IsImage}
use Rattle.bpf_suite.specs.Outcomes.{IsProgramOf, Outcome, Reads, Refuses, is_memory}
use Rattle.bpf_suite.specs.Tests.{body_for, cells, has_listing, program, setting}
use Rattle.bpf_suite.specs.declared.cells.CellLine.{CellLine}
use Rattle.bpf_suite.specs.declared.image.Image.{Image}
use Rattle.bpf_suite.specs.declared.kind.Part.TheVariants as part
use Rattle.bpf_suite.specs.declared.refusal.Refusal.{Refusal}
use Rattle.bpf_suite.specs.declared.refusal.Refusal.TheVariants.{Maps, Listing, Load, Open, NoCell}
use Rattle.bpf_suite.specs.declared.section.Section.{Section}
use Rattle.bpf_suite.specs.declared.setting.Setting.{Setting}

-- A test has the shared program, where its own sections have none.
abbrev pub shares_program : List Section → Bool
shares_program own = not (has_part part.Program own)

-- What is said of a program, with other maps, if there are some.
abbrev pub with_maps : Option (List ℕ) → Setting → Setting
with_maps maps t = record t { maps = option_or maps t.maps }

-- Why a program is refused whatever it would run on.
abbrev pub RefusesProgram : Setting → Refusal → Type 0
RefusesProgram t (Maps fault) = Refuses t (Maps fault)
RefusesProgram t (Listing fault) = Refuses t (Listing fault)
RefusesProgram t (Load fault) = Refuses t (Load fault)
RefusesProgram t (Open fault) = ⊥
RefusesProgram t (NoCell map index) = ⊥

-- What a program comes to before it runs: a machine stands on it, in some state, or it is refused.
abbrev pub Loads : Setting → Outcome → Type 0
Loads t (Ok x) = IsProgramOf t x.program
Loads t (Err refusal) = RefusesProgram t refusal × (is_memory refusal ≡ false)

-- A program may run on what it loads as, by an image of its cells where these are shared.
pub record IsReady (t : Setting) (shares : Bool) (machine : Outcome) (kept : Image) : Type 0 where
  pub loads : Loads t machine
  pub image : shares ≡ true → IsImage t.cells kept

-- The sections that tests share, and the machine of their program, or why there is none.
pub record Shared : Type 0 where
  pub sections : List Section
  pub machine : Outcome

-- The machine is that of a test with the shared program and these maps of its own, if it has some.
pub record IsBench (sections : List Section) (words : Result (List ℕ) AsmFault) (after : List CellLine) (kept : Image) (own : Option (List ℕ))
    (machine : Outcome) : Type 0 where
  pub reads : Reads (has_listing sections) (program sections) words
  pub wanted : after ≡ cell_lines (body_for part.CellsAfter sections)
  pub image : IsImage (cells sections) kept
  pub loads : Loads (with_maps own (setting sections)) machine

-- Why a program is refused, if it is. Want of memory is no reason.
abbrev pub ReasonOf : Result (Unit {0}) Refusal → Option Refusal → Type 0
ReasonOf (Ok done) reason = reason ≡ None
ReasonOf (Err refusal) reason = (reason ≡ Some refusal) × (is_memory refusal ≡ false)

-- What a test comes to: that machine, or a refusal of its own.
abbrev pub outcome_by : Outcome → Option Refusal → Outcome
outcome_by machine None = machine
outcome_by machine (Some refusal) = Err refusal
