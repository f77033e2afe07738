-- What is asked about of a machine with its journal, with what tells from where its program can come there.
use Rattle.std.specs.Prelude.{◌≡◌, ℕ, Bool, List, Option, Ok, Err}
use Rattle.bpf_isa.specs.Programs.{Checked}
use Rattle.bpf_entries.specs.Keeping.{Kept}
use Rattle.bpf_journal.specs.Histories.{Record, StandsFor}
use Rattle.bpf_steps.specs.State.{State}
use Rattle.bpf_whynot.specs.Asked.{Goals, goals_in}
use Rattle.bpf_whynot.specs.Makings.{goals_left, made_last}
use Rattle.bpf_whynot.specs.Reach.{TellsReach}
use Rattle.bpf_whynot.specs.Tables.{AreGoals, told_by}
use Rattle.bpf_whynot.specs.declared.aim.Aim.{Aim}
use Rattle.bpf_whynot.specs.declared.fault.AimFault.{AimFault}
use Rattle.bpf_whynot.specs.declared.made.Made.{Made}
use Rattle.bpf_whynot.specs.declared.fault.AimFault.TheVariants.{Goal, OutOfMemory}

-- Of goals, in a state with its history: those at which no kept move made the value that is asked for, what tells from where a program can come to them,
-- and the newest kept move that made the value.
pub record IsAim (goals : Goals) (h : List Record) (y : State) (aim : Aim) : Type 0 where
  pub flags : AreGoals y.program (goals_left goals h) aim.goals.items
  pub made : aim.made ≡ made_last goals h y
  pub tells : TellsReach y.program (goals_left goals h) (told_by aim.reach)

-- Those goals, one flag a slot, and that move, for each history for which a keeper stands.
abbrev pub AreLeft : {K : Type 0} → (K → List Kept → Type 0) → K → State → List ℕ → Option Made → List Bool → Type 0
AreLeft holds keeper y text made flags =
    (goals : Goals) × (goals_in y.program text ≡ Ok goals) × ((h : List Record) → StandsFor holds keeper y h →
    AreGoals y.program (goals_left goals h) flags × (made ≡ made_last goals h y))

-- Of those that a text names, for each history for which a keeper stands.
abbrev pub AimsAt : {K : Type 0} → (K → List Kept → Type 0) → K → State → List ℕ → Aim → Type 0
AimsAt holds keeper y text aim =
    (goals : Goals) × (goals_in y.program text ≡ Ok goals) × ((h : List Record) → StandsFor holds keeper y h → IsAim goals h y aim)

-- Why there are none: the text names none, or memory ran out.
abbrev pub IsNoAim : Checked → List ℕ → AimFault → Type 0
IsNoAim program text (Goal fault) = goals_in program text ≡ Err fault
IsNoAim program text OutOfMemory = Unit {0}
