-- The words that tests of a file share, and what is kept of them for the maps of each test.
use Rattle.std.specs.Prelude.{ℕ, ◌≡◌, false, List, Option, Result, Ok, Err, IfOk, IfSome, OnErr, OnOk}
use Rattle.bpf_isa.specs.Checker.{IsAccepted}
use Rattle.bpf_isa.specs.declared.maps.MapShape.{MapShape}
use Rattle.bpf_steps.specs.State.{State}
use Rattle.bpf_text.specs.declared.fault.AsmFault.{AsmFault}
use Rattle.bpf_suite.specs.Benches.{Loads}
use Rattle.bpf_suite.specs.Outcomes.{Outcome, Reads, is_memory}
use Rattle.bpf_suite.specs.Tables.{HasMaps}
use Rattle.bpf_suite.specs.declared.refusal.Refusal.{Refusal}
use Rattle.bpf_suite.specs.declared.setting.Setting.{Setting}

-- Bytes are the words, if there are words.
abbrev pub AreBytesOf : Result (List ℕ) AsmFault → List ℕ → Type 0
AreBytesOf words bytes = IfOk words (λ those. bytes ≡ those)

-- A machine, if there is one, stands on the words.
abbrev pub StandsOn : Result (List ℕ) AsmFault → Outcome → Type 0
StandsOn words machine = IfOk machine (λ x. AreBytesOf words x.program.bytes)

-- What is kept, if something is: what the words ask of maps, and a machine on them that is set aside.
abbrev pub AskedOf : Result (List ℕ) AsmFault → Option (List ℕ) → Type 0
AskedOf words demands = IfSome demands (AreBytesOf words)

abbrev pub AsideOf : Result (List ℕ) AsmFault → Option State → Type 0
AsideOf words spare = IfSome spare (λ x. AreBytesOf words x.program.bytes)

pub record IsStock (words : Result (List ℕ) AsmFault) (demands : Option (List ℕ)) (spare : Option State) : Type 0 where
  pub asked : AskedOf words demands
  pub aside : AsideOf words spare

-- The words of a test, and its maps, with which the checker accepts them.
pub record AreAdmitted (t : Setting) (words : Result (List ℕ) AsmFault) (maps : List MapShape) : Type 0 where
  pub reads : Reads t.is_listing t.program words
  pub named : HasMaps t.maps maps
  pub accepted : (those : List ℕ) × (words ≡ Ok those) × IsAccepted those maps

-- A test's program is that of the words, and a machine, if there is one, stands on these.
pub record IsToBring (t : Setting) (words : Result (List ℕ) AsmFault) (machine : Outcome) : Type 0 where
  pub reads : Reads t.is_listing t.program words
  pub stands : StandsOn words machine

-- The machine is brought onto a test's program with its maps; or memory ran out, and it stays as it was.
pub record Brings {E : Type 0} (t : Setting) (old new : Outcome) (result : Result (Unit {0}) E) : Type 0 where
  pub loads : OnOk result (Loads t new)
  pub same : OnErr result (new ≡ old)

-- A refusal stands in the machine's place, and is not want of memory.
abbrev pub IsRefusedBy : Refusal → Outcome → Type 0
IsRefusedBy refusal machine = (machine ≡ Err refusal) × (is_memory refusal ≡ false)
