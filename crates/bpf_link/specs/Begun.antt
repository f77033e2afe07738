-- What an object, a section and the name of an entry come to before the program is put together.
use Rattle.std.specs.Prelude.{◌≡◌, ◌⊎◌, ℕ, Bool, List, Ok, Err}
use Rattle.bpf_link.specs.declared.fault.LinkFault.{LinkFault}
use Rattle.bpf_link.specs.declared.plan.Plan.{Plan}
use Rattle.bpf_link.specs.Blanked.{blanked}
use Rattle.bpf_link.specs.Entries.{entry_of}
use Rattle.bpf_link.specs.Links.{planned}
use Rattle.bpf_link.specs.Pruned.{flow_of, pruned}
use Rattle.bpf_link.specs.Reach.{IsReach}

-- The plan of the section, the slot of its code at which the program begins, and the slots that are reached from there.
pub record Begun (object name entry : List ℕ) : Type 0 where
  pub plan : Plan
  pub plans : planned object name ≡ Ok plan
  pub slot : ℕ
  pub begins : entry_of plan entry ≡ Ok slot
  pub reach : List Bool
  pub reached : IsReach (flow_of plan) slot reach

-- The plan with what counts.
abbrev pub counts : {object name entry : List ℕ} → Begun object name entry → Plan
counts begun = pruned begun.reach begun.plan

-- There is no such section, or no such entry in it.
abbrev pub BeginsNot : List ℕ → List ℕ → List ℕ → LinkFault → Type 0
BeginsNot object name entry fault = (planned object name ≡ Err fault) ⊎ ((plan : Plan) × (planned object name ≡ Ok plan) × (entry_of plan entry ≡ Err fault))

-- The code as control goes through it, with an exit in each slot that isn't reached.
abbrev pub IsReachedCode : List ℕ → List ℕ → List ℕ → List ℕ → Type 0
IsReachedCode object name entry words = (begun : Begun object name entry) × (words ≡ blanked begun.reach (flow_of begun.plan))
