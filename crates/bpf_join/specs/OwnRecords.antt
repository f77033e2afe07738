-- The records of an object's own maps.
use Rattle.std.specs.Prelude.{◌≡◌, ◌⊎◌, ℕ, List, Ok, Err}
use Rattle.bpf_join.specs.Joined.{has_types}
use Rattle.bpf_join.specs.Records.{HasRecords, IsRecordFault, map_places}
use Rattle.bpf_link.specs.Links.{MemoryOr, planned}
use Rattle.bpf_link.specs.declared.fault.LinkFault.{LinkFault}
use Rattle.bpf_link.specs.declared.plan.Plan.{Plan}

-- They are those of the maps that its symbols name.
pub record AreOwnRecords (object section records : List ℕ) : Type 0 where
  pub plan : Plan
  pub plans : planned object section ≡ Ok plan
  pub places : List ℕ
  pub found : map_places plan ≡ Ok places
  pub told : HasRecords (has_types plan places) plan places records

-- Why there are none.
abbrev pub IsOwnRecordFault : List ℕ → List ℕ → LinkFault → Type 0
IsOwnRecordFault object section fault = (planned object section ≡ Err fault)
    ⊎ ((plan : Plan) × (planned object section ≡ Ok plan) × (MemoryOr (map_places plan) fault
    ⊎ ((places : List ℕ) × (map_places plan ≡ Ok places) × IsRecordFault (has_types plan places) plan places fault)))
