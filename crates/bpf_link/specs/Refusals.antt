-- Why no program is made of an object: in its words, or in the shapes of its maps.
use Rattle.std.specs.Prelude.{◌≡◌, ◌⊎◌, ℕ, Bool, true, List, Ok, Err}
use Rattle.bpf_isa.specs.Checker.{IsAccepted, IsRefused}
use Rattle.bpf_isa.specs.declared.fault.LoadFault.{LoadFault}
use Rattle.bpf_btf.specs.Sections.{IsRead, IsReadFault}
use Rattle.bpf_btf.specs.Types.{Types}
use Rattle.bpf_btf.specs.declared.fault.BtfFault.{BtfFault}
use Rattle.bpf_link.specs.declared.fault.LinkFault.{LinkFault}
use Rattle.bpf_link.specs.declared.fault.LinkFault.TheVariants as link
use Rattle.bpf_link.specs.declared.plan.Plan.{Plan}
use Rattle.bpf_link.specs.declared.stubs.Stub.{Stub}
use Rattle.bpf_link.specs.Begun.{Begun, BeginsNot, counts}
use Rattle.bpf_link.specs.Links.{Made, MemoryOr, least_maps, maps_of, program_of, told_of}
use Rattle.bpf_link.specs.MapTypes.{types_found, types_bytes, is_typed, typed_shapes}
use Rattle.bpf_link.specs.Shapes.{IsInOrder}
use Rattle.bpf_link.specs.Undefined.{all_told}

-- The BTF isn't read.
pub record HasReadFault (plan : Plan) (fault : LinkFault) : Type 0 where
  pub why : BtfFault
  pub told : fault ≡ link.Types why
  pub unread : IsReadFault (types_bytes plan.object (types_found plan.object)) why

-- It doesn't say of each map what the machine may have.
pub record HasOtherMap (plan : Plan) (maps : List ℕ) (fault : LinkFault) : Type 0 where
  pub types : Types
  pub read : IsRead (types_bytes plan.object (types_found plan.object)) types
  pub ordered : List ℕ
  pub in_order : IsInOrder maps ordered
  pub told : typed_shapes plan types ordered ≡ Err fault

-- Why BTF gives no shapes.
abbrev pub IsTypeFault : Plan → List ℕ → LinkFault → Type 0
IsTypeFault plan maps fault = (fault ≡ link.Memory) ⊎ (HasReadFault plan fault ⊎ HasOtherMap plan maps fault)

-- BTF is to give them.
pub record HasTypeFault (plan : Plan) (maps : List ℕ) (fault : LinkFault) : Type 0 where
  pub typed : is_typed plan maps ≡ true
  pub err : IsTypeFault plan maps fault

-- Why the maps of a plan have no shapes.
pub record IsShapeFault (plan : Plan) (fault : LinkFault) : Type 0 where
  pub maps : List ℕ
  pub found : maps_of plan ≡ Ok maps
  pub why : HasTypeFault plan maps fault

-- The checker refuses the words of a plan.
pub record IsRejected (plan : Plan) (program : Made) (fault : LinkFault) : Type 0 where
  pub refusal : LoadFault
  pub told : fault ≡ told_of plan program.words refusal
  pub refused : IsRefused program.words (least_maps program.maps program.data_maps) refusal

-- The words are a program, and its maps have no shapes.
pub record LacksShapes (plan : Plan) (program : Made) (fault : LinkFault) : Type 0 where
  pub accepted : IsAccepted program.words (least_maps program.maps program.data_maps)
  pub why : IsShapeFault plan fault

-- Why no program is made of a plan.
abbrev pub IsPlanFault : Plan → ℕ → List Bool → List Stub → LinkFault → Type 0
IsPlanFault plan slot reach stubs fault =
    ((why : LinkFault) × MemoryOr (program_of slot reach stubs plan) why × (fault ≡ all_told plan why))
    ⊎ ((program : Made) × (program_of slot reach stubs plan ≡ Ok program) × (IsRejected plan program fault ⊎ LacksShapes plan program fault))

-- Why none is made of an object.
abbrev pub IsLinkFault : List ℕ → List ℕ → List ℕ → List Stub → LinkFault → Type 0
IsLinkFault object name entry stubs fault =
    (fault ≡ link.Memory)
    ⊎ (BeginsNot object name entry fault ⊎ ((begun : Begun object name entry) × IsPlanFault (counts begun) begun.slot begun.reach stubs fault))
