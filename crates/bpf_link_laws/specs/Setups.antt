-- What a linked program does to a machine before its entry, which its words alone don't say.
use Rattle.std.specs.Prelude.{◌≡◌, ◌≤◌, ◌<◌, ℕ, ◌+◌, ◌/◌, ◌==◌, Bool, ◌&&◌, if◌then◌else◌, List, ◌++◌, Ok, Some, length, slice_index}
use Rattle.bpf_isa.specs.declared.maps.MapShape.{MapShape}
use Rattle.bpf_isa.specs.Programs.{Checked, IsProgram}
use Rattle.bpf_link.specs.declared.plan.Plan.{Plan}
use Rattle.bpf_link.specs.declared.stubs.Stub.{Stub}
use Rattle.bpf_link.specs.Data.{Numbered, numbered}
use Rattle.bpf_link.specs.Images.{image_of}
use Rattle.bpf_link.specs.Laid.{IsLaidOut}
use Rattle.bpf_link.specs.Links.{data_shapes}
use Rattle.bpf_steps.specs.ByAddress.{byte_at}
use Rattle.bpf_steps.specs.Platform.{context_limit, map_address}
use Rattle.bpf_steps.specs.Regions.{Image, IsImage}
use Rattle.bpf_steps.specs.Runs.{state_after, Steps}
use Rattle.bpf_steps.specs.State.{State, initial}

-- A checked program that was linked: it has the words that come out for a plan from a slot of its code on, where some slots are reached, and its maps are
-- as many as the plan has of its own, of any shapes, and after them those of its data.
pub record IsLinked (plan : Plan) (slot : ℕ) (reach : List Bool) (stubs : List Stub) (program : Checked) : Type 0 where
  pub checked : IsProgram program
  pub laid : IsLaidOut plan slot reach stubs program.bytes
  pub own : List MapShape
  pub count : length own ≡ length laid.maps
  pub shapes : program.maps ≡ own ++ data_shapes plan laid.taken

-- The slot of the entry, where the function is in a slot of the code: the code begins at slot 1 where a jump stands before it.
abbrev pub entry_slot : List ℕ → ℕ → ℕ
entry_slot stores slot = if (length stores == 0) && (slot == 0) then 0 else slot + 1

-- Memory holds the bytes of the k-th section of data in its map.
pub record HoldsSection (placed : Numbered) (memory : Image) (k : ℕ) : Type 0 where
  pub image : List ℕ
  pub is : image_of placed (slice_index placed.taken k) ≡ Ok image
  pub bytes : (j : ℕ) → j < length image → byte_at memory (map_address (length placed.maps + k) + j) ≡ Some (slice_index image j)

-- An address at which a byte of the data stands.
pub record IsOfData (placed : Numbered) (a : ℕ) : Type 0 where
  pub k : ℕ
  pub image : List ℕ
  pub j : ℕ
  pub known : k < length placed.taken
  pub is : image_of placed (slice_index placed.taken k) ≡ Ok image
  pub inside : j < length image
  pub place : a ≡ map_address (length placed.maps + k) + j

-- n steps set a machine up: they lead from its opening x to its entry y, and between these two no state stands in the code. At
-- the entry memory holds the bytes of each section of data. Each other byte, the registers, the frames, the trace and the status
-- are as at the opening. Without a setup there is no step, or the one to an entry that isn't the first slot.
pub record IsSetUp {plan : Plan} {slot : ℕ} {reach : List Bool} {stubs : List Stub} {words : List ℕ} (laid : IsLaidOut plan slot reach stubs words) (x y : State) (n : ℕ) : Type 0 where
  pub steps : Steps x y n
  pub behind : (k : ℕ) → 0 < k → k < n → length laid.code / 8 < (state_after k x).pc
  pub without : length laid.stores ≡ 0 → n ≡ (if slot == 0 then 0 else 1)
  pub sections : (k : ℕ) → k < length laid.taken → HoldsSection (numbered plan laid.maps laid.taken) y.memory k
  pub others : (a : ℕ) → (IsOfData (numbered plan laid.maps laid.taken) a → ⊥) → byte_at y.memory a ≡ byte_at x.memory a
  pub image : IsImage y.memory
  pub rest : y ≡ record x { pc = entry_slot laid.stores slot; memory = record x.memory { bytes = y.memory.bytes } }

-- Each linked program sets a machine up, whatever its context is.
abbrev pub SetupsStoreTheData : Type 0
SetupsStoreTheData =
    (plan : Plan) (slot : ℕ) (reach : List Bool) (stubs : List Stub) (program : Checked) (linked : IsLinked plan slot reach stubs program) (context : List ℕ) →
    length context ≤ context_limit →
    (y : State) × (n : ℕ) × IsSetUp linked.laid (initial program context) y n
