-- Scaffolding: no public contract cites this. What the words of a program ask of their maps, slot by slot.
use Rattle.std.specs.Prelude.{◌≡◌, ◌<◌, ◌≤◌, ◌↔◌, ℕ, ◌+◌, ◌*◌, List, Option, Some, None, length, get_or, replicate, slice_get, slice_index}
use Rattle.std.specs.Option.{option_map_or}
use Rattle.bpf_isa.specs.declared.demands.Lengths.{Lengths}
use Rattle.bpf_isa.specs.declared.fault.LoadFault.{LoadFault}
use Rattle.bpf_isa.specs.declared.fault.LoadFault.TheVariants.{Memory}
use Rattle.bpf_isa.specs.declared.fault.PieceFault.TheVariants.{NoMap}
use Rattle.bpf_isa.specs.declared.maps.MapShape.{MapShape}
use Rattle.bpf_isa.specs.Checker.{IsStartIn, HasNoFault, IsFirstFault, IsAccepted, IsRefused}
use Rattle.bpf_isa.specs.Maps.{AreMaps, most_maps}

-- The largest table: words that have a fault with these maps have it with all.
abbrev pub largest_maps : List MapShape
largest_maps = replicate most_maps (record { value_size = 256; entries = 256 })

-- How many bytes a map has, by its number; none where there is no such map.
abbrev pub bytes_in : List MapShape → ℕ → ℕ
bytes_in maps map = option_map_or (λ shape. shape.value_size * shape.entries) (slice_get maps map) 0

-- Each map has as many bytes as are wanted of it.
abbrev pub Meet : List MapShape → List ℕ → Type 0
Meet maps lengths = (map : ℕ) → slice_index lengths map ≤ bytes_in maps map

-- The first n slots have no fault.
abbrev pub AreClear : List ℕ → List MapShape → ℕ → Type 0
AreClear bytes maps n = (p : ℕ) → p < n → IsStartIn bytes p → HasNoFault bytes maps p

-- Just these lengths are wanted by the first n slots.
abbrev pub AreWanted : List ℕ → ℕ → List ℕ → Type 0
AreWanted bytes n lengths = (maps : List MapShape) → AreMaps maps → Meet maps lengths ↔ AreClear bytes maps n

-- They are wanted up to a slot, which is refused where the slots before it are not.
pub record AreWantedAt (bytes : List ℕ) (p : ℕ) (lengths : List ℕ) : Type 0 where
  pub enough : AreWanted bytes (p + 1) lengths
  pub missing : (maps : List MapShape) → AreMaps maps → AreClear bytes maps p → (Meet maps lengths → ⊥) → IsFirstFault bytes maps p NoMap

-- What is said of bytes with maps, where memory doesn't run out.
abbrev pub Says : List ℕ → List MapShape → Option LoadFault → Type 0
Says bytes maps None = IsAccepted bytes maps
Says bytes maps (Some fault) = IsRefused bytes maps fault × (fault ≡ Memory → ⊥)

-- What each slot wants, up to the first that has a fault with all maps, and that fault.
pub record AreDemands (bytes : List ℕ) (wanted : List Lengths) (fault : Option LoadFault) : Type 0 where
  pub each : (p : ℕ) (d : Lengths) → p < length wanted → AreWantedAt bytes p (get_or wanted p d).bytes
  pub rest : (maps : List MapShape) → AreMaps maps → AreClear bytes maps (length wanted) → Says bytes maps fault
