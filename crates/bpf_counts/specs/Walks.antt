-- A walk over the types of a section `.BTF`: how many there are, and where the section of maps stands among them.
use Rattle.std.specs.Prelude.{◌≡◌, ◌<◌, ℕ, zero, suc, ◌+◌, ◌*◌, ◌==◌, nat_le, Bool, ◌&&◌, if◌then◌else◌, List, [], Option, Some, None, codes, length, slice_range}
use Rattle.bpf_btf.specs.Layout.{is_called, type_entry}
use Rattle.bpf_btf.specs.Types.{place}
use Rattle.bpf_counts.specs.declared.walk.Walk.{Walk}

-- The section of maps, as bpf_btf finds it: the last type of kind DATASEC, 15, that is called `.maps`.
abbrev pub is_maps : List ℕ → List ℕ → ℕ → Bool
is_maps types strings at = ((type_entry types at).kind == 15) && is_called strings (type_entry types at).name (codes ".maps")

abbrev pub maps_place : List ℕ → List ℕ → ℕ → Option ℕ
maps_place types strings zero = None
maps_place types strings (suc n) = if is_maps types strings (place types n) then Some (place types n) else maps_place types strings n

-- The types end where their bytes do, and that is where the section stands.
pub record IsWalk (types strings : List ℕ) (walk : Walk) : Type 0 where
  pub all : place types walk.count ≡ length types
  pub maps : walk.maps ≡ maps_place types strings walk.count

-- A type is cut off: it begins before the bytes end, and they end before it does.
pub record IsCut (types : List ℕ) : Type 0 where
  pub n : ℕ
  pub begins : place types n < length types
  pub cut : length types < place types (suc n)

-- What the section of maps lists: 12 bytes for each variable. (One that is cut off lists nothing.)
abbrev pub listed : List ℕ → ℕ → List ℕ
listed types at =
    let end = at + 12 + 12 * (type_entry types at).count in if nat_le end (length types) then slice_range types (at + 12) end else []

abbrev pub listed_at : List ℕ → Option ℕ → List ℕ
listed_at types None = []
listed_at types (Some at) = listed types at
