-- Map tables. Array maps and their limits are bpfdb's own choice.
use Rattle.std.specs.Prelude.{◌≡◌, ◌<◌, ◌≤◌, ◌⊎◌, ℕ, ◌*◌, Bool, ◌==◌, List, [], Some, All, length, take, map, slice_get, slice_index_or}
use Rattle.std.specs.List.{position_or_len, before_first, after_first, slice_split}
use Rattle.std.specs.Str.Parse.{IsNumeral, digits_value}
use Rattle.bpf_isa.specs.declared.maps.MapShape.{MapShape}
use Rattle.bpf_isa.specs.declared.fault.MapFault.{MapFault}
use Rattle.bpf_isa.specs.declared.fault.MapFault.TheVariants.{ValueSize, Entries, Total, Full, Malformed}
use Rattle.bpf_isa.specs.Faults.{IsLeast, map_fault}

-- The most maps of a program, bytes of a value, entries, and bytes of a map in all.
abbrev pub most_maps : ℕ
most_maps = 16

abbrev pub longest_value : ℕ
longest_value = 256

abbrev pub most_entries : ℕ
most_entries = 4_096

abbrev pub most_map_bytes : ℕ
most_map_bytes = 65_536

-- The shape of a map.
pub record IsShape (shape : MapShape) : Type 0 where
  pub filled : (0 < shape.value_size) × (0 < shape.entries)
  pub value : shape.value_size ≤ longest_value
  pub entries : shape.entries ≤ most_entries
  pub total : shape.value_size * shape.entries ≤ most_map_bytes

-- A table.
pub record AreMaps (maps : List MapShape) : Type 0 where
  pub few : length maps ≤ most_maps
  pub shapes : All IsShape maps

-- Why a further map of a value size and a number of entries is refused.
abbrev pub HasMapFault : List MapShape → ℕ → ℕ → MapFault → Type 0
HasMapFault maps value entries ValueSize = (value ≡ 0) ⊎ (longest_value < value)
HasMapFault maps value entries Entries = (entries ≡ 0) ⊎ (most_entries < entries)
HasMapFault maps value entries Total = most_map_bytes < value * entries
HasMapFault maps value entries Full = most_maps ≤ length maps
HasMapFault maps value entries Malformed = ⊥

-- The letter x.
abbrev pub is_x : ℕ → Bool
is_x byte = byte == 120

-- A map in a list of maps: digits, an x, digits.
pub record IsItem (item : List ℕ) : Type 0 where
  pub cut : position_or_len is_x item < length item
  pub value : IsNumeral 10 (before_first is_x item)
  pub entries : IsNumeral 10 (after_first is_x item)

-- The shape that it names: the value size, then the entries, both of any size.
abbrev pub shape_of : List ℕ → MapShape
shape_of item = record { value_size = digits_value 10 (before_first is_x item); entries = digits_value 10 (after_first is_x item) }

-- A list of maps is cut at commas. An empty text is one empty map, so it is none.
abbrev pub items_of : List ℕ → List (List ℕ)
items_of text = slice_split (λ byte. byte == 44) text

-- A text is a list of maps when each of its items is a map.
abbrev pub IsMapList : List ℕ → Type 0
IsMapList text = (k : ℕ) → k < length (items_of text) → IsItem (slice_index_or (items_of text) k [])

-- The first map that can't be added to those before it, and its fault with the least number.
pub record IsFirstBadMap (maps : List MapShape) (fault : MapFault) : Type 0 where
  pub at : ℕ
  pub shape : MapShape
  pub found : slice_get maps at ≡ Some shape
  pub before : AreMaps (take at maps)
  pub least : IsLeast map_fault (HasMapFault (take at maps) shape.value_size shape.entries) fault

-- Why a text is refused: first for its form, then for its maps.
abbrev pub IsListFault : List ℕ → MapFault → Type 0
IsListFault text Malformed = IsMapList text → ⊥
IsListFault text fault = IsMapList text × IsFirstBadMap (map shape_of (items_of text)) fault
