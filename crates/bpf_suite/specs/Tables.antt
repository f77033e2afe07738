-- The map table that a text names.
use Rattle.std.specs.Prelude.{ℕ, ◌≡◌, List, [], map, Option, Some, None, Result, Ok, Err}
use Rattle.bpf_isa.specs.Maps.{IsListFault, IsMapList, items_of, shape_of}
use Rattle.bpf_isa.specs.declared.fault.MapFault.{MapFault}
use Rattle.bpf_isa.specs.declared.maps.MapShape.{MapShape}

-- The map table that a text names; no map where there is no text.
abbrev pub HasMaps : Option (List ℕ) → List MapShape → Type 0
HasMaps None maps = maps ≡ []
HasMaps (Some text) maps = IsMapList text × (maps ≡ map shape_of (items_of text))

-- That table, or why the text names none.
abbrev pub IsTable : Option (List ℕ) → Result (List MapShape) MapFault → Type 0
IsTable text (Ok maps) = HasMaps text maps
IsTable text (Err fault) = (those : List ℕ) × (text ≡ Some those) × IsListFault those fault
