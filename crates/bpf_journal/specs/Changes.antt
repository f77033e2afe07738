-- Scaffolding: the latest change of a byte, as a walk over kept entries finds it.
use Rattle.std.specs.Prelude.{ℕ, ◌==◌, ◌+◌, List, [], ◌∷◌, Option, Some, None, option_map, if◌then◌else◌}
use Rattle.bpf_entries.specs.Keeping.{Kept}
use Rattle.bpf_journal.specs.Replaced.{byte_before, depth_before}
use Rattle.bpf_journal.specs.declared.timeline.ByteChange.{ByteChange}

-- The same change, seen from so many moves later.
abbrev pub further : ℕ → ByteChange → ByteChange
further k c = record c { moves = k + c.moves }

-- The latest change of the byte at an address, of those in a list of entries that leads to this depth and this value.
abbrev pub change_in : ℕ → ℕ → ℕ → List Kept → Option ByteChange
change_in a d value [] = None
change_in a d value (k ∷ ks) =
    if byte_before d k.0 a value == value then option_map (further 1) (change_in a (depth_before d k.0) value ks)
    else Some (record { moves = 1; old = byte_before d k.0 a value; new = value })
