-- Whether two steps do alike: they stand at one slot, and write the same. What they read is nothing to it.
use Rattle.std.specs.Prelude.{ℕ, Bool, false, ◌==◌, ◌&&◌, List, [], unwrap_or}
use lib.Pointwise.{pointwise}
use Rattle.std.specs.Str.{bytes_eq}
use Rattle.bpf_steps.specs.Entries.{step_entry}
use Rattle.bpf_steps.specs.Next.{next}
use Rattle.bpf_steps.specs.Regions.{run_at}
use Rattle.bpf_steps.specs.State.{State}
use Rattle.bpf_origin.specs.Places.{value}
use Rattle.bpf_origin.specs.Writes.{written}
use Rattle.bpf_origin.specs.declared.place.Part.{Part}
use Rattle.bpf_origin.specs.declared.place.Part.TheVariants as part
use Rattle.bpf_origin.specs.declared.place.Place.TheVariants.{Register, Word}

abbrev pub same_slot : State → State → Bool
same_slot x y = x.pc == y.pc

-- n bytes of memory, none where some of them aren't present.
abbrev pub bytes_at : State → ℕ → ℕ → List ℕ
bytes_at x a n = unwrap_or (run_at x.memory a n) []

-- Whether two parts are one, and hold the same in two states.
abbrev pub same_part : State → State → Part → Part → Bool
same_part x y (part.Register d r) (part.Register e s) =
    (d == e && (r == s)) && (value x (Register d r) == value y (Register e s))
same_part x y (part.Word i) (part.Word j) = i == j && (value x (Word i) == value y (Word j))
same_part x y (part.Bytes a n) (part.Bytes b m) = (a == b && (n == m)) && bytes_eq (bytes_at x a n) (bytes_at y b m)
same_part x y p q = false

-- The parts that a step wrote, as a trace has them; and whether two steps wrote the same parts, with the same in them afterwards.
abbrev pub wrote : State → List Part
wrote x = written (next x) (step_entry x)

unfoldable pub same_writes : State → State → Bool
same_writes x y = pointwise (same_part (next x) (next y)) (wrote x) (wrote y)

abbrev pub alike : State → State → Bool
alike x y = same_slot x y && same_writes x y
