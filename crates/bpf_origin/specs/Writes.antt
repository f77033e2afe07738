-- What a move writes: a place is written exactly where the move's entry keeps what it held before, whether the value changes or not.
use Rattle.std.specs.Prelude.{ℕ, ◌-◌, Bool, ◌==◌, if◌then◌else◌, List, [], ◌∷◌, ◌++◌, Option, Some, None, length}
use Rattle.std.specs.List.{list_any}
use Rattle.bpf_entries.specs.declared.entry.Entry.{Entry}
use Rattle.bpf_entries.specs.Past.{Run, Frames, Fewer, past}
use Rattle.bpf_steps.specs.State.{State, depth}
use Rattle.bpf_origin.specs.declared.place.Place.{Place}
use Rattle.bpf_origin.specs.declared.place.Place.TheVariants.{Register}
use Rattle.bpf_origin.specs.declared.place.Part.{Part}
use Rattle.bpf_origin.specs.declared.place.Part.TheVariants as part
use Rattle.bpf_origin.specs.Places.{depth_for, has}

-- The register that an entry keeps, of the function that the move led to; the run of bytes; the newest word, if the trace was without it.
abbrev pub register_written : ℕ → Option (ℕ × ℕ) → List Part
register_written d None = []
register_written d (Some w) = part.Register (depth_for d w.0) w.0 ∷ []

abbrev pub bytes_written : Option Run → List Part
bytes_written None = []
bytes_written (Some run) = part.Bytes run.address (length run.bytes) ∷ []

abbrev pub word_written : ℕ → Bool → List Part
word_written words traces = if traces then part.Word (words - 1) ∷ [] else []

-- What the move with this entry wrote, which led to y.
abbrev pub written : State → Entry → List Part
written y e =
    register_written (depth y) (past (depth y) e).register
    ++ (bytes_written (past (depth y) e).run ++ word_written (length y.trace) (past (depth y) e).traces)

-- Whether a place is among it.
abbrev pub writes : State → Entry → Place → Bool
writes y e p = list_any (λ q. has q p) (written y e)

-- Where the value of a place was before a move that left it, by what the move did to the frames and the depth after it: the function
-- that a call begins finds the caller's r6 to r9 in its own.
abbrev pub inherited : Frames → ℕ → Place → Place
inherited Fewer d (Register e r) = if e == d then Register (d - 1) r else Register e r
inherited _ d p = p

abbrev pub came_from : State → Entry → Place → Place
came_from y e p = inherited (past (depth y) e).frames (depth y) p
