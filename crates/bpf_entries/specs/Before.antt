-- What a byte and the depth were before a move, as the move's entry tells it by what they are after the move.
use Rattle.std.specs.Prelude.{ℕ, ◌+◌, ◌-◌, ◌&&◌, nat_le, nat_lt, if◌then◌else◌, length, slice_index, Option, Some, None}
use Rattle.bpf_entries.specs.declared.entry.Entry.{Entry}
use Rattle.bpf_entries.specs.Past.{Run, Frames, Same, Fewer, More, past, replaced}

-- The byte at an address in a run, and another outside of it.
abbrev pub byte_in : Option Run → ℕ → ℕ → ℕ
byte_in None a other = other
byte_in (Some run) a other =
    if nat_le run.address a && nat_lt a (run.address + length run.bytes) then slice_index run.bytes (a - run.address) else other

-- The byte at an address before a move, by the depth and the byte after it: outside of the run that the move replaced it is the same.
abbrev pub byte_before : ℕ → Entry → ℕ → ℕ → ℕ
byte_before d e a after = byte_in (replaced d e) a after

-- The depth before a move, by the frames before it.
abbrev pub depth_by : Frames → ℕ → ℕ
depth_by Same d = d
depth_by Fewer d = d - 1
depth_by (More saved) d = d + 1

abbrev pub depth_before : ℕ → Entry → ℕ
depth_before d e = depth_by (past d e).frames d
