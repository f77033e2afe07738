-- Scaffolding: how an entry is put back into a state, as the code does it. The contracts of `revert` and `revert_text` speak of moves alone.
use Rattle.std.specs.Prelude.{◌≡◌, ◌≤◌, ◌<◌, ℕ, ◌+◌, ◌-◌, if◌then◌else◌, List, length, take, slice_set, unwrap_or, IfSome}
use Rattle.std.specs.Option.{option_map_or}
use Rattle.bpf_isa.specs.Programs.{IsStart}
use Rattle.bpf_entries.specs.Past.{Frames, Same, Fewer, More, past, replaced}
use Rattle.bpf_entries.specs.Fields.{FitsFields}
use Rattle.bpf_entries.specs.Status.{FitsNumber}
use Rattle.bpf_entries.specs.Reading.{entry_of as entry_read}
use Rattle.bpf_entries.specs.Weights.{weight}
use Rattle.bpf_entries.specs.declared.entry.Entry.{Entry}
use Rattle.bpf_entries.specs.declared.entry.Entry.TheVariants as entry
use Rattle.bpf_steps.specs.declared.frame.Frame.{Frame}
use Rattle.bpf_steps.specs.Calls.{with_saved, pushed, popped}
use Rattle.bpf_steps.specs.Platform.{frame_count}
use Rattle.bpf_steps.specs.Regions.{put}
use Rattle.bpf_steps.specs.State.{State, depth}

-- The frames as they stood, and r6 to r9 with them. The frame that a return popped is made again of the present pc and r6 to r9.
abbrev pub frames_before : Frames → State → List Frame
frames_before Same y = y.frames
frames_before Fewer y = popped y
frames_before (More saved) y = pushed y y.pc

abbrev pub saved_before : Frames → List ℕ → List ℕ
saved_before (More saved) registers = with_saved registers saved
saved_before _ registers = registers

-- The state with what an entry keeps put back.
unfoldable pub undone : Entry → State → State
undone e y = record y {
  pc = unwrap_or (past (depth y) e).pc y.pc;
  registers = option_map_or (λ (r : ℕ × ℕ). slice_set y.registers r.0 r.1) (past (depth y) e).register (saved_before (past (depth y) e).frames y.registers);
  frames = frames_before (past (depth y) e).frames y;
  memory = option_map_or (λ run. put y.memory run.address (length run.bytes) run.bytes) (replaced (depth y) e) y.memory;
  trace = if (past (depth y) e).traces then take (length y.trace - 1) y.trace else y.trace;
  status = unwrap_or (past (depth y) e).status y.status;
}

-- An entry that can be put back: its slot starts an instruction, its register is not r10, and there is room for its frame.
abbrev pub HasRoom : Frames → State → Type 0
HasRoom (More saved) y = depth y + 1 < frame_count
HasRoom _ y = Unit {0}

abbrev pub Restores : State → Entry → Type 0
Restores y e = IfSome (past (depth y) e).pc (IsStart y.program) × IfSome (past (depth y) e).register (λ (r : ℕ × ℕ). r.0 < 10) × HasRoom (past (depth y) e).frames y

-- What the type of an entry says of the bytes that an edit replaced: there are 1 to 256, at an address.
abbrev pub IsTyped : Entry → Type 0
IsTyped (entry.EditBytes a old) = FitsNumber a × (1 ≤ length old) × (length old ≤ 256)
IsTyped _ = Unit {0}

-- The entry of a kind that bytes are read as: it fits its fields, it weighs as many bytes as there are, and it can be put back.
abbrev pub read_as : ℕ → List ℕ → Entry
read_as kind bytes = entry_read kind (length bytes) bytes

pub record RestoresText (y : State) (kind : ℕ) (bytes : List ℕ) : Type 0 where
  pub fits : FitsFields (read_as kind bytes)
  pub count : length bytes ≡ weight (read_as kind bytes)
  pub restores : Restores y (read_as kind bytes)
