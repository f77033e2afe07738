-- The frames of calls that have not returned, as gdb reads them: memory at an address of its own.
use Rattle.std.specs.Prelude.{ℕ, ◌*◌, ◌/◌, ◌%◌, List, ◌∷◌, Option, option_map, slice_get, slice_index}
use Rattle.byteorder.specs.Endian.{little_bytes}
use Rattle.bpf_steps.specs.State.{State}
use Rattle.bpf_steps.specs.declared.frame.Frame.{Frame}

-- The address of the outermost one. No region of the machine comes near it.
abbrev pub frames_base : ℕ
frames_base = 0x5_0000_0000

-- A frame is five numbers of eight bytes, the lowest first: the address that it returns to, and r6 to r9.
abbrev pub numbers_of : Frame → List ℕ
numbers_of f = 8 * f.return_pc ∷ f.saved

-- A byte of them, behind the outermost frame those of the one that it called, and so on.
abbrev pub frame_byte : State → ℕ → Option ℕ
frame_byte x at = option_map (λ f. slice_index (little_bytes 8 (slice_index (numbers_of f) (at % 40 / 8))) (at % 8)) (slice_get x.frames (at / 40))
