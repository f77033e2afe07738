-- Where the frames of local calls lie in memory: bpfdb's own choice, which RFC 9669 leaves to the platform.
use Rattle.std.specs.Prelude.{ℕ, ◌+◌, ◌*◌}

-- How far the first bytes of two frames in a row are apart, and how many bytes a frame has.
abbrev pub frame_stride : ℕ
frame_stride = 1024

abbrev pub frame_len : ℕ
frame_len = 512

-- The address of the first byte of the frame of a depth.
abbrev pub frame_base : ℕ → ℕ
frame_base depth = 0x2_0000_0000 + frame_stride * depth
