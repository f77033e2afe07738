-- The names of the kernel's helpers (Linux, include/uapi/linux/bpf.h, __BPF_FUNC_MAPPER).
use Rattle.std.specs.Prelude.{ℕ, zero, suc, ◌+◌, ◌==◌, nat_le, nat_lt, bytes_eq, Bool, ◌&&◌, if◌then◌else◌, List, [], Option, Some, None, codes, length, position, take, slice_range}
use Rattle.bpf_link.specs.declared.helpers.TheConstants.{NAMES}

-- The list, which is the one in the code: a line each, from number 0 on, which names none.
unfoldable pub helper_names : List ℕ
helper_names = NAMES.now

abbrev pub is_line_feed : ℕ → Bool
is_line_feed byte = byte == 10

-- What stands behind the first line of a text, whose line feed is at a place, and behind the first n.
abbrev pub line_behind : List ℕ → Option ℕ → List ℕ
line_behind text (Some at) = slice_range text (at + 1) (length text)
line_behind text None = []

abbrev pub lines_behind : List ℕ → ℕ → List ℕ
lines_behind text zero = text
lines_behind text (suc n) = line_behind (lines_behind text n) (position is_line_feed (lines_behind text n))

-- The first line.
abbrev pub first_line : List ℕ → Option ℕ → List ℕ
first_line text (Some at) = take at text
first_line text None = text

-- The name of a helper, without `bpf_`: of those with the numbers 1 to 211.
abbrev pub helper_line : List ℕ → List ℕ
helper_line text = first_line text (position is_line_feed text)

abbrev pub helper_name : ℕ → List ℕ
helper_name helper = if nat_lt 211 helper then [] else helper_line (lines_behind helper_names helper)

-- A name at a place begins as those of helpers do.
abbrev pub has_prefix : List ℕ → ℕ → Bool
has_prefix bytes at = nat_le (at + 4) (length bytes) && bytes_eq (slice_range bytes at (at + 4)) (codes "bpf_")
