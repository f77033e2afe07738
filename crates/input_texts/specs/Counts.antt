-- What a text says of how many entries a map has: `NAME=N`. bpfdb's own choice.
use Rattle.std.specs.Prelude.{ℕ, zero, suc, ◌==◌, nat_lt, Bool, true, false, not, ◌&&◌, ◌||◌, if◌then◌else◌, List, [], Option, Some, None, get_or, is_some, length}
use Rattle.std.specs.List.{position_or_len, before_first, after_first, list_all}
use Rattle.std.specs.Str.{bytes_eq}
use Rattle.counted_io.specs.Numerals.{natural}

-- The map's name stands before a `=`, byte 61, and behind that the number: from 1 on, and of 32 bits.
abbrev pub is_equals : ℕ → Bool
is_equals byte = byte == 61

abbrev pub map_in : List ℕ → List ℕ
map_in text = before_first is_equals text

abbrev pub count_of : Option ℕ → Option ℕ
count_of None = None
count_of (Some n) = if nat_lt 0 n && nat_lt n 4294967296 then Some n else None

abbrev pub count_in : List ℕ → Option ℕ
count_in text = if nat_lt (position_or_len is_equals text) (length text) then count_of (natural (after_first is_equals text)) else None

abbrev pub has_count : List ℕ → Bool
has_count text = is_some (count_in text)

-- One of the first texts has that name; and each of the first has a name of its own.
abbrev pub is_named_in : List (List ℕ) → ℕ → List ℕ → Bool
is_named_in texts zero name = false
is_named_in texts (suc k) name = bytes_eq (map_in (get_or texts k [])) name || is_named_in texts k name

abbrev pub are_apart : List (List ℕ) → ℕ → Bool
are_apart texts zero = true
are_apart texts (suc k) = not (is_named_in texts k (map_in (get_or texts k []))) && are_apart texts k

-- Texts are numbers of entries: each of one map, and none of the same.
abbrev pub are_counts : List (List ℕ) → Bool
are_counts texts = list_all has_count texts && are_apart texts (length texts)
