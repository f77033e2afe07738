-- What a text says of a program in turn: `NAME`, or `NAME@OFFSET`. bpfdb's own choice.
use Rattle.std.specs.Prelude.{ℕ, ◌==◌, nat_lt, Bool, if◌then◌else◌, List, Option, Some, None, is_some, length, position}
use Rattle.std.specs.List.{position_or_len, before_first, after_first}
use Rattle.counted_io.specs.Numerals.{natural}

-- Its name stands before an `@`, byte 64. Behind that stands the place in the context at which it finds its own one, in bytes: at most 65,535, and 0 without it.
abbrev pub is_at : ℕ → Bool
is_at byte = byte == 64

abbrev pub has_place : List ℕ → Bool
has_place text = is_some (position is_at text)

abbrev pub name_in : List ℕ → List ℕ
name_in text = before_first is_at text

abbrev pub offset_below : Option ℕ → Option ℕ
offset_below None = None
offset_below (Some n) = if nat_lt n 65536 then Some n else None

abbrev pub offset_in : List ℕ → Option ℕ
offset_in text = if nat_lt (position_or_len is_at text) (length text) then offset_below (natural (after_first is_at text)) else Some 0
