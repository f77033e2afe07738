-- Names and texts of others as they are shown, so that none ends a line, steers a terminal, turns the direction of what follows or hides in another.
-- bpfdb's own choice.
use Rattle.std.specs.Prelude.{ℕ, ◌/◌, ◌%◌, Bool, true, false, ◌==◌, ◌&&◌, ◌||◌, not, nat_le, nat_lt, if◌then◌else◌, List, [], ◌∷◌, flat_map, slice_range}
use Rattle.std.specs.Fmt.{digit_glyph}
use Rattle.bstr.specs.Utf8.{pieces, spans_from}

-- Numbers from one to another.
abbrev pub among : ℕ → ℕ → ℕ → Bool
among first last c = nat_le first c && nat_le c last

-- Characters that steer: controls (C0 with DEL, C1), marks of direction, and U+FFFD, which stands for bytes that are no character.
abbrev pub steers : ℕ → Bool
steers c =
    nat_lt c 0x20 || among 0x7F 0x9F c || c == 0x61C || among 0x200E 0x200F c || among 0x202A 0x202E c || among 0x2066 0x2069 c
    || c == 0xFFFD

-- Characters of which nothing is seen, so that two names would look alike: Unicode's separators of lines and paragraphs, those that it has ignored by
-- default (`Default_Ignorable_Code_Point`, Unicode 15), and the marks of annotations.
abbrev pub is_unseen : ℕ → Bool
is_unseen c =
    c == 0xAD || c == 0x34F || among 0x115F 0x1160 c || among 0x17B4 0x17B5 c || among 0x180B 0x180F c || among 0x200B 0x200F c
    || among 0x2028 0x202E c || among 0x2060 0x206F c || c == 0x3164 || among 0xFE00 0xFE0F c || c == 0xFEFF || c == 0xFFA0
    || among 0xFFF0 0xFFFB c || among 0x1BCA0 0x1BCA3 c || among 0x1D173 0x1D17A c || among 0xE0000 0xE0FFF c

-- A character that is shown as it is; where the text has lines, line feeds end them.
abbrev pub is_as_it_is : Bool → ℕ → Bool
is_as_it_is lines c = not (steers c || is_unseen c) || (lines && c == 10)

-- A byte spelled out: `\x` and two hexadecimal digits.
abbrev pub spelled : ℕ → List ℕ
spelled b = 92 ∷ 120 ∷ digit_glyph false (b / 16) ∷ digit_glyph false (b % 16) ∷ []

-- A character's bytes as they are, or each spelled out.
abbrev pub shown_char : Bool → List ℕ → List ℕ
shown_char as_is bytes = if as_is then bytes else flat_map spelled bytes

-- A character of a text, between two indices.
abbrev pub shown_span : Bool → List ℕ → ℕ × ℕ × ℕ → List ℕ
shown_span lines text s = shown_char (is_as_it_is lines s.2) (slice_range text s.0 s.1)

-- A name, and a text of several lines.
abbrev pub shown : List ℕ → List ℕ
shown name = flat_map (shown_span false name) (spans_from 0 (pieces name))

abbrev pub shown_lines : List ℕ → List ℕ
shown_lines text = flat_map (shown_span true text) (spans_from 0 (pieces text))
