-- What stands in a section: a text, bytes, or a number. bpfdb's own choice.
use Rattle.std.specs.Prelude.{ℕ, ◌/◌, ◌%◌, Bool, true, false, ◌==◌, ◌&&◌, ◌||◌, not, nat_le, nat_lt, if◌then◌else◌, List, [], ◌∷◌, length, drop, filter, Option, Some, None}
use Rattle.std.specs.Char.{digit_value, is_digit}
use Rattle.std.specs.List.{list_all, list_any, position_or_len, slice_split}
use Rattle.std.specs.Option.{option_and_then}
use Rattle.std.specs.Result.{result_ok}
use Rattle.bstr.specs.Utf8.{lossy_chars}
use Rattle.hex.specs.Hex.{decode_of}
use Rattle.bpfdb_limits.specs.Limits.{greatest_count}
use Rattle.counted_io.specs.Lines.{is_blank, trim_start}
use Rattle.counted_io.specs.Numerals.{natural, as_u64}
use Rattle.bpfdb_script.specs.Shown.{steers}

-- A blank, or a line feed (10) or form feed (12).
abbrev pub is_space : ℕ → Bool
is_space b = is_blank b || (b == 10 || b == 12)

-- Without the spaces at the end, and on both sides.
abbrev pub onto_trimmed : ℕ → List ℕ → List ℕ
onto_trimmed b [] = if is_space b then [] else b ∷ []
onto_trimmed b (c ∷ s) = b ∷ c ∷ s

abbrev pub trim_end : List ℕ → List ℕ
trim_end [] = []
trim_end (b ∷ s) = onto_trimmed b (trim_end s)

abbrev pub trimmed : List ℕ → List ℕ
trimmed s = trim_end (drop (position_or_len (λ b. not (is_space b)) s) s)

-- A line that can be printed: it is UTF-8, and no character of it steers a terminal.
abbrev pub is_line : List ℕ → Bool
is_line s = list_all (λ c. not (steers c)) (lossy_chars s)

-- Such a line that isn't empty.
abbrev pub is_phrase : List ℕ → Bool
is_phrase s = nat_lt 0 (length s) && is_line s

-- A name: such a phrase, without a number sign (35), which would begin a remark.
abbrev pub is_title : List ℕ → Bool
is_title s = is_phrase s && not (list_any (λ b. b == 35) s)

-- A line that says nothing: blank, or a remark, which begins with a number sign.
abbrev pub is_remark : List ℕ → Bool
is_remark [] = true
is_remark (b ∷ s) = b == 35

abbrev pub are_remarks : List ℕ → Bool
are_remarks text = list_all (λ line. is_remark (trim_start line)) (slice_split (λ b. b == 10) text)

-- A body without its spaces.
abbrev pub solid : List ℕ → List ℕ
solid body = filter (λ b. not (is_space b)) body

-- Bytes: two hexadecimal digits each, with spaces anywhere.
abbrev pub bytes_of : List ℕ → Option (List ℕ)
bytes_of body = result_ok (decode_of (solid body))

-- A pattern of bytes: the same, where a dot (46) stands for any digit.
abbrev pub fits_digit : ℕ → ℕ → Bool
fits_digit digit value = digit == 46 || digit_value digit == value

abbrev pub fits_byte : List ℕ → ℕ → Bool
fits_byte (high ∷ low ∷ digits) b = fits_digit high (b / 16) && fits_digit low (b % 16)
fits_byte _ b = false

-- All bytes fit a pattern, and it has no more digits.
abbrev pub fits : List ℕ → List ℕ → Bool
fits digits [] = length digits == 0
fits digits (b ∷ bytes) = fits_byte digits b && fits (drop 2 digits) bytes

abbrev pub is_pattern : List ℕ → Bool
is_pattern digits = length digits % 2 == 0 && list_all (λ d. d == 46 || is_digit d 16) digits

-- A number below 2^64.
abbrev pub number_of : List ℕ → Option ℕ
number_of body = option_and_then as_u64 (natural (trimmed body))

-- A limit of steps.
abbrev pub limit_of : List ℕ → Option ℕ
limit_of body = option_and_then (λ n. if nat_le 1 n && nat_le n greatest_count then Some n else None) (number_of body)
