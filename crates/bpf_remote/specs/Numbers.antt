-- Numbers and bytes, as bodies write them.
use Rattle.std.specs.Prelude.{ℕ, List, [], ◌∷◌, ◌++◌, length, take, drop, if◌then◌else◌, Option, Some, None}
use Rattle.std.specs.Option.{option_map, option_and_then, unwrap_or}
use Rattle.std.specs.Result.{result_ok}
use Rattle.std.specs.Str.{bytes_eq}
use Rattle.byteorder.specs.Endian.{big_bytes, little_bytes, little_number}
use Rattle.hex.specs.Hex.{decode_sized}
use Rattle.counted_io.specs.Cuts.{cut}
use Rattle.counted_io.specs.Numerals.{as_u64, numeral}
use Rattle.bpf_remote.specs.Packets.{two_digits}

-- Bytes as two lower-case digits each.
unfoldable pub hex_text : List ℕ → List ℕ
hex_text [] = []
hex_text (byte ∷ bytes) = two_digits byte ++ hex_text bytes

-- The eight bytes of a number, the lowest first.
unfoldable pub word_text : ℕ → List ℕ
word_text value = hex_text (little_bytes 8 value)

-- The same, the highest first.
unfoldable pub address_text : ℕ → List ℕ
address_text value = hex_text (big_bytes 8 value)

-- The number that hexadecimal digits of either case are, if it is below 2^64.
abbrev pub number : List ℕ → Option ℕ
number s = option_and_then as_u64 (numeral 16 s)

-- The number whose eight bytes a text spells, the lowest first.
abbrev pub word : List ℕ → Option ℕ
word s = option_map (λ bytes. little_number 8 bytes) (result_ok (decode_sized s 8))

-- What is behind a name, None where the text doesn't begin with it.
abbrev pub behind : List ℕ → List ℕ → Option (List ℕ)
behind name s = if bytes_eq (take (length name) s) name then Some (drop (length name) s) else None

-- What stands before the first of these bytes, or all where there is none.
abbrev pub before : ℕ → List ℕ → List ℕ
before mark s = unwrap_or (option_map (λ parts. parts.0) (cut mark s)) s

-- Two numbers with a byte between them.
abbrev pub pair : ℕ → List ℕ → Option (ℕ × ℕ)
pair mark s = option_and_then (λ parts. option_and_then (λ m. option_map (λ n. (m, n)) (number parts.1)) (number parts.0)) (cut mark s)
