-- Scaffolding: marks of places, a bit each, by which is told at once of most places that none of them is wanted.
use Rattle.std.specs.Prelude.{◌≡◌, ℕ, ◌+◌, ◌*◌, ◌/◌, ◌%◌, ◌^◌, Bool, true, ◌==◌, if◌then◌else◌, List, All, slice_index}
use Rattle.std.specs.Int.{bit_at}
use Rattle.bpf_origin.specs.declared.place.Place.{Place}
use Rattle.bpf_origin.specs.declared.place.Place.TheVariants.{Register, Word, Byte}

-- How many marks there are, and words of 64 of them.
abbrev pub most_marks : ℕ
most_marks = 1180032

abbrev pub mark_words : ℕ
mark_words = 18438

-- The mark of the byte at an address. The context, all frames together, and each map have 65,536 marks.
abbrev pub region_of : ℕ → ℕ
region_of a =
    if a / 0x1_0000_0000 == 1 then 0
    else if a / 0x1_0000_0000 == 2 then 1
    else 2 + a / 0x10_0000 % 16

abbrev pub byte_mark : ℕ → ℕ
byte_mark a = 65536 * region_of a + a % 65536

-- The mark of a place. Behind those of bytes come 256 of words and 16 of the registers at each of eight depths.
abbrev pub mark_of : Place → ℕ
mark_of (Byte a) = byte_mark (a % 2 ^ 64)
mark_of (Word i) = 1179648 + i % 256
mark_of (Register d r) = 1179904 + (16 * (d % 8) + r % 16)

abbrev pub is_marked : List ℕ → ℕ → Bool
is_marked words mark = bit_at (slice_index words (mark / 64)) (mark % 64) == 1

-- All of some places are marked.
abbrev pub AreMarked : List ℕ → List Place → Type 0
AreMarked words places = All (λ p. is_marked words (mark_of p) ≡ true) places
