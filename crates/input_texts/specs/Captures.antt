-- Captures as `tcpdump -w` writes them (pcap's own format): 24 bytes, and then each packet behind 16 bytes of its own.
use Rattle.std.specs.Prelude.{◌≡◌, ℕ, zero, suc, ◌+◌, ◌*◌, ◌-◌, Bool, ◌==◌, ◌||◌, nat_lt, if◌then◌else◌, List, [], ◌∷◌, drop, get_or, length, slice_range, Option, Some, None}
use Rattle.std.specs.List.{starts_with}
use Rattle.std.specs.Option.{option_and_then}
use Rattle.input_texts.specs.declared.capture.Order.{Order}
use Rattle.input_texts.specs.declared.capture.Order.TheVariants as order

-- The first four bytes are 0xa1b2c3d4, or 0xa1b23c4d where times have nanoseconds, in the order of the machine that wrote it.
abbrev pub begins : List ℕ → List ℕ → Bool
begins file number = starts_with (λ a b. a == b) file number

abbrev pub is_little : List ℕ → Bool
is_little file = begins file (0xd4 ∷ 0xc3 ∷ 0xb2 ∷ 0xa1 ∷ []) || begins file (0x4d ∷ 0x3c ∷ 0xb2 ∷ 0xa1 ∷ [])

abbrev pub is_big : List ℕ → Bool
is_big file = begins file (0xa1 ∷ 0xb2 ∷ 0xc3 ∷ 0xd4 ∷ []) || begins file (0xa1 ∷ 0xb2 ∷ 0x3c ∷ 0x4d ∷ [])

abbrev pub order_of : List ℕ → Option Order
order_of file = if is_little file then Some order.Little else if is_big file then Some order.Big else None

-- A number of four bytes.
abbrev pub number_in : Order → ℕ → ℕ → ℕ → ℕ → ℕ
number_in order.Little a b c d = a + 256 * (b + 256 * (c + 256 * d))
number_in order.Big a b c d = d + 256 * (c + 256 * (b + 256 * a))

-- How many bytes of a packet were captured stands in its ninth to twelfth byte. With its header it has 16 more.
abbrev pub length_at : Order → List ℕ → ℕ
length_at o s = if nat_lt (length s) 12 then 0 else number_in o (get_or s 8 0) (get_or s 9 0) (get_or s 10 0) (get_or s 11 0)

abbrev pub size_of : Order → List ℕ → ℕ
size_of o s = 16 + length_at o s

-- What follows so many packets.
abbrev pub rest : Order → List ℕ → ℕ → List ℕ
rest o s zero = s
rest o s (suc n) = let left = rest o s n in drop (size_of o left) left

-- The first packet, if it is whole.
abbrev pub first_packet : Order → List ℕ → Option (List ℕ)
first_packet o s = if nat_lt (length s) (size_of o s) then None else Some (slice_range s 16 (size_of o s))

-- The packet of a number, counted from 1.
abbrev pub packet_of : ℕ → List ℕ → Order → Option (List ℕ)
packet_of number file o =
    if number == 0 || nat_lt (length file) 24 then None else first_packet o (rest o (drop 24 file) (number - 1))

abbrev pub packet_in : List ℕ → ℕ → Option (List ℕ)
packet_in file number = option_and_then (packet_of number file) (order_of file)

-- What begins at one of some places of a file; nothing where there is no such place.
abbrev pub begun_at : List ℕ → List ℕ → ℕ → List ℕ
begun_at file starts k = if nat_lt k (length starts) then drop (get_or starts k 0) file else []

-- Where the packets of a capture begin, each with its header: behind k of them the next one begins at the k-th place.
abbrev pub AreStarts : List ℕ → List ℕ → Type 0
AreStarts file starts = (o : Order) → order_of file ≡ Some o → (k : ℕ) → rest o (drop 24 file) k ≡ begun_at file starts k
