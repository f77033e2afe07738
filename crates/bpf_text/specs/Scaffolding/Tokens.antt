-- Scaffolding: the numbers of a listing and their ranges, as they are read.
use Rattle.std.specs.Prelude.{ℕ, ℤ, pos, neg_ℤ, ◌-◌, ◌%◌, ◌^◌, Bool, true, false, nat_lt, nat_le, Option, Some, None}
use Rattle.std.specs.Int.{w32, cast_signed}
use Rattle.bpf_text.specs.declared.read.number.Number.{Number}

-- A number behind a minus, or without one.
abbrev pub number_with : Bool → ℕ → Number
number_with negative n = record { negative = negative; magnitude = n }

-- A value, if it is in its range.
abbrev pub in_range : {A : Type 0} → Bool → A → Option A
in_range true value = Some value
in_range false value = None

-- A number below 2^32.
abbrev pub unsigned_of : Bool → ℕ → Option ℕ
unsigned_of true n = None
unsigned_of false n = in_range (nat_lt n (2 ^ 32)) n

abbrev pub unsigned : Number → Option ℕ
unsigned number = unsigned_of number.negative number.magnitude

-- A number from -2^31 to 2^32 - 1, as a signed number of 32 bits.
abbrev pub immediate_of : Bool → ℕ → Option ℤ
immediate_of true n = in_range (nat_le n (2 ^ 31)) (neg_ℤ (pos n))
immediate_of false n = in_range (nat_lt n (2 ^ 32)) (cast_signed w32 n)

abbrev pub immediate : Number → Option ℤ
immediate number = immediate_of number.negative number.magnitude

-- A number from -2^63 to 2^64 - 1, taken modulo 2^64.
abbrev pub wide_of : Bool → ℕ → Option ℕ
wide_of true n = in_range (nat_le n (2 ^ 63)) ((2 ^ 64 - n) % 2 ^ 64)
wide_of false n = in_range (nat_lt n (2 ^ 64)) n

abbrev pub wide : Number → Option ℕ
wide number = wide_of number.negative number.magnitude

-- An offset from -32,768 to 32,767.
abbrev pub offset_of : Bool → ℕ → Option ℤ
offset_of true n = in_range (nat_le n 32768) (neg_ℤ (pos n))
offset_of false n = in_range (nat_lt n 32768) (pos n)

abbrev pub offset : Number → Option ℤ
offset number = offset_of number.negative number.magnitude
