-- Packets as gdb's remote protocol frames them: `$`, a body, `#`, and the sum of the body's bytes as two hexadecimal digits.
use Rattle.std.specs.Prelude.{◌≡◌, ◌<◌, ◌≤◌, ◌+◌, ◌*◌, ◌/◌, ◌%◌, ◌==◌, ◌&&◌, ◌||◌, not, ◌⊎◌, ℕ, Bool, true, false, List, [], ◌∷◌, ◌++◌, length}
use Rattle.std.specs.List.{list_all, sum}
use Rattle.std.specs.Char.{digit_value, is_digit}
use Rattle.std.specs.Fmt.{digit_glyph}
pub use Rattle.bpfdb_script.specs.ReadLines.{Buffer}
use Rattle.bpf_remote.specs.declared.stream.Item.{Item}
use Rattle.bpf_remote.specs.declared.stream.Item.TheVariants.{Packet, Damaged, Again, End}

-- The longest body, in bytes. bpfdb's own choice.
abbrev pub longest_body : ℕ
longest_body = 16384

-- The sum of a body's bytes, modulo 256.
abbrev pub sum_of : List ℕ → ℕ
sum_of body = sum body % 256

-- Two lower-case hexadecimal digits of a byte.
abbrev pub two_digits : ℕ → List ℕ
two_digits byte = digit_glyph false (byte / 16) ∷ digit_glyph false (byte % 16) ∷ []

-- The packet with this body.
abbrev pub framed : List ℕ → List ℕ
framed body = 36 ∷ (body ++ 35 ∷ two_digits (sum_of body))

-- Two digits of either case say a body's sum.
abbrev pub is_sum : ℕ → ℕ → List ℕ → Bool
is_sum high low body = is_digit high 16 && is_digit low 16 && 16 * digit_value high + digit_value low == sum_of body

-- The buffer holds the body, or the body is longer than the buffer.
abbrev pub Holds : Buffer → List ℕ → Type 0
Holds buffer body = elim buffer.is_long [ true ↦ longest_body < length body | false ↦ buffer.bytes ≡ body ]

-- Bytes outside of a packet that say nothing: all but `$`, which begins one, and `-`, which asks for the last answer again. So `+`, which
-- acknowledges an answer, says nothing, and nor does 3, the interrupt: no command is running when it is read.
abbrev pub IsNoise : List ℕ → Type 0
IsNoise bytes = list_all (λ byte. not (byte == 36 || byte == 45)) bytes ≡ true

-- A body ends at the first `#`.
abbrev pub IsBody : List ℕ → Type 0
IsBody body = list_all (λ byte. not (byte == 35)) body ≡ true

-- What stands behind `$` is a body, `#`, and two more bytes.
pub record IsFrame (tail body : List ℕ) (high low : ℕ) : Type 0 where
  pub whole : IsBody body
  pub parts : tail ≡ body ++ 35 ∷ high ∷ low ∷ []

-- `#` and one more byte at most.
abbrev pub IsCutSum : List ℕ → Type 0
IsCutSum [] = Unit {0}
IsCutSum (mark ∷ []) = mark ≡ 35
IsCutSum (mark ∷ high ∷ []) = mark ≡ 35
IsCutSum _ = ⊥

-- What stands behind `$` is cut off.
pub record IsCut (tail : List ℕ) : Type 0 where
  pub body : List ℕ
  pub more : List ℕ
  pub whole : IsBody body
  pub short : IsCutSum more
  pub parts : tail ≡ body ++ more

-- What stands behind `$` is this item, and the buffer has its body: a packet whose sum is right and whose body is none too long,
-- one that isn't so, or one that is cut off by the end.
abbrev pub IsPacket : Item → List ℕ → Buffer → Type 0
IsPacket Packet tail buffer = (body : List ℕ) × (high low : ℕ) × IsFrame tail body high low
    × (is_sum high low body ≡ true) × (length body ≤ longest_body) × (buffer.bytes ≡ body) × (buffer.is_long ≡ false)
IsPacket Damaged tail buffer = (body : List ℕ) × (high low : ℕ) × IsFrame tail body high low
    × ((is_sum high low body ≡ false) ⊎ (longest_body < length body))
IsPacket Again tail buffer = ⊥
IsPacket End tail buffer = IsCut tail

-- Noise, `$`, and what stands behind it.
abbrev pub HasTail : List ℕ → (List ℕ → Type 0) → Type 0
HasTail bytes P = (noise tail : List ℕ) × IsNoise noise × (bytes ≡ noise ++ 36 ∷ tail) × P tail

-- Bytes that hold nothing whole: noise, and perhaps a packet that is cut off.
abbrev pub IsUnfinished : List ℕ → Type 0
IsUnfinished bytes = IsNoise bytes ⊎ HasTail bytes IsCut

-- What these bytes are, from behind the item before, and what the buffer then holds.
abbrev pub IsItem : Item → List ℕ → Buffer → Type 0
IsItem Packet bytes buffer = HasTail bytes (λ tail. IsPacket Packet tail buffer)
IsItem Damaged bytes buffer = HasTail bytes (λ tail. IsPacket Damaged tail buffer)
IsItem Again bytes buffer = (noise : List ℕ) × IsNoise noise × (bytes ≡ noise ++ 45 ∷ [])
IsItem End bytes buffer = IsUnfinished bytes

-- Whether an item is the end.
abbrev pub is_end : Item → Bool
is_end End = true
is_end _ = false
