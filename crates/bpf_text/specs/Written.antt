-- How the operands of an instruction may be written. bpfdb's own choice.
use Rattle.std.specs.Prelude.{ℕ, ℤ, pos, negsuc, neg_ℤ, ◌≡◌, ◌<◌, ◌≤◌, ◌-◌, ◌%◌, ◌^◌, ◌⊎◌, true, List, ◌∷◌, ◌++◌, Some, codes}
use Rattle.std.specs.Int.{w32, cast_signed}
use Rattle.std.specs.List.{list_all}
use Rattle.bpf_isa.specs.Registers.{register_text}
use Rattle.bpf_text.specs.declared.read.labels.Definition.{Definition}
use Rattle.bpf_text.specs.declared.write.operand.Operand.{Operand}
use Rattle.bpf_text.specs.declared.write.operand.Operand.TheVariants.{Register, Signed, Unsigned, Hexadecimal, Memory, Target}
use Rattle.bpf_text.specs.declared.write.operand.Operands.{Operands}
use Rattle.bpf_text.specs.declared.write.operand.Operands.TheVariants.{Nothing, One, Two, Three}
use Rattle.counted_io.specs.Lines.{is_blank}
use Rattle.counted_io.specs.Numerals.{IsNatural}
use Rattle.bpf_text.specs.Characters.{is_name}
use Rattle.bpf_text.specs.Labels.{Labels}

-- A register: r and one of the numbers 0 to 10, without a zero in front.
abbrev pub IsRegister : List ℕ → ℕ → Type 0
IsRegister s reg = (reg ≤ 10) × (s ≡ register_text reg)

-- A signed number: a number, directly behind a minus or without one.
abbrev pub IsInteger : List ℕ → ℤ → Type 0
IsInteger s z = ((n : ℕ) × IsNatural s n × (z ≡ pos n))
    ⊎ ((rest : List ℕ) × (n : ℕ) × (s ≡ codes "-" ++ rest) × IsNatural rest n × (z ≡ neg_ℤ (pos n)))

-- A text with blanks on both sides.
abbrev pub Padded : (List ℕ → Type 0) → List ℕ → Type 0
Padded Is s = (front x back : List ℕ) × (s ≡ front ++ (x ++ back)) × (list_all is_blank front ≡ true) × Is x
    × (list_all is_blank back ≡ true)

-- What stands in brackets: a register, and then nothing, or a sign (43 is +, 45 is -) and a number.
abbrev pub IsDisplaced : ℕ → List ℕ → ℕ → ℕ → Type 0
IsDisplaced sign s base n = (a b : List ℕ) × (s ≡ a ++ sign ∷ b) × Padded (λ x. IsRegister x base) a × Padded (λ x. IsNatural x n) b

abbrev pub IsInside : List ℕ → ℕ → ℤ → Type 0
IsInside s base z = (Padded (λ x. IsRegister x base) s × (z ≡ pos 0))
    ⊎ ((n : ℕ) × IsDisplaced 43 s base n × (z ≡ pos n)) ⊎ ((n : ℕ) × IsDisplaced 45 s base n × (z ≡ neg_ℤ (pos n)))

abbrev pub IsMemory : List ℕ → ℕ → ℤ → Type 0
IsMemory s base z = (inside : List ℕ) × (s ≡ codes "[" ++ inside ++ codes "]") × IsInside inside base z

-- A whole number from -low on and below high.
abbrev pub IsWithin : ℕ → ℕ → ℤ → Type 0
IsWithin low high (pos n) = n < high
IsWithin low high (negsuc n) = n < low

-- The low w bits of a whole number.
abbrev pub low_bits : ℕ → ℤ → ℕ
low_bits w (pos n) = n % 2 ^ w
low_bits w (negsuc n) = 2 ^ w - 1 - n % 2 ^ w

-- How an operand may be written: a number by each one in the range of its field that has its low bits, a target by a label of its slot.
abbrev pub IsWritten : Labels → Operand → List ℕ → Type 0
IsWritten labels (Register r) s = IsRegister s r
IsWritten labels (Signed v) s = (z : ℤ) × IsInteger s z × IsWithin (2 ^ 31) (2 ^ 32) z × (cast_signed w32 (low_bits 32 z) ≡ v)
IsWritten labels (Unsigned n) s = IsNatural s n × (n < 2 ^ 32)
IsWritten labels (Hexadecimal n) s = (z : ℤ) × IsInteger s z × IsWithin (2 ^ 63) (2 ^ 64) z × (low_bits 64 z ≡ n)
IsWritten labels (Memory address) s = IsMemory s address.base address.offset × IsWithin (2 ^ 15) (2 ^ 15) address.offset
IsWritten labels (Target slot) s = (is_name s ≡ true) × (d : Definition) × (labels s ≡ Some d) × (slot ≡ pos d.slot)

-- A text that has the shape of an operand, whatever its number or label.
abbrev pub IsShaped : Operand → List ℕ → Type 0
IsShaped (Register r) s = IsRegister s r
IsShaped (Signed v) s = (z : ℤ) × IsInteger s z
IsShaped (Unsigned n) s = (m : ℕ) × IsNatural s m
IsShaped (Hexadecimal n) s = (z : ℤ) × IsInteger s z
IsShaped (Memory address) s = (z : ℤ) × IsMemory s address.base z
IsShaped (Target slot) s = is_name s ≡ true

-- Operands, each of them as it should be, with blanks around each, and a comma (44) after each but the last.
abbrev pub AreListed : (Operand → List ℕ → Type 0) → Operands → List ℕ → Type 0
AreListed Is Nothing s = list_all is_blank s ≡ true
AreListed Is (One a) s = Padded (Is a) s
AreListed Is (Two a b) s = (x y : List ℕ) × (s ≡ x ++ 44 ∷ y) × Padded (Is a) x × Padded (Is b) y
AreListed Is (Three a b c) s = (x y z : List ℕ) × (s ≡ x ++ 44 ∷ (y ++ 44 ∷ z)) × Padded (Is a) x × Padded (Is b) y × Padded (Is c) z
