-- How operands are read, in words of their pieces.
use Rattle.std.specs.Prelude.{ℕ, ◌≡◌, ◌⊎◌, Bool, true, false, List, ◌∷◌, ◌++◌, codes}
use Rattle.std.specs.List.{list_all}
use Rattle.bpf_text.specs.declared.read.number.Number.{Number}
use Rattle.bpf_text.specs.declared.read.term.OperandForm.{OperandForm}
use Rattle.bpf_text.specs.declared.read.term.OperandForm.TheVariants as form
use Rattle.bpf_text.specs.declared.read.term.Term.{Term}
use Rattle.bpf_text.specs.declared.read.term.Term.TheVariants.{Register, Number as Num, Memory, Name, Absent}
use Rattle.bpf_text.specs.declared.read.term.Terms.{Terms}
use Rattle.bpf_text.specs.declared.read.term.OperandForms.{OperandForms}
use Rattle.bpf_text.specs.declared.read.term.OperandForms.TheVariants.{Nothing, One, Two, Three}
use Rattle.counted_io.specs.Lines.{is_blank}
use Rattle.counted_io.specs.Numerals.{IsNatural}
use Rattle.bpf_text.specs.Characters.{is_name}
pub use Rattle.bpf_text.specs.Written.{IsRegister, Padded}
pub use Rattle.bpf_text.specs.Scaffolding.Terms.{one, two, three}
use Rattle.bpf_text.specs.Scaffolding.Tokens.{number_with}

-- A number, directly behind a minus or without one.
abbrev pub IsSigned : List ℕ → Number → Type 0
IsSigned s number = ((number.negative ≡ false) × IsNatural s number.magnitude)
    ⊎ ((rest : List ℕ) × (s ≡ codes "-" ++ rest) × (number.negative ≡ true) × IsNatural rest number.magnitude)

-- What stands in brackets: a register, and then nothing, or a sign (43 is +, 45 is -) and a number.
abbrev pub ReadsDisplaced : Bool → ℕ → List ℕ → ℕ → Number → Type 0
ReadsDisplaced negative sign s base number = (a b : List ℕ) × (s ≡ a ++ sign ∷ b) × Padded (λ x. IsRegister x base) a
    × Padded (λ x. IsNatural x number.magnitude) b × (number.negative ≡ negative)

abbrev pub ReadsInside : List ℕ → ℕ → Number → Type 0
ReadsInside s base number = (Padded (λ x. IsRegister x base) s × (number ≡ number_with false 0))
    ⊎ ReadsDisplaced false 43 s base number ⊎ ReadsDisplaced true 45 s base number

-- An operand that is written in a form.
abbrev pub IsOperand : OperandForm → List ℕ → Term → Type 0
IsOperand form.Register s (Register reg) = IsRegister s reg
IsOperand form.Unsigned s (Num number) = (number.negative ≡ false) × IsNatural s number.magnitude
IsOperand form.Signed s (Num number) = IsSigned s number
IsOperand form.Source s (Register reg) = IsRegister s reg
IsOperand form.Source s (Num number) = IsSigned s number
IsOperand form.Memory s (Memory base number) = (inside : List ℕ) × (s ≡ codes "[" ++ inside ++ codes "]") × ReadsInside inside base number
IsOperand form.Name s (Name name) = (name ≡ s) × (is_name s ≡ true)
IsOperand f s t = ⊥

-- Operands in their forms, with blanks around each, and a comma after each but the last.
abbrev pub AreOperands : OperandForms → List ℕ → Terms → Type 0
AreOperands Nothing s terms = (list_all is_blank s ≡ true) × (terms ≡ one Absent)
AreOperands (One f) s terms = (a : Term) × Padded (λ x. IsOperand f x a) s × (terms ≡ one a)
AreOperands (Two f g) s terms = (front back : List ℕ) × (a b : Term) × (s ≡ front ++ 44 ∷ back)
    × Padded (λ x. IsOperand f x a) front × Padded (λ x. IsOperand g x b) back × (terms ≡ two a b)
AreOperands (Three f g h) s terms = (front middle back : List ℕ) × (a b c : Term) × (s ≡ front ++ 44 ∷ (middle ++ 44 ∷ back))
    × Padded (λ x. IsOperand f x a) front × Padded (λ x. IsOperand g x b) middle × Padded (λ x. IsOperand h x c) back
    × (terms ≡ three a b c)
