-- Scaffolding: operands as they are read.
use Rattle.std.specs.Prelude.{ℕ, ◌+◌, Bool, true, false, ◌==◌, ◌&&◌, ◌||◌, if◌then◌else◌, List, [], ◌∷◌, drop, length, slice_index, Option, Some, None, option_map, option_and_then}
use Rattle.std.specs.List.{position_or_len, before_first, after_first}
use Rattle.bpf_isa.specs.Registers.{register_named}
use Rattle.bpf_text.specs.declared.read.number.Number.{Number}
use Rattle.bpf_text.specs.declared.read.term.OperandForm.{OperandForm}
use Rattle.bpf_text.specs.declared.read.term.OperandForm.TheVariants as form
use Rattle.bpf_text.specs.declared.read.term.OperandForms.{OperandForms}
use Rattle.bpf_text.specs.declared.read.term.OperandForms.TheVariants.{Nothing, One, Two, Three}
use Rattle.bpf_text.specs.declared.read.term.Term.{Term}
use Rattle.bpf_text.specs.declared.read.term.Term.TheVariants.{Register, Number as Num, Memory, Name, Absent}
use Rattle.bpf_text.specs.declared.read.term.Terms.{Terms}
use Rattle.counted_io.specs.Numerals.{natural}
use Rattle.bpf_text.specs.Characters.{is_name}
use Rattle.counted_io.specs.Cuts.{trim, before}
use Rattle.bpf_text.specs.Scaffolding.Cuts.{first_operand, other_operands}
use Rattle.bpf_text.specs.Scaffolding.Tokens.{number_with}

-- Whether a text begins with a minus.
abbrev pub is_negative : List ℕ → Bool
is_negative s = slice_index s 0 == 45

-- A number, directly behind a minus or without one.
abbrev pub signed_number : List ℕ → Option Number
signed_number s = if is_negative s then option_map (number_with true) (natural (drop 1 s)) else option_map (number_with false) (natural s)

-- A sign in brackets.
abbrev pub is_sign : ℕ → Bool
is_sign b = b == 43 || b == 45

-- Whether a text begins with an opening bracket, and ends at the closing one.
abbrev pub is_bracketed : List ℕ → Bool
is_bracketed s = slice_index s 0 == 91 && position_or_len (λ b. b == 93) s + 1 == length s

-- What stands behind the register in brackets: nothing, or a sign and a number.
abbrev pub displacement : List ℕ → Option Number
displacement s = let sign = position_or_len is_sign s in
    if sign == length s then Some (number_with false 0)
    else option_map (number_with (slice_index s sign == 45)) (natural (trim (after_first is_sign s)))

-- What stands in brackets: a register and a displacement.
abbrev pub base_and_displacement : List ℕ → Option Term
base_and_displacement s =
    option_and_then (λ base. option_map (Memory base) (displacement s)) (register_named (trim (before_first is_sign s)))

-- Memory: a register and a displacement in brackets.
abbrev pub memory : List ℕ → Option Term
memory s = if is_bracketed s then base_and_displacement (before 93 (drop 1 s)) else None

-- A register, or else a number.
abbrev pub register_or : Option ℕ → List ℕ → Option Term
register_or (Some reg) s = Some (Register reg)
register_or None s = option_map Num (signed_number s)

-- An operand of a form.
abbrev pub term_of : OperandForm → List ℕ → Option Term
term_of form.Register s = option_map Register (register_named s)
term_of form.Unsigned s = option_map (λ n. Num (number_with false n)) (natural s)
term_of form.Signed s = option_map Num (signed_number s)
term_of form.Source s = register_or (register_named s) s
term_of form.Memory s = memory s
term_of form.Name s = if is_name s then Some (Name s) else None

-- The operands of an instruction: at most three.
abbrev pub one : Term → Terms
one a = record { first = a; second = Absent; third = Absent }

abbrev pub two : Term → Term → Terms
two a b = record { first = a; second = b; third = Absent }

abbrev pub three : Term → Term → Term → Terms
three a b c = record { first = a; second = b; third = c }

abbrev pub terms_of : OperandForms → List ℕ → Option Terms
terms_of Nothing [] = Some (one Absent)
terms_of Nothing (b ∷ s) = None
terms_of (One f) s = option_map one (term_of f s)
terms_of (Two f g) s =
    option_and_then (λ a. option_map (two a) (term_of g (other_operands s))) (term_of f (first_operand s))
terms_of (Three f g h) s = let rest = other_operands s in
    option_and_then (λ a. option_and_then (λ b. option_map (three a b) (term_of h (other_operands rest)))
    (term_of g (first_operand rest))) (term_of f (first_operand s))
