-- The canonical listing of a program. bpfdb's own choice.
use Rattle.std.specs.Prelude.{ℕ, ℤ, pos, negsuc, ◌+◌, ◌==◌, ◌||◌, Bool, true, false, List, [], ◌∷◌, ◌++◌, Option, Some, None, codes}
use Rattle.bpf_isa.specs.declared.instruction.Insn.{Insn}
use Rattle.bpf_isa.specs.Programs.{Checked, target_of}
use Rattle.bpf_text.specs.Operands.{label_text, text_of_insn}

-- Whether a target is this slot.
abbrev pub is_slot : Option ℤ → ℕ → Bool
is_slot None t = false
is_slot (Some (pos p)) t = p == t
is_slot (Some (negsuc n)) t = false

-- Whether what stands in slot p is a jump or local call to slot t.
abbrev pub goes_to : ℕ → Option Insn → ℕ → Bool
goes_to p None t = false
goes_to p (Some insn) t = is_slot (target_of p insn) t

-- Whether a jump or local call in the slots from p on names slot t.
abbrev pub is_target : ℕ → List (Option Insn) → ℕ → Bool
is_target p [] t = false
is_target p (i ∷ rest) t = goes_to p i t || is_target (p + 1) rest t

-- The label's line of a slot, which is there where the slot is a target.
abbrev pub label_line : Bool → ℕ → List ℕ
label_line false p = []
label_line true p = label_text p ++ codes ":\n"

-- The lines of slot p: none where no instruction starts.
abbrev pub slot_lines : Bool → ℕ → Option Insn → List ℕ
slot_lines labelled p None = []
slot_lines labelled p (Some insn) = label_line labelled p ++ text_of_insn p insn ++ codes "\n"

-- The lines of the slots from p on.
abbrev pub lines_from : (ℕ → Bool) → ℕ → List (Option Insn) → List ℕ
lines_from labelled p [] = []
lines_from labelled p (i ∷ rest) = slot_lines (labelled p) p i ++ lines_from labelled (p + 1) rest

-- The canonical listing of a program.
abbrev pub canon : Checked → List ℕ
canon code = lines_from (is_target 0 code.insns) 0 code.insns
