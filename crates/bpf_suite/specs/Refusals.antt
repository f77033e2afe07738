-- The texts of refusals: a letter and a number, where it is if that is known, and a text. bpfdb's own choice.
use Rattle.std.specs.Prelude.{ℕ, List, [], ◌++◌, codes, decimal, Option, Some, None}
use Rattle.bpf_isa.specs.Faults.{load_fault, map_fault}
use Rattle.bpf_isa.specs.declared.fault.LoadFault.{LoadFault}
use Rattle.bpf_isa.specs.declared.fault.LoadFault.TheVariants as load
use Rattle.bpf_text.specs.Faults.{asm_fault, fault_line}
use Rattle.bpf_steps.specs.Opening.{open_fault}
use Rattle.bpf_suite.specs.declared.refusal.Refusal.{Refusal}
use Rattle.bpf_suite.specs.declared.refusal.Refusal.TheVariants.{Maps, Listing, Load, Open, NoCell}

abbrev pub text_of_refusal : List ℕ → ℕ → List ℕ → Option ℕ → List ℕ → List ℕ
text_of_refusal family number unit (Some n) text = family ++ decimal number ++ unit ++ decimal n ++ codes ": " ++ text
text_of_refusal family number unit None text = family ++ decimal number ++ codes ": " ++ text

-- The slot of a program's fault, where it has one.
abbrev pub slot_of : LoadFault → Option ℕ
slot_of (load.At slot fault) = Some slot
slot_of load.Empty = None
slot_of load.TooLong = None
slot_of load.Ragged = None
slot_of load.Memory = None

-- Why the program of a test is refused; of a cell as the debugger refuses it.
abbrev pub refusal_text : Refusal → List ℕ
refusal_text (Maps fault) = text_of_refusal (codes "refused M") (map_fault fault).0 [] None (map_fault fault).1
refusal_text (Listing fault) = text_of_refusal (codes "refused A") (asm_fault fault).0 (codes " at line ") (fault_line fault) (asm_fault fault).1
refusal_text (Load fault) = text_of_refusal (codes "refused C") (load_fault fault).0 (codes " at slot ") (slot_of fault) (load_fault fault).1
refusal_text (Open fault) = text_of_refusal (codes "refused O") (open_fault fault).0 [] None (open_fault fault).1
refusal_text (NoCell map index) = codes "refused Q14 at cell " ++ decimal map ++ codes " " ++ decimal index ++ codes ": no such cell or wrong length"
