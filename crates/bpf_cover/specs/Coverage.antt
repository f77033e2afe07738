-- What ran of a program, by steps, each told by the state from which it is taken.
use Rattle.std.specs.Prelude.{ℕ, ℤ, zero, suc, pos, negsuc, ◌+◌, ◌==◌, ◌&&◌, ◌||◌, Bool, true, false, not, if◌then◌else◌, List, [], ◌∷◌, ◌++◌, count_by, decimal, length, map, Option, Some, None, is_some}
use lib.Chars.{codes}
use Rattle.std.specs.List.{list_any, range_with_len}
use Rattle.std.specs.Option.{option_map_or}
use Rattle.bpf_isa.specs.Programs.{Checked, insn_at}
use Rattle.bpf_isa.specs.declared.instruction.Insn.{Insn}
use Rattle.bpf_isa.specs.declared.instruction.Insn.TheVariants as insn
use Rattle.bpf_steps.specs.Next.{next}
use Rattle.bpf_steps.specs.State.{State}
use Rattle.bpf_cover.specs.Texts.{texts_of}
use Rattle.bpf_cover.specs.declared.coverage.Mark.{Mark}

-- A step goes on, if it leads to the slot behind its own, or else it jumps.
abbrev pub goes_on : State → Bool
goes_on x = (next x).pc == x.pc + 1

-- Some step from a slot went on; some jumped.
abbrev pub went_on : List State → ℕ → Bool
went_on xs slot = list_any (λ x. x.pc == slot && goes_on x) xs

abbrev pub jumped : List State → ℕ → Bool
jumped xs slot = list_any (λ x. x.pc == slot && not (goes_on x)) xs

-- A conditional jump has two ways, unless its target is the slot behind it.
abbrev pub is_far : ℤ → Bool
is_far (pos zero) = false
is_far (pos (suc n)) = true
is_far (negsuc n) = true

abbrev pub is_fork : Insn → Bool
is_fork (insn.JumpIf condition width dst source offset) = is_far offset
is_fork _ = false

-- What some steps did at a slot of a program, and at each of its slots.
abbrev pub mark_at : Checked → List State → ℕ → Mark
mark_at program xs slot = record {
  starts = is_some (insn_at program slot);
  forks = option_map_or is_fork (insn_at program slot) false;
  went_on = went_on xs slot;
  jumped = jumped xs slot;
}

abbrev pub marks_of : Checked → List State → List Mark
marks_of program xs = map (mark_at program xs) (range_with_len 0 (length program.insns))

-- What ran of a program: the marks of its slots, and the texts of its instructions.
pub record Covered : Type 0 where
  pub marks : List Mark
  pub texts : List (List ℕ)

abbrev pub covered : Checked → List State → Covered
covered program xs = record { marks = marks_of program xs; texts = texts_of program }

-- An instruction ran if some step was taken from it; a conditional jump went both ways if one went on and one jumped.
abbrev pub has_run : Mark → Bool
has_run mark = mark.went_on || mark.jumped

abbrev pub went_both_ways : Mark → Bool
went_both_ways mark = mark.forks && (mark.went_on && mark.jumped)

-- What of an instruction didn't run: all of it, or one way of a conditional jump.
abbrev pub way_missed : Bool → Bool → Option (List ℕ)
way_missed true true = None
way_missed true false = Some (codes "never jumped: ")
way_missed false true = Some (codes "never went on: ")
way_missed false false = Some (codes "never ran: ")

abbrev pub missed : Mark → Option (List ℕ)
missed mark =
    if mark.forks then way_missed mark.went_on mark.jumped
    else if mark.starts && not (has_run mark) then Some (codes "never ran: ") else None

-- The line of an instruction of which something didn't run, and those of a program, in order.
abbrev pub miss_line : List ℕ → Mark → List ℕ
miss_line text mark = option_map_or (λ what. codes "# " ++ what ++ text ++ codes "\n") (missed mark) []

abbrev pub miss_lines : List (List ℕ) → List Mark → List ℕ
miss_lines texts [] = []
miss_lines [] (mark ∷ marks) = []
miss_lines (text ∷ texts) (mark ∷ marks) = miss_line text mark ++ miss_lines texts marks

-- How many instructions ran, and how many conditional jumps went both ways.
abbrev pub counts_line : ℕ → List Mark → List ℕ
counts_line line marks =
    codes "# cover of the program in line " ++ decimal line ++ codes ": "
    ++ decimal (count_by has_run marks) ++ codes " of " ++ decimal (count_by (λ mark. mark.starts) marks) ++ codes " instructions, "
    ++ decimal (count_by went_both_ways marks) ++ codes " of " ++ decimal (count_by (λ mark. mark.forks) marks) ++ codes " branches both ways\n"

-- The table of a program that stands in a line of its file.
abbrev pub table_text : ℕ → Covered → List ℕ
table_text line c = counts_line line c.marks ++ miss_lines c.texts c.marks
