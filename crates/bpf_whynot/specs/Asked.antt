-- What is asked about: slots of a program, by their text, or by the constant that they make. bpfdb's own choice.
use Rattle.std.specs.Prelude.{ℕ, ◌==◌, Bool, true, false, List, [], ◌∷◌, Option, Some, None, Result, Ok, Err, drop, is_some, length, if◌then◌else◌}
use Rattle.counted_io.specs.Cuts.{after, before}
use Rattle.bpf_isa.specs.Maps.{items_of}
use Rattle.bpf_isa.specs.Programs.{Checked, insn_at}
use Rattle.bpf_origin.specs.Asked.{number}
use lib.Chars.{codes}
use Rattle.bpf_whynot.specs.Constants.{makers}
use Rattle.bpf_whynot.specs.declared.fault.GoalFault.{GoalFault}
use Rattle.bpf_whynot.specs.declared.fault.GoalFault.TheVariants.{NoSlot, NoInstruction, NoValue, NoConstant}
use Rattle.bpf_whynot.specs.declared.maker.Maker.{Maker}

-- A slot at which an instruction starts.
abbrev pub start_at : Checked → Option ℕ → Result ℕ GoalFault
start_at program None = Err NoSlot
start_at program (Some p) = if is_some (insn_at program p) then Ok p else Err NoInstruction

abbrev pub goal_in : Checked → List ℕ → Result ℕ GoalFault
goal_in program item = start_at program (number item)

-- Those of some items, or the fault of the first one that has one.
abbrev pub with_goal : ℕ → Result (List ℕ) GoalFault → Result (List ℕ) GoalFault
with_goal p (Ok goals) = Ok (p ∷ goals)
with_goal p (Err fault) = Err fault

abbrev pub and_goals : Result ℕ GoalFault → Result (List ℕ) GoalFault → Result (List ℕ) GoalFault
and_goals (Ok p) more = with_goal p more
and_goals (Err fault) more = Err fault

abbrev pub goals_of : Checked → List (List ℕ) → Result (List ℕ) GoalFault
goals_of program [] = Ok []
goals_of program (item ∷ items) = and_goals (goal_in program item) (goals_of program items)

-- Slots by their numbers, with commas between them.
abbrev pub slots_in : Checked → List ℕ → Result (List ℕ) GoalFault
slots_in program text = goals_of program (items_of text)

-- Or `=VALUE`: those that make the value as a constant; `=VALUE,FIRST` from a slot on, and `=VALUE,FIRST,COUNT` among so many (61 is the equals sign, 44 a comma).
abbrev pub asks_value : List ℕ → Bool
asks_value [] = false
asks_value (b ∷ text) = b == 61

abbrev pub number_or : ℕ → List ℕ → Option ℕ
number_or n [] = Some n
number_or n (b ∷ text) = number (b ∷ text)

abbrev pub maker_of : Option ℕ → Option ℕ → Option ℕ → Option Maker
maker_of (Some value) (Some first) (Some count) = Some (record { value = value; first = first; count = count })
maker_of value first count = None

abbrev pub maker_in : List ℕ → Option Maker
maker_in text = maker_of (number (before 44 text)) (number_or 0 (before 44 (after 44 text))) (number_or 18446744073709551615 (after 44 (after 44 text)))

-- There is at least one.
abbrev pub some_goals : List ℕ → Result (List ℕ) GoalFault
some_goals [] = Err NoConstant
some_goals (p ∷ goals) = Ok (p ∷ goals)

abbrev pub made_in : Checked → Option Maker → Result (List ℕ) GoalFault
made_in program None = Err NoValue
made_in program (Some m) = some_goals (makers program m (length program.insns))

-- Slots of a program, and whether they are asked about by the value that they make.
pub record Goals : Type 0 where
  pub slots : List ℕ
  pub by_value : Bool

abbrev pub as_goals : Bool → Result (List ℕ) GoalFault → Result Goals GoalFault
as_goals by_value (Ok slots) = Ok (record { slots = slots; by_value = by_value })
as_goals by_value (Err fault) = Err fault

-- Those that a text names; or why that is refused.
abbrev pub goals_in : Checked → List ℕ → Result Goals GoalFault
goals_in program text =
    if asks_value text then as_goals true (made_in program (maker_in (drop 1 text))) else as_goals false (slots_in program text)

-- A refusal's number and text. (The numbers before are those of what `origin` is asked; V5 is that of a place that isn't there.)
abbrev pub goal_fault : GoalFault → ℕ × List ℕ
goal_fault NoSlot = (3, codes "neither a slot nor slots with commas between")
goal_fault NoInstruction = (4, codes "no instruction starts at the slot")
goal_fault NoValue = (6, codes "neither a number nor an enumerator of one value")
goal_fault NoConstant = (7, codes "no instruction makes the value")
