-- Why a program did not come to some slots: the latest kept move from whose state it could, and from whose next state it could not; and where a value is
-- asked about, the newest kept move that made it.
use Rattle.std.specs.Prelude.{ℕ, ◌+◌, ◌==◌, ◌&&◌, ◌||◌, nat_le, Bool, true, false, if◌then◌else◌, List, [], ◌∷◌, ◌++◌, Option, Some, None, decimal, flat_map, unwrap_or}
use Rattle.std.specs.Option.{option_map_or}
use lib.Chars.{codes}
use Rattle.bpf_entries.specs.Status.{has_ended}
use Rattle.bpf_isa.specs.Programs.{Checked, insn_at}
use Rattle.bpf_isa.specs.declared.instruction.Insn.{Insn}
use Rattle.bpf_steps.specs.Platform.{frame_count}
use Rattle.bpf_steps.specs.State.{State}
use Rattle.bpf_machine.specs.declared.moves.Move.{Move}
use Rattle.bpf_machine.specs.declared.moves.Move.TheVariants as move
use Rattle.bpf_journal.specs.Histories.{Record, is_step}
use Rattle.bpf_origin.specs.Answers.{Answer, with_line}
use Rattle.bpf_origin.specs.Asked.{answer_about}
use Rattle.bpf_origin.specs.Reads.{conditions}
use Rattle.bpf_origin.specs.Texts.{move_text, operands_text, part_name, slot_text, value_text}
use Rattle.bpf_origin.specs.declared.place.Part.{Part}
use Rattle.bpf_origin.specs.declared.question.Question.{Question}
use Rattle.bpf_origin.specs.declared.question.Extent.TheVariants.{Whole}
use Rattle.bpfdb_script.specs.Texts.{place, text_at}
use Rattle.bpfdb_script.specs.SlotTexts.{SlotTexts, text_of_slot}
use Rattle.bpf_whynot.specs.Constants.{made_by}
use Rattle.bpf_whynot.specs.Keeps.{may_write}
use Rattle.bpf_whynot.specs.Reach.{can_from, is_goal}
use Rattle.bpf_whynot.specs.declared.made.Made.{Made}

-- What is asked: the slots, the newest kept move that made the value that is asked about, how the answer about values is made, and whether that is
-- left out.
pub record Query : Type 0 where
  pub goals : List ℕ
  pub made : Option Made
  pub question : Question
  pub alone : Bool

-- A text that is the whole answer.
abbrev pub only : List ℕ → Answer
only text = record { text = text; extent = Whole }

abbrev pub still_text : List ℕ
still_text = codes "it can still be reached\n"

unfoldable pub reached_text : ℕ → List ℕ
reached_text k = codes "it was reached " ++ decimal k ++ codes " moves back\n"

abbrev pub never_text : Bool → List ℕ
never_text opening = if opening then codes "it was out of reach from the opening\n" else codes "it was out of reach before what is kept\n"

-- Where a move went: a step on, to another slot, or to a fault; an edit to a slot.
unfoldable pub jumped_text : ℕ → List ℕ
jumped_text p = codes "; jumped to " ++ decimal p

unfoldable pub edited_text : ℕ → List ℕ
edited_text p = codes "; then at " ++ decimal p

abbrev pub went_text : State → Move → State → List ℕ
went_text x move.Step y =
    if has_ended y.status then codes "; faulted"
    else if y.pc == x.pc + 1 then codes "; went on"
    else jumped_text y.pc
went_text x (move.Edit e) y = edited_text y.pc

-- The line of a move, so many moves back: which it was, the values that it compared, where it went, and what is told of its slot.
abbrev pub lost_line : SlotTexts → ℕ → State → Move → State → List ℕ
lost_line places k x m y =
    codes "-" ++ decimal k ++ codes " " ++ move_text x m ++ operands_text x m ++ went_text x m y
    ++ slot_text places x m ++ codes "\n"

-- Where those values came from, in the state before the move: where the machine stood, and the answer to that. Nothing where it compared none.
abbrev pub is_none : List Part → Bool
is_none [] = true
is_none (p ∷ ps) = false

abbrev pub because : Query → Record → List Record → Answer
because s r h =
    if s.alone || is_none (conditions r.before r.move) then only []
    else with_line (place r.before ++ codes "\n") (answer_about s.question (conditions r.before r.move) h r.before)

-- The answer where a move was the latest one from whose state a goal could be come to: that it stood at one, or its line.
abbrev pub stood_at : Query → Record → Bool
stood_at s r = is_step r.move && is_goal s.goals r.before.pc

abbrev pub left_by : Query → ℕ → Record → List Record → State → Answer
left_by s k r h y =
    if stood_at s r then only (reached_text k) else with_line (lost_line s.question.places k r.before r.move y) (because s r h)

-- After k moves, none of which is looked for: the latest is told of which a test holds, by how many moves it lies back and the state before it.
unfoldable pub left_after : (ℕ → State → Bool) → Query → ℕ → List Record → State → Answer
left_after test s k [] y = only (never_text s.question.opening)
left_after test s k (r ∷ h) y = if test (k + 1) r.before then left_by s (k + 1) r h y else left_after test s (k + 1) h r.before

-- One from whose state a goal can be come to; one that lies so many back.
abbrev pub reaches : (ℕ → List ℕ → Bool) → ℕ → State → Bool
reaches can k x = can_from can x

abbrev pub lies_at : ℕ → ℕ → State → Bool
lies_at n k x = k == n

-- The answer about goals in a state with its history, by a test that tells from where one can be come to.
abbrev pub not_come : (ℕ → List ℕ → Bool) → Query → List Record → State → Answer
not_come can s h y = if can_from can y then only still_text else left_after (reaches can) s 0 h y

-- The line of the newest kept move that made the value, as `origin` has it: how many moves back it lies, what it made, and its instruction. (No
-- function stands deeper than `frame_count`.)
unfoldable pub value_of : ℕ → Part → List ℕ
value_of v p = part_name p ++ value_text v ++ codes "; "

abbrev pub made_parts : ℕ → Insn → List Part
made_parts d i = if nat_le d frame_count then may_write d i else []

abbrev pub made_values : ℕ → Insn → List ℕ
made_values d i = flat_map (value_of (unwrap_or (made_by i) 0)) (made_parts d i)

unfoldable pub made_head : Made → Insn → List ℕ
made_head m i = codes "made: -" ++ decimal m.moves ++ codes " " ++ made_values m.depth i

unfoldable pub made_tail : SlotTexts → Checked → ℕ → List ℕ
made_tail places program p = text_at program p ++ text_of_slot places p ++ codes "\n"

abbrev pub made_insn : SlotTexts → Checked → Made → Insn → List ℕ
made_insn places program m i = made_head m i ++ made_tail places program m.slot

abbrev pub made_line : SlotTexts → Checked → Made → List ℕ
made_line places program m = option_map_or (made_insn places program m) (insn_at program m.slot) []

-- Behind that it is asked about those goals at which no kept move made the value, if there are any.
abbrev pub all_made_text : List ℕ
all_made_text = codes "each instruction that makes it ran\n"

abbrev pub has_none : List ℕ → Bool
has_none [] = true
has_none (p ∷ goals) = false

-- If there are none, the branch is told after which it was overwritten, if one is known.
abbrev pub over_text : List ℕ
over_text = codes "overwritten: "

abbrev pub over_at : Query → Option ℕ → List Record → State → Answer
over_at s None h y = only all_made_text
over_at s (Some n) h y = with_line over_text (left_after (lies_at n) s 0 h y)

abbrev pub others_not_come : (ℕ → List ℕ → Bool) → Query → Made → List Record → State → Answer
others_not_come can s m h y = if has_none s.goals then over_at s m.branch h y else not_come can s h y

abbrev pub not_come_but : (ℕ → List ℕ → Bool) → Query → Option Made → List Record → State → Answer
not_come_but can s None h y = not_come can s h y
not_come_but can s (Some m) h y = with_line (made_line s.question.places y.program m) (others_not_come can s m h y)

-- The whole answer.
abbrev pub why_not : (ℕ → List ℕ → Bool) → Query → List Record → State → Answer
why_not can s h y = not_come_but can s s.made h y
