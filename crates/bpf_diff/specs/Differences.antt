-- Where two runs part, told. bpfdb's own choice.
use Rattle.std.specs.Prelude.{ℕ, suc, Bool, ◌+◌, ◌==◌, ◌&&◌, if◌then◌else◌, List, [], ◌∷◌, ◌++◌, decimal, drop, length}
use lib.Chars.{codes}
use Rattle.bpf_entries.specs.Status.{has_ended}
use Rattle.bpf_steps.specs.State.{State}
use Rattle.bpfdb_script.specs.SlotTexts.{SlotTexts, text_of_slot}
use Rattle.bpf_session.specs.Plain.{plain_end}
use Rattle.bpf_trace.specs.Runs.{steps_of}
use Rattle.bpf_trace.specs.Traces.{end_line, step_line}
use Rattle.bpf_diff.specs.Alike.{alike, same_slot}
use Rattle.bpf_diff.specs.Ends.{same_end}
use Rattle.bpf_diff.specs.declared.texts.BothTexts.{BothTexts}

-- How many first steps of two runs agree, by a test of two steps.
abbrev pub agreeing : (State → State → Bool) → List State → List State → ℕ
agreeing test [] ys = 0
agreeing test (x ∷ xs) [] = 0
agreeing test (x ∷ xs) (y ∷ ys) = if test x y then suc (agreeing test xs ys) else 0

-- How many do alike, and how many stand at one slot.
abbrev pub alike_for : List State → List State → ℕ
alike_for xs ys = agreeing alike xs ys

abbrev pub together_for : List State → List State → ℕ
together_for xs ys = agreeing same_slot xs ys

-- What happened at the step numbered k.
unfoldable pub heading : ℕ → List ℕ → List ℕ
heading k what = codes "step " ++ decimal k ++ what

-- The line of that step in one run, if there it is taken: the first of these. It ends with what is told of its slot.
abbrev pub side : List ℕ → SlotTexts → ℕ → List State → List ℕ
side mark texts k [] = []
side mark texts k (x ∷ xs) = mark ++ step_line (text_of_slot texts x.pc) k x

abbrev pub sides : BothTexts → ℕ → List State → List State → List ℕ
sides texts k xs ys = side (codes "< ") texts.first k xs ++ side (codes "> ") texts.second k ys

-- The first step that did not do alike, of these, if both stood at one slot: they wrote otherwise.
abbrev pub otherwise : BothTexts → ℕ → List State → List State → List ℕ
otherwise texts k (x ∷ xs) (y ∷ ys) =
    if same_slot x y then heading k (codes " wrote otherwise\n") ++ sides texts k (x ∷ xs) (y ∷ ys) else []
otherwise texts k xs ys = []

-- The first step, of these, at which one run stands elsewhere than the other, or is over.
abbrev pub parting_heading : ℕ → List State → List State → List ℕ
parting_heading k [] [] = []
parting_heading k (x ∷ xs) (y ∷ ys) = heading k (codes " went elsewhere\n")
parting_heading k xs ys = heading k (codes " is in one run alone\n")

abbrev pub parting : BothTexts → ℕ → List State → List State → List ℕ
parting texts k xs ys = parting_heading k xs ys ++ sides texts k xs ys

-- Two runs are the same: each of their steps is alike, none has one more, and they end alike.
abbrev pub are_same : ℕ → State → State → Bool
are_same limit x y =
    let xs = steps_of limit x in
    let ys = steps_of limit y in
    ((alike_for xs ys == together_for xs ys) && ((together_for xs ys == length xs) && (together_for xs ys == length ys)))
    && same_end (plain_end limit x) (plain_end limit y)

-- How they end: once where they are the same, with how many steps that took.
abbrev pub ends_text : Bool → ℕ → List ℕ → List ℕ → List ℕ
ends_text same n end other =
    if same then codes "same for " ++ decimal n ++ codes " steps\n" ++ end else codes "< " ++ end ++ (codes "> " ++ other)

abbrev pub ends_of : ℕ → State → State → List ℕ
ends_of limit x y =
    ends_text (are_same limit x y) (together_for (steps_of limit x) (steps_of limit y))
    (end_line limit (plain_end limit x)) (end_line limit (plain_end limit y))

-- The first step that wrote otherwise, where they part, and how they end.
abbrev pub first_otherwise : BothTexts → List State → List State → List ℕ
first_otherwise texts xs ys = otherwise texts (alike_for xs ys + 1) (drop (alike_for xs ys) xs) (drop (alike_for xs ys) ys)

abbrev pub first_parting : BothTexts → List State → List State → List ℕ
first_parting texts xs ys = parting texts (together_for xs ys + 1) (drop (together_for xs ys) xs) (drop (together_for xs ys) ys)

abbrev pub diff_text : BothTexts → ℕ → State → State → List ℕ
diff_text texts limit x y =
    first_otherwise texts (steps_of limit x) (steps_of limit y) ++ first_parting texts (steps_of limit x) (steps_of limit y) ++ ends_of limit x y

-- They are the same to their end.
abbrev pub end_alike : ℕ → State → State → Bool
end_alike limit x y = are_same limit x y && has_ended (plain_end limit x).status
