-- A run against the trace of another machine: how many of its first steps the trace tells as they were, and what is told of the first that it
-- doesn't. bpfdb's own choice.
use Rattle.std.specs.Prelude.{ℕ, zero, suc, ◌+◌, ◌-◌, ◌==◌, ◌&&◌, Bool, true, false, if◌then◌else◌, List, [], ◌∷◌, ◌++◌, codes, decimal, drop, reverse, take}
use Rattle.std.specs.Option.{option_map_or}
use Rattle.std.specs.Str.{bytes_eq}
use Rattle.counted_io.specs.Writing.{hexadecimal}
use Rattle.bpf_entries.specs.Status.{has_ended}
use Rattle.bpf_steps.specs.State.{State, register}
use Rattle.bpf_session.specs.Plain.{plain_end}
use Rattle.bpf_trace.specs.Runs.{steps_of}
use Rattle.bpf_trace.specs.Traces.{end_line, step_line}
use Rattle.bpfdb_script.specs.Shown.{shown}
use Rattle.input_texts.specs.TraceForms.{is_told, number, words_of}
use Rattle.bpf_diff.specs.Differences.{heading}
use Rattle.bpf_diff.specs.Writers.{behind}
use Rattle.input_texts.specs.declared.trace_form.Form.{Form}
use Rattle.input_texts.specs.declared.trace_form.Form.TheVariants.{Steps, Registers}

-- The entries of a line of registers, by their places in it: the slot (0), and r0 to r10.
abbrev pub entry : State → ℕ → ℕ
entry x i = if i == 0 then x.pc else register x (i - 1)

-- Those that a line tells: its first twelve words.
abbrev pub entries_of : List ℕ → List (List ℕ)
entries_of line = take 12 (words_of line)

abbrev pub are_told : State → ℕ → List (List ℕ) → Bool
are_told x i [] = true
are_told x i (word ∷ rest) = is_told (entry x i) word && are_told x (suc i) rest

-- A place in C begins there.
unfoldable pub begins_place : List ℕ → Bool
begins_place text = bytes_eq (take 5 text) (codes "; in ")

-- Whether a line of a trace tells the step numbered k from a state as it was: as `trace` does, or the slot and the registers before it.
unfoldable pub is_line : List ℕ → List ℕ → Bool
is_line text line = bytes_eq (line ++ codes "\n") text

-- What a line tells besides where the step, or the end, stands in C, which ends it.
abbrev pub unplaced : List ℕ → List ℕ
unplaced [] = []
unplaced (b ∷ line) = if begins_place (b ∷ line) then [] else b ∷ unplaced line

abbrev pub says : Form → ℕ → State → List ℕ → Bool
says Steps k x line = is_line (step_line [] k x) (unplaced line)
says Registers k x line = are_told x 0 (entries_of line)

-- How many first steps of a run, numbered from k on, the first lines of a trace tell so.
abbrev pub agreed : Form → ℕ → List State → List (List ℕ) → ℕ
agreed form k [] told = 0
agreed form k (x ∷ xs) [] = 0
agreed form k (x ∷ xs) (line ∷ rest) = if says form k x line then suc (agreed form (suc k) xs rest) else 0

-- The line of a step here, in the form of the trace, and a line of the trace.
abbrev pub registers_from : State → ℕ → ℕ → List ℕ
registers_from x r zero = codes "\n"
registers_from x r (suc n) = codes " " ++ hexadecimal (register x r) ++ registers_from x (suc r) n

abbrev pub here : Form → ℕ → State → List ℕ
here Steps k x = codes "< " ++ step_line [] k x
here Registers k x = codes "< " ++ decimal x.pc ++ registers_from x 0 11

unfoldable pub there : List ℕ → List ℕ
there line = codes "> " ++ shown line ++ codes "\n"

-- An entry that is another one there: both values, and what led to the one here.
abbrev pub entry_text : ℕ → ℕ → List ℕ
entry_text i n = if i == 0 then codes "slot: " ++ decimal n else codes "r" ++ decimal (i - 1) ++ codes ": " ++ hexadecimal n

abbrev pub other_text : ℕ → ℕ → List ℕ
other_text i n = if i == 0 then decimal n else hexadecimal n

unfoldable pub difference : List State → State → ℕ → List ℕ → List ℕ
difference before x i word =
    entry_text i (entry x i) ++ codes " here, " ++ other_text i (option_map_or (λ m. m) (number word) 0) ++ codes " there"
    ++ behind before x i

abbrev pub differences : List State → State → ℕ → List (List ℕ) → List ℕ
differences before x i [] = []
differences before x i (word ∷ rest) =
    (if is_told (entry x i) word then [] else difference before x i word) ++ differences before x (suc i) rest

abbrev pub details : Form → List State → State → List ℕ → List ℕ
details Steps before x line = []
details Registers before x line = differences before x 0 (entries_of line)

-- What is told behind n steps that agree: of the next one, if the run takes it, and the next line, if there is one; else of the end.
abbrev pub end_here : ℕ → State → List ℕ
end_here limit y = codes "< " ++ end_line limit y

abbrev pub goes_on : ℕ → State → List ℕ → List ℕ
goes_on limit y line = codes "the trace goes on\n" ++ end_here limit y ++ there line

abbrev pub same_text : ℕ → ℕ → State → List ℕ
same_text limit n y = codes "same for " ++ decimal n ++ codes " steps\n" ++ end_line limit y

abbrev pub behind_end : ℕ → ℕ → State → List (List ℕ) → List ℕ
behind_end limit n y [] = same_text limit n y
behind_end limit n y (line ∷ rest) = goes_on limit y line

abbrev pub at_end : Form → ℕ → ℕ → State → List (List ℕ) → List ℕ
at_end Registers limit n y told = behind_end limit n y told
at_end Steps limit n y [] = codes "the end is not in the trace\n" ++ end_here limit y
at_end Steps limit n y (line ∷ rest) =
    if is_line (end_line limit y) (unplaced line) then behind_end limit n y rest
    else codes "the end is told otherwise\n" ++ end_here limit y ++ there line

abbrev pub answer : Form → ℕ → ℕ → List State → List State → State → List (List ℕ) → List ℕ
answer form limit n before [] y told = at_end form limit n y told
answer form limit n before (x ∷ xs) y [] = heading (n + 1) (codes " is not in the trace\n") ++ here form (n + 1) x
answer form limit n before (x ∷ xs) y (line ∷ rest) =
    heading (n + 1) (codes " is told otherwise\n") ++ here form (n + 1) x ++ there line ++ details form before x line

-- The answer about a run and the lines of a trace.
abbrev pub against_behind : Form → ℕ → ℕ → List State → State → List (List ℕ) → List ℕ
against_behind form limit n xs y told = answer form limit n (reverse (take n xs)) (drop n xs) y (drop n told)

abbrev pub against_text : Form → ℕ → State → List (List ℕ) → List ℕ
against_text form limit x told =
    against_behind form limit (agreed form 1 (steps_of limit x) told) (steps_of limit x) (plain_end limit x) told

-- Whether the trace tells the whole run, and nothing else; and that it ended.
abbrev pub is_end_told : Form → ℕ → State → List (List ℕ) → Bool
is_end_told Registers limit y [] = true
is_end_told Steps limit y (line ∷ []) = is_line (end_line limit y) (unplaced line)
is_end_told form limit y told = false

abbrev pub is_whole : Form → ℕ → List State → State → List (List ℕ) → Bool
is_whole form limit [] y told = is_end_told form limit y told && has_ended y.status
is_whole form limit (x ∷ xs) y told = false

abbrev pub told_behind : Form → ℕ → ℕ → List State → State → List (List ℕ) → Bool
told_behind form limit n xs y told = is_whole form limit (drop n xs) y (drop n told)

abbrev pub tells_run : Form → ℕ → State → List (List ℕ) → Bool
tells_run form limit x told =
    told_behind form limit (agreed form 1 (steps_of limit x) told) (steps_of limit x) (plain_end limit x) told
