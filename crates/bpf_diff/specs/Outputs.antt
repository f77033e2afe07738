-- What two runs leave for one who looks from outside, told: the first place at which they end otherwise, and the step of each that wrote it
-- last. bpfdb's own choice.
use Rattle.std.specs.Prelude.{ℕ, zero, suc, ◌-◌, Bool, false, ◌==◌, ◌&&◌, if◌then◌else◌, List, [], ◌∷◌, ◌++◌, decimal, drop, is_none, Option, Some, None}
use lib.Chars.{codes}
use Rattle.counted_io.specs.Writing.{hexadecimal}
use Rattle.bpf_entries.specs.Status.{has_ended}
use Rattle.bpf_steps.specs.Entries.{step_entry}
use Rattle.bpf_steps.specs.Next.{next}
use Rattle.bpf_steps.specs.State.{State}
use Rattle.bpf_origin.specs.Writes.{writes}
use Rattle.bpf_origin.specs.declared.place.Place.{Place}
use Rattle.bpf_origin.specs.declared.place.Place.TheVariants.{Register, Word, Byte}
use Rattle.bpfdb_script.specs.SlotTexts.{SlotTexts}
use Rattle.bpf_session.specs.Plain.{plain_end}
use Rattle.bpf_trace.specs.Runs.{steps_of}
use Rattle.bpf_trace.specs.Traces.{end_line}
use Rattle.bpf_diff.specs.Differences.{ends_text, side}
use Rattle.bpf_diff.specs.Ends.{same_status}
use Rattle.bpf_diff.specs.declared.texts.BothTexts.{BothTexts}
use Rattle.bpf_diff.specs.Seen.{first_place, seen}

-- The number of the last of some steps that wrote a place, 0 where none did.
abbrev pub later : ℕ → Bool → ℕ
later zero here = if here then 1 else 0
later (suc n) here = suc (suc n)

unfoldable pub last_write : Place → List State → ℕ
last_write p [] = 0
last_write p (x ∷ xs) = later (last_write p xs) (writes (next x) (step_entry x) p)

-- The line of that step behind a mark, or that there is none.
unfoldable pub writer_line : List ℕ → SlotTexts → ℕ → List State → List ℕ
writer_line mark texts n xs = if n == 0 then mark ++ codes "not written\n" else side mark texts n (drop (n - 1) xs)

-- A place, and what stands there in each run.
abbrev pub place_text : Place → List ℕ
place_text (Register d r) = codes "r0"
place_text (Word i) = codes "word " ++ decimal i
place_text (Byte a) = hexadecimal a ++ codes ":1"

abbrev pub value_text : Option ℕ → List ℕ
value_text None = codes "none"
value_text (Some v) = hexadecimal v

unfoldable pub place_line : Place → Option ℕ → Option ℕ → List ℕ
place_line p v w =
    place_text p ++ (codes " ends otherwise: " ++ (value_text v ++ (codes ", " ++ (value_text w ++ codes "\n"))))

-- What is told of it, of runs with these steps that ended so.
abbrev pub difference_text : BothTexts → Option Place → List State → List State → State → State → List ℕ
difference_text texts None xs ys x y = codes "same writes\n"
difference_text texts (Some p) xs ys x y = place_line p (seen x p) (seen y p)
    ++ (writer_line (codes "< ") texts.first (last_write p xs) xs ++ writer_line (codes "> ") texts.second (last_write p ys) ys)

abbrev pub writes_text : BothTexts → ℕ → List ℕ → List ℕ → State → State → List ℕ
writes_text texts limit c d x y =
    let end = plain_end limit x in
    let other = plain_end limit y in
    difference_text texts (first_place c d end other) (steps_of limit x) (steps_of limit y) end other
    ++ ends_text false 0 (end_line limit end) (end_line limit other)

-- They leave the same, and both ended, by one reason.
abbrev pub write_alike : ℕ → List ℕ → List ℕ → State → State → Bool
write_alike limit c d x y =
    let end = plain_end limit x in
    let other = plain_end limit y in
    is_none (first_place c d end other) && (same_status end.status other.status && has_ended end.status)
