-- Which step of a run wrote the value of a register last.
use Rattle.std.specs.Prelude.{ℕ, suc, ◌-◌, ◌==◌, nat_lt, if◌then◌else◌, List, [], ◌∷◌, ◌++◌, codes, decimal, length}
use Rattle.bpf_isa.specs.Programs.{Checked}
use Rattle.bpf_steps.specs.Entries.{step_entry}
use Rattle.bpf_steps.specs.Next.{next}
use Rattle.bpf_steps.specs.State.{State, depth}
use Rattle.bpf_origin.specs.Places.{depth_for}
use Rattle.bpf_origin.specs.Writes.{came_from, writes}
use Rattle.bpf_origin.specs.declared.place.Place.{Place}
use Rattle.bpf_origin.specs.declared.place.Place.TheVariants as place
use Rattle.bpf_cover.specs.Texts.{slot_text}
use Rattle.bpf_diff.specs.declared.told_writers.Writer.{Writer}

-- A step by its number and its slot; 0 is the number of none.
abbrev pub no_step : Writer
no_step = record { step = 0; slot = 0 }

-- The last of some steps, the newest first, each told by the state from which it was taken.
abbrev pub last_step : List State → Writer
last_step [] = no_step
last_step (z ∷ before) = record { step = suc (length before); slot = z.pc }

-- The last of them that wrote a place, as `origin` finds it: a function that is called finds its caller's r6 to r9 in its own.
abbrev pub last_writer : List State → Place → Writer
last_writer [] p = no_step
last_writer (z ∷ before) p =
    if writes (next z) (step_entry z) p then last_step (z ∷ before) else last_writer before (came_from (next z) (step_entry z) p)

-- What led to an entry of a line of registers: to the slot (0) the last step, to r0 to r9 the last one that wrote it. r10 follows from calls.
abbrev pub register_writer : List State → State → ℕ → Writer
register_writer before x r = last_writer before (place.Register (depth_for (depth x) r) r)

abbrev pub writer_of : List State → State → ℕ → Writer
writer_of before x i = if i == 0 then last_step before else register_writer before x (i - 1)

-- As it is told.
unfoldable pub writer_text : Checked → Writer → List ℕ
writer_text program w =
    if w.step == 0 then codes "; here since the start\n"
    else codes "; here by step " ++ decimal w.step ++ codes ", " ++ slot_text program w.slot ++ codes "\n"

abbrev pub behind : List State → State → ℕ → List ℕ
behind before x i = if nat_lt i 11 then writer_text x.program (writer_of before x i) else codes "\n"
