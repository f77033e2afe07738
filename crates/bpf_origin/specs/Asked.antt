-- What is asked about: the text that names it, the parts of a machine that it is, and the whole answer. bpfdb's own choice.
use Rattle.std.specs.Prelude.{ℕ, ◌+◌, Bool, true, nat_le, nat_lt, ◌==◌, ◌&&◌, if◌then◌else◌, List, [], ◌∷◌, Option, Some, None, Result, Ok, Err, is_some, length, take, drop, position}
use Rattle.std.specs.Option.{option_and_then}
use Rattle.counted_io.specs.Numerals.{natural, as_u64}
use Rattle.bpf_isa.specs.Registers.{register_named}
use Rattle.bpf_journal.specs.Histories.{Record}
use Rattle.bpf_steps.specs.Regions.{run_at}
use Rattle.bpf_steps.specs.State.{State, depth}
use Rattle.bpf_origin.specs.declared.place.Part.{Part}
use Rattle.bpf_origin.specs.declared.place.Part.TheVariants as part
use Rattle.bpf_origin.specs.declared.question.Question.{Question}
use Rattle.bpf_origin.specs.declared.question.Extent.TheVariants.{Places}
use lib.Chars.{codes}
use Rattle.bpf_origin.specs.declared.fault.WhatFault.{WhatFault}
use Rattle.bpf_origin.specs.declared.fault.WhatFault.TheVariants.{Unknown, Absent}
use Rattle.bpf_origin.specs.declared.what.What.{What}
use Rattle.bpf_origin.specs.declared.what.What.TheVariants.{Register, Bytes}
use Rattle.bpf_origin.specs.Answers.{Answer, Rows, cut_at, rows_from, told}
use Rattle.bpf_origin.specs.Places.{depth_for}
use Rattle.bpf_origin.specs.Reads.{asked}
use Rattle.bpf_origin.specs.Wanted.{most_places, want_parts}

-- A number below 2^64, as commands have them: decimal digits, or 0x and hexadecimal digits.
abbrev pub number : List ℕ → Option ℕ
number text = option_and_then as_u64 (natural text)

-- A register, of which r10 is no place.
abbrev pub register_asked : ℕ → Option What
register_asked r = if nat_lt r 10 then Some (Register r) else None

-- 1 to 256 bytes from an address on.
abbrev pub bytes_asked : Option ℕ → Option ℕ → Option What
bytes_asked (Some a) (Some n) = if nat_lt 0 n && nat_le n 256 then Some (Bytes a n) else None
bytes_asked _ _ = None

-- An address, and behind a colon (58) how many bytes; without one it is one byte.
abbrev pub is_colon : ℕ → Bool
is_colon byte = byte == 58

abbrev pub bytes_cut : Option ℕ → List ℕ → Option What
bytes_cut None text = bytes_asked (number text) (Some 1)
bytes_cut (Some k) text = bytes_asked (number (take k text)) (number (drop (k + 1) text))

-- A text names a register, or else bytes.
abbrev pub what_by : Option ℕ → List ℕ → Option What
what_by (Some r) text = register_asked r
what_by None text = bytes_cut (position is_colon text) text

abbrev pub what_of : List ℕ → Option What
what_of text = what_by (register_named text) text

-- Whether a state has it: each of the bytes is there, and there are some.
abbrev pub is_there : State → What → Bool
is_there x (Register r) = true
is_there x (Bytes a n) = nat_lt 0 n && is_some (run_at x.memory a n)

-- What a text asks of a state, or why that is refused.
abbrev pub if_there : State → Option What → Result What WhatFault
if_there x None = Err Unknown
if_there x (Some what) = if is_there x what then Ok what else Err Absent

abbrev pub what_in : State → List ℕ → Result What WhatFault
what_in x text = if_there x (what_of text)

-- A refusal's number and text.
abbrev pub what_fault : WhatFault → ℕ × List ℕ
what_fault Unknown = (1, codes "neither r0 to r9 nor ADDRESS:COUNT")
what_fault Absent = (2, codes "address not present")

-- The parts that it is in a state: a register of the function that runs; where nothing is named, what `asked` says.
abbrev pub part_asked : State → What → Part
part_asked x (Register r) = part.Register (depth_for (depth x) r) r
part_asked x (Bytes a n) = part.Bytes a n

abbrev pub parts_asked : State → Option What → List Part
parts_asked x None = asked x
parts_asked x (Some what) = part_asked x what ∷ []

-- The rows about parts, in a state with its history; and the answer.
abbrev pub rows_about : Question → List Part → List Record → State → Rows
rows_about q parts h y =
    if nat_lt most_places (length (want_parts [] parts)) then cut_at Places else rows_from q 0 q.lines (want_parts [] parts) h y

abbrev pub answer_about : Question → List Part → List Record → State → Answer
answer_about q parts h y = told q (rows_about q parts h y)
