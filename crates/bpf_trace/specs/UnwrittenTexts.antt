-- What is told of a read of the stack where nothing was written. bpfdb's own choice.
use Rattle.std.specs.Prelude.{ℕ, nat_lt, if◌then◌else◌, List, [], ◌++◌, Option, Some, None, decimal, drop, length}
use lib.Chars.{codes}
use Rattle.counted_io.specs.Writing.{hexadecimal}
use Rattle.bpfdb_script.specs.SlotTexts.{SlotTexts, text_of_slot}
use Rattle.bpf_trace.specs.declared.strict_run.Unwritten.{Unwritten}

-- Where a call stands, by what is told of its slot: that begins with `; in `.
abbrev pub called_by : List ℕ → List ℕ
called_by told = if nat_lt (length told) 5 then [] else codes "; called by " ++ drop 5 told

abbrev pub call_text : SlotTexts → Option ℕ → List ℕ
call_text places None = []
call_text places (Some slot) = called_by (text_of_slot places slot)

-- The address of the byte, and the slot of the step that would read it; and what is told of that slot and of the call.
unfoldable pub unwritten_text : Unwritten → List ℕ
unwritten_text read = codes "read of " ++ hexadecimal read.address ++ codes " at " ++ decimal read.slot ++ codes ": not written since the call"

abbrev pub unwritten_line : SlotTexts → Unwritten → List ℕ
unwritten_line places read = unwritten_text read ++ text_of_slot places read.slot ++ call_text places read.call ++ codes "\n"
