-- The texts of what replies show. bpfdb's own choice.
use Rattle.std.specs.Prelude.{ℕ, zero, suc, ◌+◌, List, [], ◌∷◌, ◌++◌, decimal, length, reverse, flat_map, slice_index, unwrap_or}
use lib.Chars.{codes}
use Rattle.std.specs.Option.{option_map_or}
use Rattle.hex.specs.Hex.{encode_lower}
use Rattle.bpf_isa.specs.Programs.{Checked, insn_at, slots_of}
use Rattle.counted_io.specs.Writing.{hexadecimal}
use Rattle.bpf_text.specs.Operands.{text_of_insn}
use Rattle.bpf_steps.specs.Regions.{run_at}
use Rattle.bpf_steps.specs.State.{State, register, depth}
use Rattle.bpf_steps.specs.declared.frame.Frame.{Frame}
use Rattle.bpf_entries.specs.declared.status.Fault.{Fault}
use Rattle.bpf_entries.specs.declared.status.Fault.TheVariants.{Access, Token, Depth}
use Rattle.bpf_entries.specs.declared.status.Status.{Status}
use Rattle.bpf_entries.specs.declared.status.Status.TheVariants.{Running, Exited, Faulted}
use Rattle.bpfdb_script.specs.declared.why.Why.{Why}
use Rattle.bpfdb_script.specs.declared.why.Why.TheVariants.{End, Break, Watch, Done, Limit, Memory, Start, All}

-- Why a command stopped.
abbrev pub text_of_why : Why → List ℕ
text_of_why End = codes "end"
text_of_why Break = codes "break"
text_of_why Watch = codes "watch"
text_of_why Done = codes "done"
text_of_why Limit = codes "limit"
text_of_why Memory = codes "memory"
text_of_why Start = codes "start"
text_of_why All = codes "all"

-- A slot and the text of the instruction that starts there.
abbrev pub text_at : Checked → ℕ → List ℕ
text_at program slot =
    decimal slot ++ codes ": " ++ option_map_or (λ i. text_of_insn slot i) (insn_at program slot) []

-- Why a machine faulted.
abbrev pub text_of_fault : Fault → List ℕ
text_of_fault (Access address) = codes "access " ++ hexadecimal address
text_of_fault (Token token) = codes "token " ++ hexadecimal token
text_of_fault Depth = codes "depth"

-- Where a machine stands: the instruction to run, what an exited program answers, or why it faulted.
abbrev pub place_in : Status → State → List ℕ
place_in Running x = codes "at " ++ text_at x.program x.pc
place_in Exited x = codes "exited at " ++ decimal x.pc ++ codes ": r0 " ++ hexadecimal (register x 0)
place_in (Faulted fault) x = codes "fault " ++ text_of_fault fault ++ codes " at " ++ decimal x.pc

unfoldable pub place : State → List ℕ
place x = place_in x.status x

-- A register's name and number, with a blank in front.
unfoldable pub text_of_register : State → ℕ → List ℕ
text_of_register x r = codes " r" ++ decimal r ++ codes "=" ++ hexadecimal (register x r)

-- The registers from r on, n of them.
unfoldable pub registers_from : State → ℕ → ℕ → List ℕ
registers_from x r zero = []
registers_from x r (suc n) = text_of_register x r ++ registers_from x (r + 1) n

-- r0 to r10 on one line.
unfoldable pub text_of_registers : State → List ℕ
text_of_registers x = codes "r0=" ++ hexadecimal (register x 0) ++ registers_from x 1 10

-- The registers, and where the machine stands.
abbrev pub text_of_state : State → List ℕ
text_of_state x = text_of_registers x ++ codes "\n" ++ place x ++ codes "\n"

-- The slot to which a local call returns, and the numbers of r6 to r9 that come back.
unfoldable pub text_of_frame : Frame → List ℕ
text_of_frame f =
    codes "returns to " ++ decimal f.return_pc
    ++ codes " r6=" ++ hexadecimal (slice_index f.saved 0) ++ codes " r7=" ++ hexadecimal (slice_index f.saved 1)
    ++ codes " r8=" ++ hexadecimal (slice_index f.saved 2) ++ codes " r9=" ++ hexadecimal (slice_index f.saved 3) ++ codes "\n"

-- The depth, and a line for each pushed frame, the innermost first.
unfoldable pub text_of_frames : State → List ℕ
text_of_frames x = codes "depth " ++ decimal (depth x) ++ codes "\n" ++ flat_map text_of_frame (reverse x.frames)

-- The lines of a breakpoint and of a watch.
abbrev pub break_text : ℕ → List ℕ
break_text slot = codes "break " ++ decimal slot ++ codes "\n"

abbrev pub watch_text : ℕ → List ℕ
watch_text address = codes "watch " ++ hexadecimal address ++ codes "\n"

abbrev pub or_none : List ℕ → List ℕ
or_none [] = codes "none\n"
or_none (byte ∷ more) = byte ∷ more

-- A line for each breakpoint and then for each watch, in order of setting.
unfoldable pub text_of_breaks : List ℕ → List ℕ → List ℕ
text_of_breaks breaks watches = or_none (flat_map break_text breaks ++ flat_map watch_text watches)

-- How many moves and commands that moved are kept, and how many bytes of the journal's size they weigh.
unfoldable pub text_of_history : ℕ → ℕ → ℕ → ℕ → List ℕ
text_of_history moves commands weight size =
    decimal moves ++ codes " moves, " ++ decimal commands ++ codes " commands, "
    ++ decimal weight ++ codes " of " ++ decimal size ++ codes " bytes\n"

-- How many moves back a byte was changed, from what to what.
unfoldable pub text_of_change : ℕ → ℕ → ℕ → List ℕ
text_of_change moves old new =
    codes "changed " ++ decimal moves ++ codes " moves back: " ++ hexadecimal old ++ codes " to " ++ hexadecimal new ++ codes "\n"

-- How many moves did not change it.
unfoldable pub text_of_unchanged : ℕ → List ℕ
text_of_unchanged moves = codes "not changed in " ++ decimal moves ++ codes " kept moves\n"

-- How many words were traced, and the words.
abbrev pub word_text : ℕ → List ℕ
word_text n = codes " " ++ hexadecimal n

unfoldable pub text_of_trace : State → List ℕ
text_of_trace x = codes "trace " ++ decimal (length x.trace) ++ flat_map word_text x.trace ++ codes "\n"

-- The bytes of a run.
unfoldable pub text_of_bytes : State → ℕ → ℕ → List ℕ
text_of_bytes x address n =
    hexadecimal address ++ codes ": " ++ encode_lower (unwrap_or (run_at x.memory address n) []) ++ codes "\n"

-- So many instructions from a slot on, fewer at the program's end.
unfoldable pub instructions_from : Checked → ℕ → ℕ → List ℕ
instructions_from program slot zero = []
instructions_from program slot (suc n) =
    option_map_or (λ i. text_at program slot ++ codes "\n" ++ instructions_from program (slot + slots_of i) n) (insn_at program slot) []

-- How far a command went, why it stopped, and where.
abbrev pub text_of_move : ℕ → List ℕ → Why → State → List ℕ
text_of_move k way why x = decimal k ++ way ++ text_of_why why ++ codes "; " ++ place x ++ codes "\n"
