-- The text of where values came from. bpfdb's own choice.
use Rattle.std.specs.Prelude.{ℕ, ◌+◌, ◌-◌, is_some, nat_le, nat_lt, ◌==◌, ◌&&◌, if◌then◌else◌, List, [], ◌∷◌, ◌++◌, Option, Some, None, decimal, flat_map, Bool, false}
use lib.Chars.{codes}
use Rattle.std.specs.Option.{option_map_or}
use Rattle.byteorder.specs.Endian.{little_number}
use Rattle.counted_io.specs.Writing.{hexadecimal}
use Rattle.bpf_isa.specs.Programs.{insn_at}
use Rattle.bpf_isa.specs.declared.instruction.Insn.{Insn}
use Rattle.bpf_isa.specs.declared.instruction.Insn.TheVariants as insn
use Rattle.bpf_isa.specs.declared.instruction.Source.{Source}
use Rattle.bpf_isa.specs.declared.instruction.Source.TheVariants.{Immediate, Register}
use Rattle.bpf_steps.specs.Platform.{context_base, frame_base}
use Rattle.bpf_steps.specs.Regions.{run_at}
use Rattle.bpf_steps.specs.State.{State, register}
use Rattle.bpf_machine.specs.declared.moves.Move.{Move}
use Rattle.bpf_machine.specs.declared.moves.Move.TheVariants as move
use Rattle.bpfdb_script.specs.SlotTexts.{SlotTexts, text_of_slot}
use Rattle.bpfdb_script.specs.Texts.{text_at}
use Rattle.bpf_origin.specs.declared.place.Place.{Place}
use Rattle.bpf_origin.specs.declared.place.Place.TheVariants as place
use Rattle.bpf_origin.specs.declared.place.Part.{Part}
use Rattle.bpf_origin.specs.declared.place.Part.TheVariants as part
use Rattle.bpf_origin.specs.Places.{value}

-- A register, by its function's depth if that isn't 0; a word; bytes, as `origin` is asked for them.
unfoldable pub register_name : ℕ → ℕ → List ℕ
register_name d r = if d == 0 then codes "r" ++ decimal r else codes "r" ++ decimal r ++ codes " at depth " ++ decimal d

unfoldable pub word_name : ℕ → List ℕ
word_name i = codes "word " ++ decimal i

unfoldable pub bytes_name : ℕ → ℕ → List ℕ
bytes_name a n = hexadecimal a ++ codes ":" ++ decimal n

abbrev pub part_name : Part → List ℕ
part_name (part.Register d r) = register_name d r
part_name (part.Word i) = word_name i
part_name (part.Bytes a n) = bytes_name a n

-- The value of a part in a state: of bytes only where they make a number, of at most eight.
unfoldable pub value_text : ℕ → List ℕ
value_text v = codes " = " ++ hexadecimal v

abbrev pub bytes_value : State → ℕ → ℕ → List ℕ
bytes_value y a n =
    if nat_lt 0 n && nat_lt n 9 then option_map_or (λ run. value_text (little_number n run)) (run_at y.memory a n) [] else []

abbrev pub part_value : State → Part → List ℕ
part_value y (part.Register d r) = value_text (value y (place.Register d r))
part_value y (part.Word i) = value_text (value y (place.Word i))
part_value y (part.Bytes a n) = bytes_value y a n

unfoldable pub part_text : State → Part → List ℕ
part_text y p = part_name p ++ part_value y p

-- What a conditional jump compares: a register, whole, as the instruction names it, r10 too, and a second one, where that isn't a number.
unfoldable pub compared_text : State → ℕ → List ℕ
compared_text x r = codes "; r" ++ decimal r ++ codes " = " ++ hexadecimal (register x r)

abbrev pub source_text : State → Source → List ℕ
source_text x (Immediate imm) = []
source_text x (Register r) = compared_text x r

abbrev pub operands_by : State → Insn → List ℕ
operands_by x (insn.JumpIf condition width dst source offset) = compared_text x dst ++ source_text x source
operands_by x _ = []

abbrev pub operands_text : State → Move → List ℕ
operands_text x move.Step = option_map_or (operands_by x) (insn_at x.program x.pc) []
operands_text x (move.Edit e) = []

-- What a move wrote, each part with its value.
unfoldable pub written_text : State → Part → List ℕ
written_text y p = part_text y p ++ codes "; "

-- Which move it was: the instruction of a step, or an edit.
abbrev pub move_text : State → Move → List ℕ
move_text x move.Step = text_at x.program x.pc
move_text x (move.Edit e) = codes "edit"

-- A local call makes each byte of the frame that it enters zero, and writes nothing else: so it is told of bytes that no move wrote since.
abbrev pub call_text : Insn → List ℕ
call_text (insn.CallLocal distance) = codes "; not written since the call"
call_text _ = []

abbrev pub unwritten_text : State → Move → List ℕ
unwritten_text x move.Step = option_map_or call_text (insn_at x.program x.pc) []
unwritten_text x (move.Edit e) = []

-- What it read.
unfoldable pub read_text : Part → List ℕ
read_text p = codes " " ++ part_name p

abbrev pub reads_text : List Part → List ℕ
reads_text [] = []
reads_text (p ∷ ps) = codes "; from" ++ flat_map read_text (p ∷ ps)

-- What is told of the slot of a step, as where it stands in C: it ends the line of the move. An edit has none.
abbrev pub slot_text : SlotTexts → State → Move → List ℕ
slot_text places x move.Step = text_of_slot places x.pc
slot_text places x (move.Edit e) = []

-- The line of a move, so many moves back, that wrote these parts and read those.
unfoldable pub head : ℕ → State → List Part → List ℕ
head k y wrote = codes "-" ++ decimal k ++ codes " " ++ flat_map (written_text y) wrote

unfoldable pub tail : SlotTexts → State → Move → List Part → List ℕ
tail places x m read = move_text x m ++ unwritten_text x m ++ reads_text read ++ slot_text places x m ++ codes "\n"

abbrev pub line : SlotTexts → ℕ → State → Move → State → List Part → List Part → List ℕ
line places k x m y wrote read = head k y wrote ++ tail places x m read

-- A place that is left, as a part.
abbrev pub part_of : Place → Part
part_of (place.Register d r) = part.Register d r
part_of (place.Word i) = part.Word i
part_of (place.Byte a) = part.Bytes a 1

-- Fewer than eight bytes and the one behind them, as one part.
abbrev pub grown : Part → Place → Option Part
grown (part.Bytes a n) (place.Byte b) = if b == a + n && nat_lt n 8 then Some (part.Bytes a (n + 1)) else None
grown _ _ = None

-- Places that are left, as parts: a byte that follows the one before it is of the same part.
unfoldable pub joined : Part → List Place → List Part
joined run [] = run ∷ []
joined run (p ∷ ps) = option_map_or (λ longer. joined longer ps) (grown run p) (run ∷ joined (part_of p) ps)

abbrev pub parts_left : List Place → List Part
parts_left [] = []
parts_left (p ∷ ps) = joined (part_of p) ps

-- Where bytes begin in the context. Addresses below the first frame that have a byte are the context's.
abbrev pub in_context : State → ℕ → Bool
in_context x a = nat_lt a (frame_base 0) && is_some (run_at x.memory a 1)

abbrev pub offset_text : State → ℕ → List ℕ
offset_text x a =
    if in_context x a then codes "; byte " ++ decimal (a - context_base) ++ codes " of the context" else []

abbrev pub context_text : State → Part → List ℕ
context_text x (part.Bytes a n) = offset_text x a
context_text x _ = []

-- Since when a part that is left holds its value. No call enters the first frame: it is zero at the opening.
abbrev pub in_first_frame : Part → Bool
in_first_frame (part.Bytes a n) = nat_le (frame_base 0) a && nat_lt a (frame_base 1)
in_first_frame _ = false

abbrev pub opening_text : Part → List ℕ
opening_text p = if in_first_frame p then codes "; not written since the call\n" else codes "; at the opening\n"

abbrev pub since_text : Bool → Part → List ℕ
since_text opening p = if opening then opening_text p else codes "; before the kept history\n"

unfoldable pub left_line : Bool → State → Part → List ℕ
left_line opening x p = codes "left " ++ part_text x p ++ context_text x p ++ since_text opening p

abbrev pub left_text : Bool → State → List Place → List ℕ
left_text opening x wanted = flat_map (left_line opening x) (parts_left wanted)

-- Why an answer ends before its end.
abbrev pub lines_text : List ℕ
lines_text = codes "cut: there are more lines\n"

abbrev pub places_text : List ℕ
places_text = codes "cut: more than 4096 places are wanted\n"
