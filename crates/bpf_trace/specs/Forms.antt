-- What is told of a part of the machine in a row of a trace: in a line of text, or in an object of JSON (RFC 8259). bpfdb's own choice. A name of a part,
-- a number and an instruction are of digits, letters, blanks and signs that stand in a string of JSON as they are.
use Rattle.std.specs.Prelude.{ℕ, nat_lt, ◌&&◌, if◌then◌else◌, List, [], ◌∷◌, ◌++◌, codes, decimal}
use Rattle.std.specs.Option.{option_map_or}
use Rattle.byteorder.specs.Endian.{little_number}
use Rattle.counted_io.specs.Writing.{hexadecimal}
use Rattle.bpf_isa.specs.declared.instruction.Insn.{Insn}
use Rattle.bpf_isa.specs.declared.instruction.Insn.TheVariants as insn
use Rattle.bpf_isa.specs.declared.instruction.Source.{Source}
use Rattle.bpf_isa.specs.declared.instruction.Source.TheVariants.{Immediate, Register}
use Rattle.bpf_steps.specs.Regions.{run_at}
use Rattle.bpf_steps.specs.State.{State, register}
use Rattle.bpf_origin.specs.Places.{value}
use Rattle.bpf_origin.specs.Texts.{compared_text, part_name}
use Rattle.bpf_origin.specs.declared.place.Part.{Part}
use Rattle.bpf_origin.specs.declared.place.Part.TheVariants as part
use Rattle.bpf_origin.specs.declared.place.Place.TheVariants as place
use Rattle.bpf_trace.specs.declared.form.Form.{Form}
use Rattle.bpf_trace.specs.declared.form.Form.TheVariants.{Text, Json}

-- What stands before a part, before its value, behind it, and between two of them.
abbrev pub part_lead : Form → List ℕ
part_lead Text = codes "; "
part_lead Json = codes "{\"part\":\""

abbrev pub value_lead : Form → List ℕ
value_lead Text = codes " = "
value_lead Json = codes "\",\"value\":\""

abbrev pub part_tail : Form → List ℕ
part_tail Text = []
part_tail Json = codes "\"}"

abbrev pub comma : Form → List ℕ
comma Text = []
comma Json = codes ","

-- A value; that of a part: of bytes only where they make a number, of at most eight.
unfoldable pub value_in : Form → ℕ → List ℕ
value_in form v = value_lead form ++ hexadecimal v

abbrev pub bytes_value_in : Form → State → ℕ → ℕ → List ℕ
bytes_value_in form y a n =
    if nat_lt 0 n && nat_lt n 9 then option_map_or (λ run. value_in form (little_number n run)) (run_at y.memory a n) [] else []

abbrev pub part_value_in : Form → State → Part → List ℕ
part_value_in form y (part.Register d r) = value_in form (value y (place.Register d r))
part_value_in form y (part.Word i) = value_in form (value y (place.Word i))
part_value_in form y (part.Bytes a n) = bytes_value_in form y a n

-- A part with its value; several.
unfoldable pub part_in : Form → State → Part → List ℕ
part_in form y p = part_lead form ++ part_name p ++ part_value_in form y p ++ part_tail form

abbrev pub parts_behind : Form → State → List Part → List ℕ
parts_behind form y [] = []
parts_behind form y (p ∷ ps) = comma form ++ part_in form y p ++ parts_behind form y ps

abbrev pub parts_in : Form → State → List Part → List ℕ
parts_in form y [] = []
parts_in form y (p ∷ ps) = part_in form y p ++ parts_behind form y ps

-- A register that a conditional jump compares, as all lines of branches tell it, and a second one, where it isn't a number.
unfoldable pub compared_object : State → ℕ → List ℕ
compared_object x r = codes "{\"part\":\"r" ++ decimal r ++ codes "\",\"value\":\"" ++ hexadecimal (register x r) ++ codes "\"}"

abbrev pub compared_in : Form → State → ℕ → List ℕ
compared_in Text x r = compared_text x r
compared_in Json x r = compared_object x r

abbrev pub source_in : Form → State → Source → List ℕ
source_in form x (Immediate imm) = []
source_in form x (Register r) = comma form ++ compared_in form x r

abbrev pub operands_in : Form → State → Insn → List ℕ
operands_in form x (insn.JumpIf condition width dst source offset) = compared_in form x dst ++ source_in form x source
operands_in form x _ = []
