-- Why a file is no trace: the first of its lines with a fault, each with a number and a text. bpfdb's own choice.
use Rattle.std.specs.Prelude.{ℕ, suc, nat_lt, if◌then◌else◌, List, [], ◌∷◌, Option, Some, None, codes, length}
use Rattle.std.specs.Option.{option_map_or}
use Rattle.counted_io.specs.Cuts.{trim}
use Rattle.counted_io.specs.Lines.{lines}
use Rattle.input_texts.specs.TraceForms.{fits, form_in, tells, told}
use Rattle.input_texts.specs.declared.trace_form.Form.{Form}
use Rattle.input_texts.specs.declared.trace_fault.LineFault.{LineFault}
use Rattle.input_texts.specs.declared.trace_fault.LineFault.TheVariants.{Long, NoForm, OtherForm}
use Rattle.input_texts.specs.declared.trace_fault.BadLine.{BadLine}

-- Their numbers and texts.
abbrev pub line_fault : LineFault → ℕ × List ℕ
line_fault Long = (1, codes "more than 1024 bytes")
line_fault NoForm = (2, codes "neither a line of trace nor a slot and eleven registers")
line_fault OtherForm = (3, codes "not of the form of the first line")

-- The bytes of a line, with the blanks around it.
abbrev pub longest_line : ℕ
longest_line = 1024

-- What is wrong with a line of a trace that has this form, or none.
abbrev pub misfit : Option Form → List ℕ → Option LineFault
misfit None line = Some NoForm
misfit (Some form) line = if fits form line then None else Some OtherForm

unfoldable pub wrong_in : Option Form → List ℕ → Option LineFault
wrong_in form line =
    if nat_lt longest_line (length line) then Some Long else if tells (trim line) then misfit form (trim line) else None

-- The first line with a fault, of lines numbered from k on; and that of a file.
abbrev pub first_bad : Option Form → ℕ → List (List ℕ) → Option BadLine
first_bad form k [] = None
first_bad form k (line ∷ rest) =
    option_map_or (λ fault. Some (record { fault = fault; line = k })) (wrong_in form line) (first_bad form (suc k) rest)

abbrev pub bad_line : List ℕ → Option BadLine
bad_line file = first_bad (form_in (told file)) 1 (lines file)
