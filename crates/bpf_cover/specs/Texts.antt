-- The texts of a program's instructions.
use Rattle.std.specs.Prelude.{◌≤◌, ℕ, List, [], length, map, slice_range}
use Rattle.std.specs.List.{range_with_len}
use Rattle.std.specs.Option.{option_map_or}
use Rattle.bpf_isa.specs.Programs.{Checked, insn_at}
use Rattle.bpfdb_script.specs.Texts.{text_at}
use Rattle.bpf_cover.specs.declared.texts.Span.{Span}

-- The text of the instruction that starts at a slot, with the slot; nothing where none does.
abbrev pub slot_text : Checked → ℕ → List ℕ
slot_text program slot = option_map_or (λ i. text_at program slot) (insn_at program slot) []

-- The same, slot by slot.
abbrev pub texts_of : Checked → List (List ℕ)
texts_of program = map (slot_text program) (range_with_len 0 (length program.insns))

-- A text that lies among others, and that it does.
abbrev pub text_in : List ℕ → Span → List ℕ
text_in bytes span = slice_range bytes span.start span.end

abbrev pub LiesIn : List ℕ → Span → Type 0
LiesIn bytes span = (span.start ≤ span.end) × (span.end ≤ length bytes)
