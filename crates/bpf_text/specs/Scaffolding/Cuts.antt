-- Scaffolding: how a line is cut as it is read.
use Rattle.std.specs.Prelude.{ℕ, Bool, ◌==◌, ◌&&◌, nat_lt, List, length}
use Rattle.std.specs.List.{position_or_len, before_first, after_first}
use Rattle.counted_io.specs.Lines.{is_blank}
use Rattle.counted_io.specs.Cuts.{before, after, trim}
use Rattle.bpf_text.specs.Characters.{is_name}

-- The code of a line: what stands before its comment.
abbrev pub without_comment : List ℕ → List ℕ
without_comment line = before 59 line

-- Whether a colon stands directly after a name.
abbrev pub is_labelled : List ℕ → Bool
is_labelled s = nat_lt (position_or_len (λ b. b == 58) s) (length s) && is_name (before 58 s)

-- The mnemonic of an instruction: all up to the next blank.
abbrev pub mnemonic_part : List ℕ → List ℕ
mnemonic_part body = before_first is_blank body

-- The operands of an instruction.
abbrev pub operands_part : List ℕ → List ℕ
operands_part body = trim (after_first is_blank body)

-- The first operand, and those after it.
abbrev pub first_operand : List ℕ → List ℕ
first_operand s = trim (before 44 s)

abbrev pub other_operands : List ℕ → List ℕ
other_operands s = trim (after 44 s)
