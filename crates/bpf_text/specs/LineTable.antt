-- The table of a listing's lines: a row an instruction, with its slot, its line and the labels that stand at it. bpfdb's own choice.
use Rattle.std.specs.Prelude.{ℕ, ◌≡◌, ◌+◌, ◌⊎◌, true, List, [], ◌∷◌, ◌++◌, Option, Some, None, Ok, decimal, codes}
use Rattle.std.specs.List.{list_all}
use Rattle.bpf_isa.specs.declared.instruction.Insn.{Insn}
use Rattle.bpf_isa.specs.Programs.{slots_of}
use Rattle.counted_io.specs.Lines.{is_blank, lines}
use Rattle.bpf_text.specs.Labels.{Labels}
use Rattle.bpf_text.specs.LineGrammar.{IsLine}
use Rattle.bpf_text.specs.Listing.{IsAssembled}
use Rattle.bpf_text.specs.Statements.{SaysInsn}

-- Labels one behind another, each behind a blank (32): those of some lines, and that of one line more.
abbrev pub labels_and : List ℕ → Option (List ℕ) → List ℕ
labels_and labels None = labels
labels_and labels (Some name) = labels ++ 32 ∷ name

-- The row of an instruction in slot p and line k, at which these labels stand.
abbrev pub row : ℕ → ℕ → List ℕ → List ℕ
row p k labels = decimal p ++ codes " " ++ decimal k ++ labels ++ codes "\n"

-- The rows of lines, from slot p and line k on, where these labels wait for their instruction: none of a blank line, and one of an instruction.
abbrev pub AreRows : ℕ → ℕ → List ℕ → List (List ℕ) → List ℕ → Type 0
AreRows p k waiting [] rows = rows ≡ []
AreRows p k waiting (line ∷ more) rows = (label : Option (List ℕ)) × (rest : List ℕ) × IsLine line label rest
    × (((list_all is_blank rest ≡ true) × AreRows p (k + 1) (labels_and waiting label) more rows)
    ⊎ ((labels : Labels) × (insn : Insn) × (others : List ℕ) × SaysInsn labels p rest insn × AreRows (p + slots_of insn) (k + 1) [] more others
    × (rows ≡ row p k (labels_and waiting label) ++ others)))

-- A listing without a fault, and its table.
pub record IsLineTable (text table : List ℕ) : Type 0 where
  pub insns : List Insn
  pub clear : IsAssembled text (Ok insns)
  pub rows : AreRows 0 1 [] (lines text) table
