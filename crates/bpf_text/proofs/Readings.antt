-- What is read of a line, in words of its pieces.
use Rattle.std.specs.Prelude.{ℕ, ◌≡◌, ◌==◌, not, true, List, ◌++◌, Option, Some, None, Ok, Err}
use Rattle.std.specs.List.{list_all}
use Rattle.bpf_isa.specs.declared.mnemonic.Mnemonic.{Mnemonic}
use Rattle.bpf_text.specs.declared.fault.LineFault.TheVariants.{UnknownMnemonic, WrongOperands, OutOfRange, NotText}
use Rattle.bpf_text.specs.declared.read.line.Line.{Line}
use Rattle.bpf_text.specs.declared.read.statement.Statement.{Statement}
use Rattle.bpf_text.specs.declared.read.term.Terms.{Terms}
use Rattle.counted_io.specs.Lines.{is_blank}
use Rattle.bpf_text.specs.Characters.{is_text}
use Rattle.bpf_text.specs.LineGrammar.{LineReading, IsComment, IsLabel, IsInstruction, HasStranger}
use Rattle.bpf_text.specs.Mnemonics.{name_of}
use Rattle.bpf_text.proofs.Grammar.{AreOperands}
use Rattle.bpf_text.specs.Scaffolding.Instructions.{forms_of, insn_with, target_in}

-- What stands after a label: blanks alone; an instruction of a mnemonic, its operands and numbers in their ranges; or what is
-- wrong with it.
abbrev pub IsStatement : List ℕ → LineReading (Option Statement) → Type 0
IsStatement s (Ok None) = list_all is_blank s ≡ true
IsStatement s (Ok (Some said)) = (mnemonic : Mnemonic) × (operands : List ℕ) × (terms : Terms)
    × IsInstruction s (name_of mnemonic) operands × AreOperands (forms_of mnemonic) operands terms
    × (insn_with mnemonic terms ≡ Some said.insn) × (target_in terms ≡ said.target)
IsStatement s (Err UnknownMnemonic) = (word operands : List ℕ) × IsInstruction s word operands
    × ((mnemonic : Mnemonic) → name_of mnemonic ≡ word → ⊥)
IsStatement s (Err WrongOperands) = (mnemonic : Mnemonic) × (operands : List ℕ) × IsInstruction s (name_of mnemonic) operands
    × ((terms : Terms) → AreOperands (forms_of mnemonic) operands terms → ⊥)
IsStatement s (Err OutOfRange) = (mnemonic : Mnemonic) × (operands : List ℕ) × (terms : Terms)
    × IsInstruction s (name_of mnemonic) operands × AreOperands (forms_of mnemonic) operands terms × (insn_with mnemonic terms ≡ None)
IsStatement s (Err _) = ⊥

-- What a line says: text without a semicolon, in which a label and a statement stand, and a comment.
pub record Says (line : List ℕ) (said : Line) : Type 0 where
  pub code : List ℕ
  pub rest : List ℕ
  pub comment : List ℕ
  pub written : line ≡ code ++ comment
  pub text : list_all is_text code ≡ true
  pub plain : list_all (λ b. not (b == 59)) code ≡ true
  pub comments : IsComment comment
  pub labels : IsLabel said.label code rest
  pub states : IsStatement rest said.statement

-- What is read of a line.
abbrev pub IsReading : List ℕ → LineReading Line → Type 0
IsReading line (Ok said) = Says line said
IsReading line (Err NotText) = HasStranger line
IsReading line (Err _) = ⊥
