-- Laws of listings.
use Rattle.std.specs.Prelude.{ℕ, ◌≡◌, List, Option, Some, None}
use Rattle.bpf_isa.specs.declared.instruction.Insn.{Insn}
use Rattle.bpf_isa.specs.declared.mnemonic.Mnemonic.{Mnemonic}
use Rattle.bpf_text.specs.declared.fault.LineFault.{LineFault}
use Rattle.bpf_text.specs.declared.fault.AsmFault.TheVariants.{Line as AtLine}
use Rattle.bpf_text.specs.Labels.{Labels}
use Rattle.bpf_text.specs.LineGrammar.{LineReading, IsLine, HasStranger}
use Rattle.bpf_text.specs.Listing.{IsListing, IsFaultOf}
use Rattle.bpf_text.specs.Mnemonics.{name_of}
use Rattle.bpf_text.specs.Statements.{SaysInsn, Takes}

-- No two mnemonics have one name.
abbrev pub HaveOneMnemonic : Type 0
HaveOneMnemonic = (a b : Mnemonic) → name_of a ≡ name_of b → a ≡ b

-- Where labels are known, a text says one instruction at most.
abbrev pub HaveOneInsn : Type 0
HaveOneInsn = (labels : Labels) (p : ℕ) (s : List ℕ) (a b : Insn) → SaysInsn labels p s a → SaysInsn labels p s b → a ≡ b

-- A text behind a label takes so many slots, or has one fault, and not both.
pub record HasOneSize (p : ℕ) (s : List ℕ) : Type 0 where
  pub size : LineReading ℕ
  pub takes : Takes p s size
  pub only : (other : LineReading ℕ) → Takes p s other → other ≡ size

abbrev pub HaveOneSize : Type 0
HaveOneSize = (p : ℕ) (s : List ℕ) → HasOneSize p s

-- A line has one label, or none, and one text behind it; or a byte outside text, and not both.
abbrev pub IsCut : List ℕ → Option (Option (List ℕ) × List ℕ) → Type 0
IsCut line None = HasStranger line
IsCut line (Some cut) = IsLine line cut.0 cut.1

pub record HasOneCut (line : List ℕ) : Type 0 where
  pub cut : Option (Option (List ℕ) × List ℕ)
  pub is : IsCut line cut
  pub only : (other : Option (Option (List ℕ) × List ℕ)) → IsCut line other → other ≡ cut

abbrev pub HaveOneCut : Type 0
HaveOneCut = (line : List ℕ) → HasOneCut line

-- A listing has the bytes of one program or one fault of a line, and not both.
pub record HaveOneAssembly : Type 0 where
  pub bytes : (text a b : List ℕ) → IsListing text a → IsListing text b → a ≡ b
  pub fault : (text : List ℕ) (a b : LineFault) (m n : ℕ) → IsFaultOf text (AtLine a m) → IsFaultOf text (AtLine b n)
      → AtLine a m ≡ AtLine b n
  pub either : (text bytes : List ℕ) (fault : LineFault) (n : ℕ) → IsListing text bytes → IsFaultOf text (AtLine fault n) → ⊥
