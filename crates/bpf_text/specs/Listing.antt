-- A listing: its faults in two rounds, and its bytes. bpfdb's own choice.
use Rattle.std.specs.Prelude.{ℕ, ◌≡◌, ◌<◌, ◌≤◌, ◌+◌, ◌⊎◌, true, List, [], ◌∷◌, ◌++◌, Option, Some, None, Result, Ok, Err, ⊤}
use Rattle.std.specs.List.{list_all}
use Rattle.bpf_isa.specs.declared.instruction.Insn.{Insn}
use Rattle.bpf_isa.specs.Words.{IsWord}
use Rattle.bpf_isa.specs.Checker.{most_slots}
use Rattle.bpf_text.specs.declared.fault.LineFault.{LineFault}
use Rattle.bpf_text.specs.declared.fault.LineFault.TheVariants.{LabelTwice, NotText, TooManySlots}
use Rattle.bpf_text.specs.declared.fault.AsmFault.{AsmFault}
use Rattle.bpf_text.specs.declared.fault.AsmFault.TheVariants.{Line, Memory}
use Rattle.bpf_text.specs.declared.read.labels.Definition.{Definition}
use Rattle.counted_io.specs.Lines.{is_blank, lines}
use Rattle.bpf_text.specs.Labels.{Labels, no_label, labels_with, definition_of}
use Rattle.bpf_text.specs.LineGrammar.{IsLine, HasStranger}
use Rattle.bpf_text.specs.Statements.{Takes, Means}

-- A line without a label, or with one that no line before it has.
abbrev pub IsNew : Labels → List ℕ → Option (List ℕ) → List ℕ → Type 0
IsNew labels line label rest = IsLine line label rest × (definition_of labels label ≡ None)

-- What is wrong in the first round with a line in slot p, behind lines with these labels.
abbrev pub HasFault : Labels → ℕ → List ℕ → LineFault → Type 0
HasFault labels p line NotText = HasStranger line
HasFault labels p line (LabelTwice first) = (name rest : List ℕ) × IsLine line (Some name) rest
    × (d : Definition) × (labels name ≡ Some d) × (d.line ≡ first)
HasFault labels p line TooManySlots = (label : Option (List ℕ)) × (rest : List ℕ) × (n : ℕ) × IsNew labels line label rest
    × Takes p rest (Ok n) × (most_slots < p + n)
HasFault labels p line fault = (label : Option (List ℕ)) × (rest : List ℕ) × IsNew labels line label rest × Takes p rest (Err fault)

-- A text behind a label, in its place.
pub record Place : Type 0 where
  pub line : ℕ
  pub slot : ℕ
  pub rest : List ℕ

abbrev pub Outline : Type 0
Outline = Labels × List Place

abbrev pub outline_with : Place → Result Outline AsmFault → Result Outline AsmFault
outline_with place (Ok outline) = Ok (outline.0, place ∷ outline.1)
outline_with place (Err fault) = Err fault

-- The first round over lines, from slot p and line k on: all labels, and all texts in their places; or the first fault.
abbrev pub IsOutline : Labels → ℕ → ℕ → List (List ℕ) → Result Outline AsmFault → Type 0
IsOutline labels p k [] outcome = outcome ≡ Ok (labels, [])
IsOutline labels p k (line ∷ more) outcome =
    ((fault : LineFault) × HasFault labels p line fault × (outcome ≡ Err (Line fault k)))
    ⊎ ((label : Option (List ℕ)) × (rest : List ℕ) × (n : ℕ) × (others : Result Outline AsmFault)
    × IsNew labels line label rest × Takes p rest (Ok n) × (p + n ≤ most_slots)
    × IsOutline (labels_with labels (record { line = k; slot = p }) label) (p + n) (k + 1) more others
    × (outcome ≡ outline_with (record { line = k; slot = p; rest = rest }) others))

-- The second round over texts in their places, with all labels: their instructions, or the first fault.
abbrev pub insns_with : Insn → Result (List Insn) AsmFault → Result (List Insn) AsmFault
insns_with insn (Ok insns) = Ok (insn ∷ insns)
insns_with insn (Err fault) = Err fault

abbrev pub AreInsns : Labels → List Place → Result (List Insn) AsmFault → Type 0
AreInsns labels [] outcome = outcome ≡ Ok []
AreInsns labels (place ∷ more) outcome =
    ((list_all is_blank place.rest ≡ true) × AreInsns labels more outcome)
    ⊎ ((fault : LineFault) × Means labels place.slot place.rest (Err fault) × (outcome ≡ Err (Line fault place.line)))
    ⊎ ((insn : Insn) × (others : Result (List Insn) AsmFault) × Means labels place.slot place.rest (Ok insn)
    × AreInsns labels more others × (outcome ≡ insns_with insn others))

-- Both rounds over a listing: its instructions, or its first fault.
abbrev pub IsAssembled : List ℕ → Result (List Insn) AsmFault → Type 0
IsAssembled text outcome = ((fault : AsmFault) × IsOutline no_label 0 1 (lines text) (Err fault) × (outcome ≡ Err fault))
    ⊎ ((outline : Outline) × IsOutline no_label 0 1 (lines text) (Ok outline) × AreInsns outline.0 outline.1 outcome)

-- The bytes of instructions, one behind the other.
abbrev pub AreWords : List Insn → List ℕ → Type 0
AreWords [] bytes = bytes ≡ []
AreWords (insn ∷ rest) bytes = (word more : List ℕ) × (bytes ≡ word ++ more) × IsWord insn word × AreWords rest more

-- A listing without a fault, and its bytes.
pub record IsListing (text bytes : List ℕ) : Type 0 where
  pub insns : List Insn
  pub clear : IsAssembled text (Ok insns)
  pub spelled : AreWords insns bytes

-- Want of memory may be answered instead of a fault; else it is the listing's.
abbrev pub IsFaultOf : List ℕ → AsmFault → Type 0
IsFaultOf text Memory = ⊤
IsFaultOf text (Line fault k) = IsAssembled text (Err (Line fault k))
