-- The lines of the canonical listing.
use Rattle.std.proofs.Common.{ℕ, ◌≡◌, ◌<◌, ◌+◌, ◌^◌, Bool, true, false, List, [], ◌∷◌, ◌++◌, length, refl, ap, ◌∙◌, arith, codes, Option, Some, None, append_assoc}
use Rattle.bpf_isa.specs.declared.instruction.Insn.{Insn}
use Rattle.counted_io.specs.Lines.{lines}
use Rattle.bpf_text.specs.Operands.{text_of_insn, label_text}
use Rattle.bpf_text.specs.Canonical.{slot_lines, lines_from}
use Rattle.counted_io.proofs.Lines.{lines-first}
use Rattle.bpf_text.specs.Labels.{Labels}
use Rattle.bpf_text.specs.Operands.{operands_of}
use Rattle.bpf_text.specs.Statements.{short_offset}
use Rattle.bpf_text.specs.Written.{IsWithin}
use Rattle.bpf_text.proofs.CanonicalTexts.{OperandsFit, insn-line, label-line}

-- the line of a label, if there is one
abbrev pub label_lines : Bool → ℕ → List (List ℕ)
label_lines false p = []
label_lines true p = (label_text p ++ codes ":") ∷ []

-- the lines of the slots from p on
abbrev pub slot_list : Bool → ℕ → Option Insn → List (List ℕ)
slot_list labelled p None = []
slot_list labelled p (Some i) = label_lines labelled p ++ (text_of_insn p i ∷ [])

abbrev pub line_list : (ℕ → Bool) → ℕ → List (Option Insn) → List (List ℕ)
line_list f p [] = []
line_list f p (i ∷ rest) = slot_list (f p) p i ++ line_list f (p + 1) rest

-- each instruction from p on is in its ranges, and has its target
abbrev pub EntryFits : Labels → ℕ → Option Insn → Type 0
EntryFits labels p None = Unit {0}
EntryFits labels p (Some i) = OperandsFit labels (operands_of p i) × IsWithin (2 ^ 15) (2 ^ 15) (short_offset i)

abbrev pub AllFit : Labels → ℕ → List (Option Insn) → Type 0
AllFit labels p [] = Unit {0}
AllFit labels p (i ∷ rest) = EntryFits labels p i × AllFit labels (p + 1) rest

-- two line feeds
feeds : (label text rest : List ℕ)
    → ((label ++ 58 ∷ 10 ∷ []) ++ text ++ 10 ∷ []) ++ rest ≡ (label ++ 58 ∷ []) ++ 10 ∷ (text ++ 10 ∷ rest)
feeds label text rest = simp append_assoc

-- the lines of a slot and of what follows
lines-slot : (labels : Labels) (labelled : Bool) (p : ℕ) (i : Option Insn) (rest : List ℕ) → p < 2 ^ 64 → EntryFits labels p i
    → lines (slot_lines labelled p i ++ rest) ≡ slot_list labelled p i ++ lines rest
lines-slot labels labelled p None rest h fits = refl
lines-slot labels false p (Some i) rest h fits =
    let read = insn-line labels p i fits.0 in
    rw (append_assoc (text_of_insn p i) (10 ∷ []) rest) (lines-first (text_of_insn p i) rest read.feedless)
lines-slot labels true p (Some i) rest h fits =
    let read = insn-line labels p i fits.0 in
    let named = label-line p h in
    let text = text_of_insn p i in
    let label = label_text p ++ codes ":" in
    ap lines (feeds (label_text p) text rest)
    ∙ lines-first label (text ++ 10 ∷ rest) named.feedless
    ∙ ap (λ l. label ∷ l) (lines-first text rest read.feedless)

-- the lines of all slots
pub lines-listing : (labels : Labels) (f : ℕ → Bool) (p : ℕ) (insns : List (Option Insn)) → p + length insns < 2 ^ 64 → AllFit labels p insns
    → lines (lines_from f p insns) ≡ line_list f p insns
lines-listing labels f p [] h fits = refl
lines-listing labels f p (i ∷ rest) h fits =
    lines-slot labels (f p) p i (lines_from f (p + 1) rest) (omega arith) fits.0
    ∙ ap (λ l. slot_list (f p) p i ++ l) (lines-listing labels f (p + 1) rest (omega arith) fits.1)
