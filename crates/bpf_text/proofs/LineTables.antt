-- The rows of what is read of a listing's lines are those that the listing's definition says.
use Rattle.std.proofs.Common.{ℕ, ◌≡◌, ◌<◌, ◌+◌, List, [], ◌∷◌, ◌++◌, length, Some, None, Ok, Err, Result, Option, refl, ap, sym, ◌∙◌, subst, inl, inr, map, arith}
use Rattle.bpf_isa.specs.declared.instruction.Insn.{Insn}
use Rattle.bpf_text.specs.declared.fault.AsmFault.{AsmFault}
use Rattle.bpf_text.specs.declared.read.line.Line.{Line}
use Rattle.bpf_text.specs.declared.read.statement.Statement.{Statement}
use Rattle.counted_io.specs.Lines.{lines}
use Rattle.bpf_isa.specs.Programs.{slots_of}
use Rattle.bpf_isa.proofs.Spelling.{wide_or_not}
use Rattle.bpf_text.specs.Labels.{Labels, labels_with, no_label}
use Rattle.bpf_text.specs.LineGrammar.{LineReading}
use Rattle.bpf_text.specs.LineTable.{AreRows, IsLineTable, labels_and, row}
use Rattle.bpf_text.specs.Statements.{Takes}
use Rattle.bpf_text.specs.Listing.{Outline, outline_with, IsOutline, IsAssembled, IsListing}
use Rattle.counted_io.specs.Cuts.{before, after, trim}
use Rattle.bpf_text.specs.Scaffolding.Lines.{read_line, read_statement}
use Rattle.bpf_text.specs.Scaffolding.Rounds.{label_of, statement_of, statement_or_none}
use Rattle.bpf_text.specs.Scaffolding.Rows.{rows, slots_said}
use Rattle.counted_io.proofs.Cutting.{lines-cut}
use Rattle.bpf_text.proofs.ListingGrammar.{line-read, blank-read}
use Rattle.bpf_text.proofs.StatementGrammar.{slots_in, read-takes}

-- what a line without an instruction leaves, and what one with an instruction leaves
pub rows-none : (p k : ℕ) (labels labels' rest line left : List ℕ) (reading : LineReading Line) → 0 < length rest
    → line ≡ before 10 rest → left ≡ after 10 rest → reading ≡ read_line line → slots_said (statement_of reading) ≡ None
    → labels' ≡ labels_and labels (label_of reading)
    → rows p k labels (map read_line (lines rest)) ≡ rows p (k + 1) labels' (map read_line (lines left))
rows-none p k labels labels' rest line left reading h first others read none waits =
    let here : reading ≡ read_line (before 10 rest) = read ∙ ap read_line first in
    let without : slots_said (statement_of (read_line (before 10 rest))) ≡ None = ap (λ r. slots_said (statement_of r)) (sym here) ∙ none in
    let named : labels' ≡ labels_and labels (label_of (read_line (before 10 rest))) = waits ∙ ap (λ r. labels_and labels (label_of r)) here in
    rw (lines-cut rest h, without, others, named) refl

pub rows-some : (p k n : ℕ) (labels labels' rest line left : List ℕ) (reading : LineReading Line) → 0 < length rest
    → line ≡ before 10 rest → left ≡ after 10 rest → reading ≡ read_line line → slots_said (statement_of reading) ≡ Some n
    → labels' ≡ labels_and labels (label_of reading)
    → rows p k labels (map read_line (lines rest)) ≡ row p k labels' ++ rows (p + n) (k + 1) [] (map read_line (lines left))
rows-some p k n labels labels' rest line left reading h first others read some waits =
    let here : reading ≡ read_line (before 10 rest) = read ∙ ap read_line first in
    let with : slots_said (statement_of (read_line (before 10 rest))) ≡ Some n = ap (λ r. slots_said (statement_of r)) (sym here) ∙ some in
    let named : labels' ≡ labels_and labels (label_of (read_line (before 10 rest))) = waits ∙ ap (λ r. labels_and labels (label_of r)) here in
    rw (lines-cut rest h, with, others, named) refl

-- the rows of lines whose outline has no fault
said-slots : (insn : Insn) (said : LineReading (Option Statement)) → slots_in said ≡ Ok (slots_of insn)
    → slots_said (statement_or_none said) ≡ Some (slots_of insn)
said-slots insn (Ok None) e = absurd (elim (wide_or_not insn) [ inl wide ↦ (let clash : Ok 0 ≡ Ok 2 = e ∙ ap Ok wide.1 in cc) | inr narrow ↦ (let clash : Ok 0 ≡ Ok 1 = e ∙ ap Ok narrow.1 in cc) ])
said-slots insn (Ok (Some statement)) e = let same : slots_of statement.insn ≡ slots_of insn = cc in ap Some same
said-slots insn (Err fault) e = cc

are-rows : (labels : Labels) (p k : ℕ) (waiting : List ℕ) (text : List (List ℕ)) (outcome : Result Outline AsmFault) (outline : Outline)
    → IsOutline labels p k text outcome → outcome ≡ Ok outline → AreRows p k waiting text (rows p k waiting (map read_line text))
are-rows labels p k waiting [] outcome outline known e = refl
are-rows labels p k waiting (line ∷ more) outcome outline (inl known) e = let clash = sym known.2 ∙ e in cc
are-rows labels p k waiting (line ∷ more) outcome outline (inr known) e =
    at known.3 known.7 known.8 known.5
    (λ q names other is. are-rows (labels_with labels (record { line = k; slot = p }) known.0) q (k + 1) names more (Ok other) other is refl) where
      after-line : Labels
      after-line = labels_with labels (record { line = k; slot = p }) known.0

      reading : read_line line ≡ Ok (record { label = known.0; statement = read_statement (trim known.1) })
      reading = line-read line known.0 known.1 known.4.0

      at : (others : Result Outline AsmFault) → IsOutline after-line (p + known.2) (k + 1) more others
          → outcome ≡ outline_with (record { line = k; slot = p; rest = known.1 }) others → Takes p known.1 (Ok known.2)
          → ((q : ℕ) (names : List ℕ) (other : Outline) → IsOutline after-line q (k + 1) more (Ok other)
          → AreRows q (k + 1) names more (rows q (k + 1) names (map read_line more)))
          → AreRows p k waiting (line ∷ more) (rows p k waiting (map read_line (line ∷ more)))
      at (Err fault) is out takes next = let clash = sym out ∙ e in cc
      at (Ok other) is out (inl blank) next =
          let none : slots_said (statement_or_none (read_statement (trim known.1))) ≡ None =
          ap (λ s. slots_said (statement_or_none s)) (blank-read known.1 blank.0) in
          let same : p + known.2 ≡ p = omega (arith, blank.1) in
          let is-here = subst (λ q. IsOutline after-line q (k + 1) more (Ok other)) same is in
          rw (reading, none) (known.0, known.1, known.4.0, inl (blank.0, next p (labels_and waiting known.0) other is-here))
      at (Ok other) is out (inr says) next =
          let some : slots_said (statement_or_none (read_statement (trim known.1))) ≡ Some (slots_of says.1) =
          said-slots says.1 (read_statement (trim known.1)) (read-takes p known.1 (Ok known.2) (inr says) ∙ ap Ok says.3) in
          let is-here = subst (λ n. IsOutline after-line (p + n) (k + 1) more (Ok other)) says.3 is in
          rw (reading, some)
          (known.0, known.1, known.4.0, inr (says.0, says.1, _, says.2, next (p + slots_of says.1) [] other is-here, refl))

-- the table of a listing without a fault
pub is-line-table : (text words : List ℕ) → IsListing text words → IsLineTable text (rows 0 1 [] (map read_line (lines text)))
is-line-table text words known = go known.clear where
  go : IsAssembled text (Ok known.insns) → IsLineTable text (rows 0 1 [] (map read_line (lines text)))
  go (inl fault) = let clash = fault.2 in cc
  go (inr clear) = record {
    insns = known.insns;
    clear = known.clear;
    rows = are-rows no_label 0 1 [] (lines text) (Ok clear.0) clear.0 clear.1 refl;
  }
