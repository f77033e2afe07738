-- The rounds over a listing, line by line and statement by statement.
use Rattle.std.proofs.Common.{ℕ, ◌≡◌, ◌<◌, ◌+◌, ◌++◌, append_assoc, List, [], ◌∷◌, length, Ok, Err, Result, refl, ap, sym, ◌∙◌, map, take, drop, get_or}
use mathlib.Core.Path.{fun_ext}
use Rattle.std.proofs.lemmas.List.{append-nil, take_more, take-append-drop}
use Rattle.bpf_isa.specs.declared.instruction.Insn.{Insn}
use Rattle.bpf_isa.specs.Words.{IsWord}
use Rattle.bpf_text.specs.declared.fault.LineFault.{LineFault}
use Rattle.bpf_text.specs.declared.fault.AsmFault.{AsmFault}
use Rattle.bpf_text.specs.declared.fault.AsmFault.TheVariants.{Line}
use Rattle.bpf_text.specs.declared.read.first_round.Placed.{Placed}
use Rattle.bpf_text.specs.declared.read.line.Line.{Line as LineSaid}
use Rattle.counted_io.specs.Lines.{lines}
use Rattle.counted_io.specs.Cuts.{before, after}
use Rattle.bpf_text.specs.Scaffolding.Lines.{read_line}
use Rattle.bpf_text.specs.LineGrammar.{LineReading}
use Rattle.bpf_text.specs.Scaffolding.Rounds.{Labels, Collected, labels_with, label_of, placed_with, statement_of, line_end, first_round, second_round, insn_at, insns_with, AreWords}
use Rattle.counted_io.proofs.Cutting.{lines-cut}

-- the first round at a line that has a fault
pub first_round-Err : (outline : Collected) (slot line_number : ℕ) (rest line : List ℕ) (reading : LineReading LineSaid) (fault : LineFault)
    → 0 < length rest → line ≡ before 10 rest → reading ≡ read_line line → line_end outline.0 slot reading ≡ Err fault
    → first_round outline slot line_number (map read_line (lines rest)) ≡ Err (Line fault line_number)
first_round-Err outline slot line_number rest line reading fault h first read e =
    let end : line_end outline.0 slot (read_line (before 10 rest)) ≡ Err fault =
    ap (line_end outline.0 slot) (sym (read ∙ ap read_line first)) ∙ e in
    rw (lines-cut rest h, end) refl

-- the first round at a line that has none, and what it leaves
pub first_round-Ok : (outline found : Collected) (slot line_number : ℕ) (rest line left : List ℕ) (reading : LineReading LineSaid)
    (next : ℕ) → 0 < length rest → line ≡ before 10 rest → left ≡ after 10 rest
    → reading ≡ read_line line → line_end outline.0 slot reading ≡ Ok next
    → ((q : List ℕ) → found.0 q ≡ labels_with outline.0 (record { line = line_number; slot = slot }) (label_of reading) q)
    → found.1 ≡ placed_with outline.1 slot line_number (statement_of reading)
    → first_round found next (line_number + 1) (map read_line (lines left))
    ≡ first_round outline slot line_number (map read_line (lines rest))
first_round-Ok outline found slot line_number rest line left reading next h first others read e labels placed =
    let here : reading ≡ read_line (before 10 rest) = read ∙ ap read_line first in
    let labelled : found.0 ≡ labels_with outline.0 (record { line = line_number; slot = slot }) (label_of (read_line (before 10 rest))) =
    fun_ext labels ∙ ap (λ r. labels_with outline.0 (record { line = line_number; slot = slot }) (label_of r)) here in
    let stated : found.1 ≡ placed_with outline.1 slot line_number (statement_of (read_line (before 10 rest))) =
    placed ∙ ap (λ r. placed_with outline.1 slot line_number (statement_of r)) here in
    let end : line_end outline.0 slot (read_line (before 10 rest)) ≡ Ok next = ap (line_end outline.0 slot) (sym here) ∙ e in
    rw (lines-cut rest h, end, others, ← labelled, ← stated) refl

-- what some statements give stands before what the others give
abbrev pub all_with : List Insn → Result (List Insn) AsmFault → Result (List Insn) AsmFault
all_with [] rest = rest
all_with (insn ∷ insns) rest = insns_with insn (all_with insns rest)

second_round-append : (labels : Labels) (front back : List Placed) (done : List Insn) → second_round labels front ≡ Ok done
    → second_round labels (front ++ back) ≡ all_with done (second_round labels back)
second_round-append labels [] back done e = let same : [] ≡ done = cc in ap (λ d. all_with d (second_round labels back)) same
second_round-append labels (x ∷ front) back done e =
    go (insn_at labels x) (second_round labels front) refl refl (λ more known. second_round-append labels front back more known) where
      go : (i : LineReading Insn) (r : Result (List Insn) AsmFault) → insn_at labels x ≡ i → second_round labels front ≡ r
          → ((more : List Insn) → second_round labels front ≡ Ok more → second_round labels (front ++ back) ≡ all_with more (second_round labels back))
          → second_round labels (x ∷ (front ++ back)) ≡ all_with done (second_round labels back)
      go (Err fault) r here there next = let known = rw here at e in cc
      go (Ok insn) (Err fault) here there next = let known = rw (here, there) at e in cc
      go (Ok insn) (Ok more) here there next =
          let known : Ok (insn ∷ more) ≡ Ok done = rw (here, there) at e in
          let same : insn ∷ more ≡ done = cc in
          rw here (ap (insns_with insn) (next more there)) ∙ ap (λ d. all_with d (second_round labels back)) same

all_with-one : (done : List Insn) (insn : Insn) → all_with done (Ok (insn ∷ [])) ≡ Ok (done ++ insn ∷ [])
all_with-one [] insn = refl
all_with-one (i ∷ done) insn = ap (insns_with i) (all_with-one done insn)

all_with-Err : (done : List Insn) (fault : AsmFault) → all_with done (Err fault) ≡ Err fault
all_with-Err [] fault = refl
all_with-Err (i ∷ done) fault = ap (insns_with i) (all_with-Err done fault)

-- the bytes of one instruction more
AreWords-more : (done : List Insn) (bytes : List ℕ) (insn : Insn) (word : List ℕ) → AreWords done bytes → IsWord insn word
    → AreWords (done ++ insn ∷ []) (bytes ++ word)
AreWords-more [] bytes insn word known whole =
    (word, [], ap (λ b. b ++ word) known ∙ sym (append-nil word), whole, refl)
AreWords-more (i ∷ done) bytes insn word known whole = (
  known.0,
  known.1 ++ word,
  ap (λ b. b ++ word) known.2 ∙ append_assoc known.0 known.1 word,
  known.3,
  AreWords-more done known.1 insn word known.4 whole,
)

-- one statement more
one-more : (all : List Placed) (k : ℕ) (x : Placed) → k < length all → x ≡ get_or all k x → take (k + 1) all ≡ take k all ++ x ∷ []
one-more all k x h here = take_more all k x h ∙ ap (λ y. take k all ++ y ∷ []) (sym here)

-- the second round at a statement that has a fault
pub second_round-Err : (labels : Labels) (all : List Placed) (k : ℕ) (x : Placed) (fault : LineFault) (done : List Insn) → k < length all
    → x ≡ get_or all k x → second_round labels (take k all) ≡ Ok done → insn_at labels x ≡ Err fault
    → second_round labels all ≡ Err (Line fault x.line)
second_round-Err labels all k x fault done h here before e =
    let whole : take k all ++ x ∷ drop (k + 1) all ≡ all =
    sym (append_assoc (take k all) (x ∷ []) (drop (k + 1) all)) ∙ ap (λ l. l ++ drop (k + 1) all) (sym (one-more all k x h here))
    ∙ take-append-drop (k + 1) all in
    let there : second_round labels (x ∷ drop (k + 1) all) ≡ Err (Line fault x.line) = rw e refl in
    ap (second_round labels) (sym whole) ∙ second_round-append labels (take k all) (x ∷ drop (k + 1) all) done before
    ∙ ap (all_with done) there ∙ all_with-Err done (Line fault x.line)

-- the second round at a statement that has none
pub record IsDone (labels : Labels) (all : List Placed) (k : ℕ) (bytes : List ℕ) : Type 0 where
  pub insns : List Insn
  pub clear : second_round labels (take k all) ≡ Ok insns
  pub spelled : AreWords insns bytes

pub second_round-Ok : (labels : Labels) (all : List Placed) (k : ℕ) (x : Placed) (insn : Insn) (bytes word : List ℕ) → k < length all
    → x ≡ get_or all k x → insn_at labels x ≡ Ok insn → IsWord insn word → IsDone labels all k bytes
    → IsDone labels all (k + 1) (bytes ++ word)
second_round-Ok labels all k x insn bytes word h here e whole known =
    let more = one-more all k x h here in
    let there : second_round labels (x ∷ []) ≡ Ok (insn ∷ []) = rw e refl in record {
      insns = known.insns ++ insn ∷ [];
      clear = ap (second_round labels) more ∙ second_round-append labels (take k all) (x ∷ []) known.insns known.clear
          ∙ ap (all_with known.insns) there ∙ all_with-one known.insns insn;
      spelled = AreWords-more known.insns bytes insn word known.spelled whole;
    }
