-- What the rounds over what is read of a listing's lines come to is what the listing's definition says.
use Rattle.std.proofs.Common.{ℕ, ◌≡◌, ◌<◌, ◌≤◌, ◌+◌, Bool, true, false, nat_le, List, [], ◌∷◌, ◌++◌, refl, ap, sym, ◌∙◌, subst, arith, inl, inr, append_assoc, map, Option, Some, None, Ok, Err, Result}
use Rattle.std.specs.List.{list_all}
use Rattle.std.proofs.lemmas.Bool.Decides.{nat_tests}
use Rattle.std.proofs.lemmas.List.{append-nil}
use Rattle.bpf_isa.specs.Checker.{most_slots}
use Rattle.bpf_isa.specs.declared.instruction.Insn.{Insn}
use Rattle.bpf_isa.specs.Programs.{slots_of}
use Rattle.bpf_text.specs.declared.fault.LineFault.{LineFault}
use Rattle.bpf_text.specs.declared.fault.LineFault.TheVariants.{UnknownMnemonic, WrongOperands, OutOfRange, TooFar, LabelTwice, UnknownLabel, NotText, TooManySlots}
use Rattle.bpf_text.specs.declared.fault.AsmFault.{AsmFault}
use Rattle.bpf_text.specs.declared.fault.AsmFault.TheVariants.{Line}
use Rattle.bpf_text.specs.declared.read.first_round.Placed.{Placed}
use Rattle.bpf_text.specs.declared.read.labels.Definition.{Definition}
use Rattle.bpf_text.specs.declared.read.line.Line.{Line as LineSaid}
use Rattle.bpf_text.specs.declared.read.statement.Statement.{Statement}
use Rattle.counted_io.specs.Lines.{is_blank, lines}
use Rattle.bpf_text.specs.Labels.{Labels, no_label, labels_with, definition_of}
use Rattle.bpf_text.specs.Laws.{IsCut, HasOneCut}
use Rattle.bpf_text.specs.LineGrammar.{LineReading, IsLabel, IsLine, HasStranger}
use Rattle.bpf_text.specs.Statements.{Takes, Means}
use Rattle.bpf_text.specs.Listing.{IsNew, HasFault, Place, Outline, outline_with, IsOutline, insns_with, AreInsns, IsAssembled}
use Rattle.counted_io.specs.Cuts.{trim}
use Rattle.bpf_text.specs.Scaffolding.Cuts.{without_comment}
use Rattle.bpf_text.specs.Scaffolding.Lines.{read_line, read_statement}
use Rattle.bpf_text.proofs.Readings.{IsReading, IsStatement}
use Rattle.bpf_text.specs.Scaffolding.Rounds.{Collected, statement_or_none, slot_after, unless_defined, line_end, placed_with, first_round, second_round, with_target, after_first_round, rounds}
use Rattle.bpf_text.proofs.LineGrammar.{says-line, line-reads, says-statement, statement-reads, says-labelled, code-before}
use Rattle.bpf_text.proofs.StatementGrammar.{slots_in, takes-read, read-takes, means-read, read-means}

-- ---- lines

pub line-read : (line : List ℕ) (label : Option (List ℕ)) (rest : List ℕ) → IsLine line label rest
    → read_line line ≡ Ok (record { label = label; statement = read_statement (trim rest) })
line-read line label rest k = says-line line (Ok (record { label = label; statement = read_statement (trim rest) })) (record {
  code = k.code;
  rest = rest;
  comment = k.comment;
  written = k.written;
  text = k.text;
  plain = k.plain;
  comments = k.comments;
  labels = k.labels;
  states = statement-reads rest;
})

-- a line is cut, or has a byte outside text
data IsCutOrNot (line : List ℕ) : Type 0 where
  strange : HasStranger line → IsCutOrNot line
  cut : (label : Option (List ℕ)) (rest : List ℕ) → IsLine line label rest → IsCutOrNot line

cut-or-not : (line : List ℕ) → IsCutOrNot line
cut-or-not line = go (read_line line) (line-reads line) where
  go : (r : LineReading LineSaid) → IsReading line r → IsCutOrNot line
  go (Ok said) k = cut said.label k.rest (record {
    code = k.code;
    comment = k.comment;
    written = k.written;
    text = k.text;
    plain = k.plain;
    comments = k.comments;
    labels = k.labels;
  })
  go (Err NotText) k = strange k
  go (Err UnknownMnemonic) k = absurd k
  go (Err WrongOperands) k = absurd k
  go (Err OutOfRange) k = absurd k
  go (Err (TooFar distance)) k = absurd k
  go (Err (LabelTwice first)) k = absurd k
  go (Err UnknownLabel) k = absurd k
  go (Err TooManySlots) k = absurd k

-- ---- slots

slot-at : (p n : ℕ) (r : LineReading (Option Statement)) → slots_in r ≡ Ok n → p + n ≤ most_slots → slot_after p r ≡ Ok (p + n)
slot-at p n (Ok None) e h = let same : 0 ≡ n = cc in ap Ok (omega (arith, same))
slot-at p n (Ok (Some said)) e h =
    let same : slots_of said.insn ≡ n = cc in
    let within : nat_le (p + slots_of said.insn) most_slots ≡ true = less (p + slots_of said.insn) (omega (arith, h, same)) in
    rw within (ap (λ k. Ok (p + k)) same) where
      less : (a : ℕ) → a ≤ most_slots → nat_le a most_slots ≡ true
      less a h = grind (arith, nat_tests)
slot-at p n (Err fault) e h = cc

slot-past : (p n : ℕ) (r : LineReading (Option Statement)) → slots_in r ≡ Ok n → p ≤ most_slots → most_slots < p + n
    → slot_after p r ≡ Err TooManySlots
slot-past p n (Ok None) e h over = let same : 0 ≡ n = cc in absurd (omega (arith, same, h, over))
slot-past p n (Ok (Some said)) e h over =
    let same : slots_of said.insn ≡ n = cc in
    let past : nat_le (p + slots_of said.insn) most_slots ≡ false = more (p + slots_of said.insn) (omega (arith, over, same)) in
    rw past refl where
      more : (a : ℕ) → most_slots < a → nat_le a most_slots ≡ false
      more a h = grind (arith, nat_tests)
slot-past p n (Err fault) e h over = cc

slot-fault : (p : ℕ) (fault : LineFault) (r : LineReading (Option Statement)) → slots_in r ≡ Err fault → slot_after p r ≡ Err fault
slot-fault p fault (Ok None) e = cc
slot-fault p fault (Ok (Some said)) e = cc
slot-fault p fault (Err other) e = let same : other ≡ fault = cc in ap Err same

-- ---- the first round at a line

end-read : (labels : Labels) (p : ℕ) (line : List ℕ) (label : Option (List ℕ)) (rest : List ℕ) (next : LineReading ℕ) → IsNew labels line label rest
    → slot_after p (read_statement (trim rest)) ≡ next → line_end labels p (read_line line) ≡ next
end-read labels p line label rest next k e =
    ap (line_end labels p) (line-read line label rest k.0) ∙ ap (λ d. unless_defined d (slot_after p (read_statement (trim rest)))) k.1 ∙ e

end-takes : (labels : Labels) (p : ℕ) (line : List ℕ) (fault : LineFault) (label : Option (List ℕ)) (rest : List ℕ) → IsNew labels line label rest
    → Takes p rest (Err fault) → line_end labels p (read_line line) ≡ Err fault
end-takes labels p line fault label rest new takes =
    end-read labels p line label rest (Err fault) new (slot-fault p fault (read_statement (trim rest)) (read-takes p rest (Err fault) takes))

end-fault : (labels : Labels) (p : ℕ) (line : List ℕ) (fault : LineFault) → p ≤ most_slots → HasFault labels p line fault
    → line_end labels p (read_line line) ≡ Err fault
end-fault labels p line NotText h k = ap (line_end labels p) (says-line line (Err NotText) k)
end-fault labels p line (LabelTwice first) h k =
    ap (line_end labels p) (line-read line (Some k.0) k.1 k.2) ∙ rw k.4 (ap (λ n. Err (LabelTwice n)) k.5)
end-fault labels p line TooManySlots h k =
    end-read labels p line k.0 k.1 (Err TooManySlots) k.3 (slot-past p k.2 (read_statement (trim k.1)) (read-takes p k.1 (Ok k.2) k.4) h k.5)
end-fault labels p line UnknownMnemonic h k = end-takes labels p line UnknownMnemonic k.0 k.1 k.2 k.3
end-fault labels p line WrongOperands h k = end-takes labels p line WrongOperands k.0 k.1 k.2 k.3
end-fault labels p line OutOfRange h k = end-takes labels p line OutOfRange k.0 k.1 k.2 k.3
end-fault labels p line (TooFar distance) h k = absurd k.3
end-fault labels p line UnknownLabel h k = absurd k.3

-- ---- the first round

-- the statements of places
abbrev pub placed_at : Place → List Placed
placed_at place = placed_with [] place.slot place.line (statement_or_none (read_statement (trim place.rest)))

abbrev pub placed_all : List Place → List Placed
placed_all [] = []
placed_all (place ∷ places) = placed_at place ++ placed_all places

abbrev pub outcome_of : List Placed → Result Outline AsmFault → Result Collected AsmFault
outcome_of placed (Ok outline) = Ok (outline.0, placed ++ placed_all outline.1)
outcome_of placed (Err fault) = Err fault

placed-more : (placed : List Placed) (p k : ℕ) (o : Option Statement) → placed_with placed p k o ≡ placed ++ placed_with [] p k o
placed-more placed p k None = sym (append-nil placed)
placed-more placed p k (Some said) = refl

outcome-with : (placed : List Placed) (place : Place) (r : Result Outline AsmFault)
    → outcome_of (placed ++ placed_at place) r ≡ outcome_of placed (outline_with place r)
outcome-with placed place (Ok outline) = ap (λ l. Ok (outline.0, l)) (append_assoc placed (placed_at place) (placed_all outline.1))
outcome-with placed place (Err fault) = refl

pub outline-read : (labels : Labels) (placed : List Placed) (p k : ℕ) (text : List (List ℕ)) (r : Result Outline AsmFault) → p ≤ most_slots
    → IsOutline labels p k text r → first_round (labels, placed) p k (map read_line text) ≡ outcome_of placed r
outline-read labels placed p k [] r h known = rw known (ap (λ l. Ok (labels, l)) (sym (append-nil placed)))
outline-read labels placed p k (line ∷ text) r h (inl known) = rw (end-fault labels p line known.0 h known.1, known.2) refl
outline-read labels placed p k (line ∷ text) r h (inr known) =
    let label = known.0 in
    let rest = known.1 in
    let n = known.2 in
    let place : Place = record { line = k; slot = p; rest = rest } in
    let reading = line-read line label rest known.4.0 in
    let end = end-read labels p line label rest (Ok (p + n)) known.4
    (slot-at p n (read_statement (trim rest)) (read-takes p rest (Ok n) known.5) known.6) in
    let more = placed-more placed p k (statement_or_none (read_statement (trim rest))) in
    let found = outline-read (labels_with labels (record { line = k; slot = p }) label) (placed ++ placed_at place) (p + n) (k + 1) text known.3
    known.6 known.7 in
    let whole = found ∙ outcome-with placed place known.3 ∙ ap (outcome_of placed) (sym known.8) in
    rw (end, reading, more) whole

-- each outcome is one, and what its texts take was read
abbrev pub AreRead : List Place → Type 0
AreRead [] = Unit {0}
AreRead (place ∷ places) = ((said : Option Statement) × (read_statement (trim place.rest) ≡ Ok said)) × AreRead places

abbrev pub OutcomeRead : Result Outline AsmFault → Type 0
OutcomeRead (Ok outline) = AreRead outline.1
OutcomeRead (Err fault) = Unit {0}

pub record HasOutline (labels : Labels) (p k : ℕ) (text : List (List ℕ)) : Type 0 where
  pub outcome : Result Outline AsmFault
  pub is : IsOutline labels p k text outcome
  pub read : OutcomeRead outcome

outcome-more : (place : Place) (said : Option Statement) (r : Result Outline AsmFault) → read_statement (trim place.rest) ≡ Ok said
    → OutcomeRead r → OutcomeRead (outline_with place r)
outcome-more place said (Ok outline) e known = ((said, e), known)
outcome-more place said (Err fault) e known = tt

takes-fault : (labels : Labels) (p : ℕ) (line : List ℕ) (fault : LineFault) (label : Option (List ℕ)) (rest : List ℕ) → IsNew labels line label rest
    → Takes p rest (Err fault) → HasFault labels p line fault
takes-fault labels p line UnknownMnemonic label rest new takes = (label, rest, new, takes)
takes-fault labels p line WrongOperands label rest new takes = (label, rest, new, takes)
takes-fault labels p line OutOfRange label rest new takes = (label, rest, new, takes)
takes-fault labels p line (TooFar distance) label rest new takes = absurd takes
takes-fault labels p line (LabelTwice first) label rest new takes = absurd takes
takes-fault labels p line UnknownLabel label rest new takes = absurd takes
takes-fault labels p line NotText label rest new takes = absurd takes
takes-fault labels p line TooManySlots label rest new takes = absurd takes

twice : (labels : Labels) (p : ℕ) (line : List ℕ) (label : Option (List ℕ)) (rest : List ℕ) (d : Definition) → IsLine line label rest
    → definition_of labels label ≡ Some d → HasFault labels p line (LabelTwice d.line)
twice labels p line None rest d k e = cc
twice labels p line (Some name) rest d k e = (name, rest, k, d, e, refl)

faulty : (labels : Labels) (p k : ℕ) (line : List ℕ) (text : List (List ℕ)) (fault : LineFault) → HasFault labels p line fault
    → HasOutline labels p k (line ∷ text)
faulty labels p k line text fault known = record { outcome = Err (Line fault k); is = inl (fault, known, refl); read = tt }

pub has-outline : (labels : Labels) (p k : ℕ) (text : List (List ℕ)) → p ≤ most_slots → HasOutline labels p k text
has-outline labels p k [] h = record { outcome = Ok (labels, []); is = refl; read = tt }
has-outline labels p k (line ∷ text) h =
    at (cut-or-not line) (λ label n room. has-outline (labels_with labels (record { line = k; slot = p }) label) (p + n) (k + 1) text room) where
      Next : Type 0
      Next = (label : Option (List ℕ)) (n : ℕ) → p + n ≤ most_slots → HasOutline (labels_with labels (record { line = k; slot = p }) label) (p + n) (k + 1) text

      room : (label : Option (List ℕ)) (rest : List ℕ) (said : Option Statement) (n : ℕ) (t : Bool) → nat_le (p + n) most_slots ≡ t
          → IsNew labels line label rest → read_statement (trim rest) ≡ Ok said → Takes p rest (Ok n) → Next → HasOutline labels p k (line ∷ text)
      room label rest said n true e new read takes next =
          let within : p + n ≤ most_slots = grind (arith, nat_tests) in
          let more = next label n within in
          let place : Place = record { line = k; slot = p; rest = rest } in record {
            outcome = outline_with place more.outcome;
            is = inr (label, rest, n, more.outcome, new, takes, within, more.is, refl);
            read = outcome-more place said more.outcome read more.read;
          }
      room label rest said n false e new read takes next =
          let over : most_slots < p + n = grind (arith, nat_tests) in
          faulty labels p k line text TooManySlots (label, rest, n, new, takes, over)

      stated : (label : Option (List ℕ)) (rest : List ℕ) (r : LineReading (Option Statement)) → read_statement (trim rest) ≡ r
          → IsNew labels line label rest → Takes p rest (slots_in r) → Next → HasOutline labels p k (line ∷ text)
      stated label rest (Ok None) e new takes next = room label rest None 0 (nat_le (p + 0) most_slots) refl new e takes next
      stated label rest (Ok (Some said)) e new takes next =
          room label rest (Some said) (slots_of said.insn) (nat_le (p + slots_of said.insn) most_slots) refl new e takes next
      stated label rest (Err fault) e new takes next = faulty labels p k line text fault (takes-fault labels p line fault label rest new takes)

      named : (label : Option (List ℕ)) (rest : List ℕ) (o : Option Definition) → definition_of labels label ≡ o → IsLine line label rest → Next
          → HasOutline labels p k (line ∷ text)
      named label rest (Some d) e known next = faulty labels p k line text (LabelTwice d.line) (twice labels p line label rest d known e)
      named label rest None e known next =
          stated label rest (read_statement (trim rest)) refl (known, e) (takes-read p rest) next

      at : IsCutOrNot line → Next → HasOutline labels p k (line ∷ text)
      at (strange known) next = faulty labels p k line text NotText known
      at (cut label rest known) next = named label rest (definition_of labels label) refl known next

-- ---- the second round

pub blank-read : (rest : List ℕ) → list_all is_blank rest ≡ true → read_statement (trim rest) ≡ Ok None
blank-read rest k = says-statement rest (Ok None) k

pub insns-read : (labels : Labels) (places : List Place) (r : Result (List Insn) AsmFault) → AreInsns labels places r
    → second_round labels (placed_all places) ≡ r
insns-read labels [] r known = sym known
insns-read labels (place ∷ places) r (inl known) =
    rw (blank-read place.rest known.0) (insns-read labels places r known.1)
insns-read labels (place ∷ places) r (inr (inl known)) =
    let read = means-read labels place.slot place.rest (Err known.0) known.1 in
    rw (read.read, read.gives) (sym known.2)
insns-read labels (place ∷ places) r (inr (inr known)) =
    let read = means-read labels place.slot place.rest (Ok known.0) known.2 in
    rw (read.read, read.gives) (ap (insns_with known.0) (insns-read labels places known.1 known.3) ∙ sym known.4)

pub record HasInsns (labels : Labels) (places : List Place) : Type 0 where
  pub outcome : Result (List Insn) AsmFault
  pub are : AreInsns labels places outcome

pub has-insns : (labels : Labels) (places : List Place) → AreRead places → HasInsns labels places
has-insns labels [] known = record { outcome = Ok []; are = refl }
has-insns labels (place ∷ places) known = at known.0.0 known.0.1 (has-insns labels places known.1) where
  meant : (r : Result Insn LineFault) → Means labels place.slot place.rest r → HasInsns labels places → HasInsns labels (place ∷ places)
  meant (Ok i) means more = record { outcome = insns_with i more.outcome; are = inr (inr (i, more.outcome, means, more.are, refl)) }
  meant (Err fault) means more = record { outcome = Err (Line fault place.line); are = inr (inl (fault, means, refl)) }

  at : (o : Option Statement) → read_statement (trim place.rest) ≡ Ok o → HasInsns labels places → HasInsns labels (place ∷ places)
  at None e more =
      let blank : list_all is_blank place.rest ≡ true = subst (IsStatement place.rest) e (statement-reads place.rest) in
      record { outcome = more.outcome; are = inl (blank, more.are) }
  at (Some said) e more =
      meant (with_target labels place.slot said.insn said.target) (read-means labels place.slot place.rest said e) more

-- ---- both rounds

pub assembled-read : (text : List ℕ) (r : Result (List Insn) AsmFault) → IsAssembled text r → rounds (map read_line (lines text)) ≡ r
assembled-read text r (inl known) =
    let first = outline-read no_label [] 0 1 (lines text) (Err known.0) (omega arith) known.1 in
    ap after_first_round first ∙ sym known.2
assembled-read text r (inr known) =
    let first = outline-read no_label [] 0 1 (lines text) (Ok known.0) (omega arith) known.1 in
    ap after_first_round first ∙ insns-read known.0.0 known.0.1 r known.2

pub record HasAssembly (text : List ℕ) : Type 0 where
  pub outcome : Result (List Insn) AsmFault
  pub is : IsAssembled text outcome

has-assembly : (text : List ℕ) → HasAssembly text
has-assembly text = let known = has-outline no_label 0 1 (lines text) (omega arith) in go known.outcome known.is known.read where
  go : (r : Result Outline AsmFault) → IsOutline no_label 0 1 (lines text) r → OutcomeRead r → HasAssembly text
  go (Err fault) known read = record { outcome = Err fault; is = inl (fault, known, refl) }
  go (Ok outline) known read =
      let insns = has-insns outline.0 outline.1 read in record { outcome = insns.outcome; is = inr (outline, known, insns.are) }

pub read-assembled : (text : List ℕ) → IsAssembled text (rounds (map read_line (lines text)))
read-assembled text =
    let known = has-assembly text in subst (IsAssembled text) (sym (assembled-read text known.outcome known.is)) known.is

-- ---- one cut

label-once : (code : List ℕ) (label other : Option (List ℕ)) (rest more : List ℕ) → IsLabel label code rest → IsLabel other code more
    → (label ≡ other) × (rest ≡ more)
label-once code (Some a) (Some b) rest more k l =
    let p = says-labelled code a rest k in
    let q = says-labelled code b more l in (ap Some (sym p.name_is ∙ q.name_is), sym p.rest_is ∙ q.rest_is)
label-once code (Some a) None rest more k l = absurd (l.1 a rest k)
label-once code None (Some b) rest more k l = absurd (k.1 b more l)
label-once code None None rest more k l = (refl, sym k.0 ∙ l.0)

line-code : (line : List ℕ) (label : Option (List ℕ)) (rest : List ℕ) (k : IsLine line label rest) → without_comment line ≡ k.code
line-code line label rest k = ap without_comment k.written ∙ code-before k.code k.comment k.plain k.comments

line-once : (line : List ℕ) (label other : Option (List ℕ)) (rest more : List ℕ) → IsLine line label rest → IsLine line other more
    → (label ≡ other) × (rest ≡ more)
line-once line label other rest more k l =
    let same = sym (line-code line label rest k) ∙ line-code line other more l in
    label-once l.code label other rest more (subst (λ code. IsLabel label code rest) same k.labels) l.labels

line-or-strange : (line : List ℕ) (label : Option (List ℕ)) (rest : List ℕ) → IsLine line label rest → HasStranger line → ⊥
line-or-strange line label rest k l = let clash = sym (line-read line label rest k) ∙ says-line line (Err NotText) l in cc

pub one-cut : (line : List ℕ) → HasOneCut line
one-cut line = go (cut-or-not line) where
  pair : (label other : Option (List ℕ)) (rest more : List ℕ) → (label ≡ other) × (rest ≡ more) → ◌≡◌ {A = Option (Option (List ℕ) × List ℕ)} (Some (label, rest)) (Some (other, more))
  pair label other rest more e = ap (λ l. Some (l, rest)) e.0 ∙ ap (λ r. Some (other, r)) e.1

  cut-only : (label : Option (List ℕ)) (rest : List ℕ) → IsLine line label rest → (other : Option (Option (List ℕ) × List ℕ)) → IsCut line other
      → other ≡ Some (label, rest)
  cut-only label rest k None l = absurd (line-or-strange line label rest k l)
  cut-only label rest k (Some other) l = pair other.0 label other.1 rest (line-once line other.0 label other.1 rest l k)

  strange-only : HasStranger line → (other : Option (Option (List ℕ) × List ℕ)) → IsCut line other → other ≡ None
  strange-only k None l = refl
  strange-only k (Some other) l = absurd (line-or-strange line other.0 other.1 l k)

  go : IsCutOrNot line → HasOneCut line
  go (strange k) = record { cut = None; is = k; only = strange-only k }
  go (cut label rest k) = record { cut = Some (label, rest); is = k; only = cut-only label rest k }
