-- The loop of a batch: the lines behind us and their answers, and what is left to read.
use Rattle.std.proofs.Common.{◌≡◌, ◌+◌, ℕ, true, false, List, [], ◌∷◌, ◌++◌, Option, Some, None, Result, Ok, Err, refl, sym, ap, subst, ◌∙◌, append_assoc}
use Rattle.std.proofs.lemmas.List.{append-nil}
use Rattle.std.specs.Io.KnownBytes.{prepend_known}
use Rattle.counted_io.specs.Counted.{Tally}
use Rattle.counted_io.specs.Lines.{lines}
use Rattle.bpf_session.specs.Runs.{Exchange}
use Rattle.bpf_steps.specs.State.{State}
use Rattle.input_texts.specs.ReadLines.{Buffer, Holds, ReadsLine, is_last, is_missing}
use Rattle.input_texts.specs.declared.case_line.NextLine.{NextLine}
use Rattle.input_texts.specs.declared.case_line.NextLine.TheVariants.{Ended, Last, Missing}
use Rattle.input_texts.specs.declared.case_line.ReadFault.{ReadFault}
use Rattle.input_texts.specs.declared.case_line.ReadFault.TheVariants as reading
use Rattle.bpf_batch.specs.Answers.{AnswersLine, AnswersLines}
use Rattle.bpf_batch.specs.Batches.{AnswersAll, BreaksOff, CountsAnswer, FailsBy, Suits, WritesAnswer, fault_of}
use Rattle.bpf_batch.specs.declared.batch.Batch.{Batch}
use Rattle.bpf_batch.specs.declared.fault.BatchFault.{BatchFault}
use Rattle.bpf_batch.specs.declared.fault.BatchFault.TheVariants.{Read, Write, Memory}
use Rattle.bpf_batch.proofs.Writings.{wrote-on}

-- one more line and its answer
pub answers-push : (b : Batch) (done : List (List ℕ)) (text line one : List ℕ) → AnswersLines b done text → AnswersLine b line one
    → AnswersLines b (done ++ line ∷ []) (text ++ one)
answers-push b [] text line one all this = (one, [], this, refl, ap (λ (v : List ℕ). v ++ one) all ∙ sym (append-nil one))
answers-push b (first ∷ done) text line one all this =
    let more = answers-push b done all.1 line one all.3 this in
    (all.0, all.1 ++ one, all.2, more, ap (λ (v : List ℕ). v ++ one) all.4 ∙ append_assoc all.0 all.1 one)

-- nothing is known to be left, ahead or in the reader
left-none : (known : Option (List ℕ)) (ahead : List ℕ) → prepend_known ahead known ≡ Some [] → known ≡ Some []
left-none None ahead e = absurd cc
left-none (Some xs) [] e = e
left-none (Some xs) (a ∷ ahead) e = absurd cc

abbrev pub exchange : List ℕ → List ℕ → Option (List ℕ) → Option (List ℕ) → Exchange
exchange script told after left = record { script = script; told = told; after = after; left = left }

module _ (b : Batch) {R W : Type 0} (remaining : R → Option (List ℕ)) (contents : W → Option (List ℕ)) where
  -- the lines behind us, and what is left
  pub record Here (reader : Tally R) (ahead : List ℕ) (writer : Tally W) (script told : List ℕ) : Type 0 where
    pub rest : List ℕ
    pub left : prepend_known ahead (remaining reader.inner) ≡ Some rest
    pub done : List (List ℕ)
    pub split : lines script ≡ done ++ lines rest
    pub text : List ℕ
    pub answers : AnswersLines b done text
    pub written : contents writer.inner ≡ Some (told ++ text)

  pub record Answering (reader0 reader : Tally R) (ahead : List ℕ) (writer0 writer : Tally W) (kept : Option State) : Type 0 where
    pub read : reader.failures ≡ reader0.failures
    pub wrote : writer.failures ≡ writer0.failures
    pub suits : Suits b kept
    pub here : (script told : List ℕ) → remaining reader0.inner ≡ Some script → contents writer0.inner ≡ Some told → Here reader ahead writer script told

  pub Answering-start : (reader : Tally R) (ahead : List ℕ) (writer : Tally W) → ahead ≡ [] → Answering reader reader ahead writer writer None
  Answering-start reader ahead writer none = record {
    read = refl;
    wrote = refl;
    suits = tt;
    here = λ script told left held. record {
      rest = script;
      left = ap (λ (a : List ℕ). prepend_known a (remaining reader.inner)) none ∙ ap (λ (known : Option (List ℕ)). prepend_known [] known) left;
      done = [];
      split = refl;
      text = [];
      answers = refl;
      written = held ∙ ap (λ (v : List ℕ). Some v) (sym (append-nil told));
    };
  }

  -- what is said of all exchanges
  abbrev pub Tells : (Exchange → Type 0) → Tally R → Tally R → Tally W → Tally W → Type 0
  Tells P reader0 reader writer0 writer = (script told : List ℕ) → remaining reader0.inner ≡ Some script → contents writer0.inner ≡ Some told
      → P (exchange script told (contents writer.inner) (remaining reader.inner))

  module _ (reader0 reader reader' : Tally R) (ahead ahead' : List ℕ) (writer0 writer writer' : Tally W) (kept : Option State) (buffer : Buffer)
      (i : Answering reader0 reader ahead writer0 writer kept) where
    -- no line was read
    stops-unread : (why : ReadFault) (script told : List ℕ) → (h : Here reader ahead writer script told)
        → BreaksOff (fault_of why) b (exchange script told (contents writer.inner) (remaining reader'.inner))
    stops-unread reading.Read script told h = (h.done, lines h.rest, h.split, h.text, h.answers, h.written)
    stops-unread reading.Memory script told h = (h.done, lines h.rest, h.split, h.text, h.answers, h.written)

    pub Answering-unread : (why : ReadFault) → Tells (BreaksOff (fault_of why) b) reader0 reader' writer0 writer
    Answering-unread why = λ script told left held. stops-unread why script told (i.here script told left held)

    pub fails-unread : (why : ReadFault) → ReadsLine remaining reader ahead reader' ahead' buffer (Err why)
        → FailsBy (fault_of why) reader0 reader' writer0 writer
    fails-unread reading.Read r = (r.fault ∙ rw i.read refl, i.wrote)
    fails-unread reading.Memory r = (r.fault ∙ i.read, i.wrote)

    -- no line is left
    pub Answering-missing : (next : NextLine) → ReadsLine remaining reader ahead reader' ahead' buffer (Ok next) → is_missing next ≡ true
        → Tells (AnswersAll b) reader0 reader' writer0 writer
    Answering-missing Ended r is = absurd cc
    Answering-missing Last r is = absurd cc
    Answering-missing Missing r is = λ script told left held.
        let h = i.here script told left held in
        let c = r.cut h.rest h.left in
        let all : lines script ≡ h.done = h.split ∙ ap (λ (v : List ℕ). h.done ++ lines v) c.2.0 ∙ append-nil h.done in
        (h.text, subst (λ (ls : List (List ℕ)). AnswersLines b ls h.text) (sym all) h.answers, h.written, left-none (remaining reader'.inner) ahead' (c.1 ∙ ap (λ (v : List ℕ). Some v) c.2.1))

    -- an answer to the line in the buffer
    abbrev pub Says : {A : Type 0} → Result A BatchFault → Type 0
    Says result = (text : List ℕ) → Holds buffer text → WritesAnswer contents b text writer writer' result

    -- the line that was read, and the lines behind it
    record Taken (rest : List ℕ) : Type 0 where
      pub line : List ℕ
      pub after : List ℕ
      pub held : Holds buffer line
      pub left : prepend_known ahead' (remaining reader'.inner) ≡ Some after
      pub cut : lines rest ≡ line ∷ lines after

    taken : (next : NextLine) → ReadsLine remaining reader ahead reader' ahead' buffer (Ok next) → is_missing next ≡ false → (rest : List ℕ)
        → prepend_known ahead (remaining reader.inner) ≡ Some rest → Taken rest
    taken Missing r is rest left = absurd cc
    taken Ended r is rest left =
        let c = r.cut rest left in
        record { line = c.2.0; after = c.0; held = c.2.3; left = c.1; cut = c.2.2 }
    taken Last r is rest left =
        let c = r.cut rest left in
        record { line = rest; after = c.0; held = c.2.2; left = c.1; cut = c.2.0 ∙ ap (λ (v : List ℕ). rest ∷ lines v) (sym c.2.1) }

    last-left : (next : NextLine) → ReadsLine remaining reader ahead reader' ahead' buffer (Ok next) → is_last next ≡ true → (rest : List ℕ)
        → prepend_known ahead (remaining reader.inner) ≡ Some rest → prepend_known ahead' (remaining reader'.inner) ≡ Some []
    last-left Missing r is rest left = absurd cc
    last-left Ended r is rest left = absurd cc
    last-left Last r is rest left = let c = r.cut rest left in c.1 ∙ ap (λ (v : List ℕ). Some v) c.2.1

    last-is-there : (next : NextLine) → is_last next ≡ true → is_missing next ≡ false
    last-is-there Missing is = absurd cc
    last-is-there Ended is = refl
    last-is-there Last is = refl

    -- one line more is behind us
    pub Here-on : {A : Type 0} (next : NextLine) (value : A) → ReadsLine remaining reader ahead reader' ahead' buffer (Ok next) → is_missing next ≡ false
        → Says (Ok value) → (script told : List ℕ) → Here reader ahead writer script told → Here reader' ahead' writer' script told
    Here-on next value r some says script told h =
        let t = taken next r some h.rest h.left in
        let w = says t.line t.held in
        record {
          rest = t.after;
          left = t.left;
          done = h.done ++ t.line ∷ [];
          split = h.split ∙ ap (λ (ls : List (List ℕ)). h.done ++ ls) t.cut ∙ sym (append_assoc h.done (t.line ∷ []) (lines t.after));
          text = h.text ++ w.0;
          answers = answers-push b h.done h.text t.line w.0 h.answers w.1;
          written = wrote-on _ _ told h.text w.0 h.written w.2.ok;
        }

    pub Answering-step : (next : NextLine) (machine : Option State) → ReadsLine remaining reader ahead reader' ahead' buffer (Ok next) → is_missing next ≡ false
        → Says (Ok machine) → Suits b machine → writer'.failures ≡ writer.failures → Answering reader0 reader' ahead' writer0 writer' machine
    Answering-step next machine r some says suits wrote = record {
      read = r.same ∙ i.read;
      wrote = wrote ∙ i.wrote;
      suits = suits;
      here = λ script told left held. Here-on next machine r some says script told (i.here script told left held);
    }

    -- the last line was answered
    pub Answering-last : {A : Type 0} (next : NextLine) (value : A) → ReadsLine remaining reader ahead reader' ahead' buffer (Ok next) → is_last next ≡ true
        → Says (Ok value) → Tells (AnswersAll b) reader0 reader' writer0 writer'
    unfolding Here-on
    Answering-last next value r last says = λ script told left held.
        let h0 = i.here script told left held in
        let h = Here-on next value r (last-is-there next last) says script told h0 in
        let none : h.rest ≡ [] = let s : Some h.rest ≡ Some [] = sym h.left ∙ last-left next r last h0.rest h0.left in cc in
        let all : lines script ≡ h.done = h.split ∙ ap (λ (v : List ℕ). h.done ++ lines v) none ∙ append-nil h.done in
        (h.text, subst (λ (ls : List (List ℕ)). AnswersLines b ls h.text) (sym all) h.answers, h.written, left-none (remaining reader'.inner) ahead' (h.left ∙ ap (λ (v : List ℕ). Some v) none))

    -- the answer wasn't written, or memory ran out before it
    stops-unanswered : (A : Type 0) (why : BatchFault) (next : NextLine) → ReadsLine remaining reader ahead reader' ahead' buffer (Ok next)
        → is_missing next ≡ false → Says {A = A} (Err why) → (script told : List ℕ) → Here reader ahead writer script told
        → BreaksOff why b (exchange script told (contents writer'.inner) (remaining reader'.inner))
    stops-unanswered A Read next r some says script told h = let t = taken next r some h.rest h.left in absurd (says t.line t.held)
    stops-unanswered A Memory next r some says script told h =
        let t = taken next r some h.rest h.left in
        (h.done, lines h.rest, h.split, h.text, h.answers, ap (λ (w : Tally W). contents w.inner) (says t.line t.held) ∙ h.written)
    stops-unanswered A Write next r some says script told h =
        let t = taken next r some h.rest h.left in
        let w = says t.line t.held in
        let p = w.2.err in (
          h.done,
          lines h.rest,
          h.split,
          h.text,
          h.answers,
          (t.line, lines t.after, t.cut, w.0, p.0, p.1, w.1, p.2, wrote-on _ _ told h.text p.0 h.written p.3),
        )

    pub Answering-unanswered : (A : Type 0) (why : BatchFault) (next : NextLine) → ReadsLine remaining reader ahead reader' ahead' buffer (Ok next)
        → is_missing next ≡ false → Says {A = A} (Err why) → Tells (BreaksOff why b) reader0 reader' writer0 writer'
    Answering-unanswered A why next r some says = λ script told left held.
        stops-unanswered A why next r some says script told (i.here script told left held)

    pub fails-unanswered : (A : Type 0) (why : BatchFault) (next : NextLine) → ReadsLine remaining reader ahead reader' ahead' buffer (Ok next)
        → CountsAnswer {A = A} (Err why) writer writer' → FailsBy why reader0 reader' writer0 writer'
    fails-unanswered A Read next r counts = absurd counts
    fails-unanswered A Write next r counts = (r.same ∙ i.read, counts ∙ rw i.wrote refl)
    fails-unanswered A Memory next r counts = (r.same ∙ i.read, counts ∙ i.wrote)
