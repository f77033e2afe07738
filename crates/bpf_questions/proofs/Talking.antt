-- The loop of a conversation: the lines behind us and what was said to them, and what is left to read.
use Rattle.std.proofs.Common.{◌≡◌, ◌+◌, ℕ, true, false, List, [], ◌∷◌, ◌++◌, inl, inr, Option, Some, None, Result, Ok, Err, refl, sym, ap, subst, ◌∙◌, append_assoc, arith, length}
use Rattle.std.proofs.lemmas.Grind.{common_steps}
use Rattle.std.proofs.lemmas.List.{append-nil, length-append}
use Rattle.std.specs.Io.KnownBytes.{Appends}
use Rattle.counted_io.specs.Counted.{Tally}
use Rattle.counted_io.specs.Lines.{lines}
use Rattle.bpf_entries.specs.Keeping.{Kept}
use Rattle.bpf_remote.specs.Moves.{counted}
use Rattle.bpf_session.specs.Runs.{Exchange}
use Rattle.bpf_session.specs.Sessions.{SessionValue}
use Rattle.bpfdb_script.specs.ReadLines.{Buffer, Holds, ReadsLine, is_last, is_missing}
use Rattle.bpfdb_script.specs.declared.line.NextLine.{NextLine}
use Rattle.bpfdb_script.specs.declared.line.NextLine.TheVariants.{Ended, Last, Missing}
use Rattle.bpf_questions.specs.Conversations.{AnswersAll, BreaksOff, Hears, HearsAll, Said, Stand, opened, told}
use Rattle.bpf_questions.specs.Failures.{Counts, FailsBy}
use Rattle.bpf_questions.specs.Hearing.{TellsLine}
use Rattle.bpf_questions.specs.declared.conversation.Progress.{Progress}
use Rattle.bpf_questions.specs.declared.fault.ConversationFault.{ConversationFault}
use Rattle.bpf_questions.specs.declared.fault.ConversationFault.TheVariants.{Read, Write, Memory}
use Rattle.bpf_questions.specs.declared.stop.Past.{Past}
use Rattle.bpf_questions.specs.declared.view.View.{View}

-- the number of the line behind so many
counted-step : (n : ℕ) → counted (counted n + 1) ≡ counted (n + 1)
counted-step n = grind (arith, common_steps)

-- what a writer holds after a text
appended : (before after : Option (List ℕ)) (xs ys : List ℕ) → before ≡ Some xs → Appends before after ys → after ≡ Some (xs ++ ys)
appended None after xs ys e h = absurd cc
appended (Some zs) None xs ys e h = absurd h
appended (Some zs) (Some ws) xs ys e h = let s : zs ≡ xs = cc in ap Some (h ∙ ap (λ (v : List ℕ). v ++ ys) s)

wrote-on : (before after : Option (List ℕ)) (first text one : List ℕ) → before ≡ Some (first ++ text) → Appends before after one
    → after ≡ Some (first ++ (text ++ one))
wrote-on before after first text one held more = appended before after (first ++ text) one held more ∙ ap (λ (v : List ℕ). Some v) (append_assoc first text one)

abbrev pub exchange : List ℕ → List ℕ → Option (List ℕ) → Option (List ℕ) → Exchange
exchange script first after left = record { script = script; told = first; after = after; left = left }

module _ {K : Type 0} (holds : K → List Kept → Type 0) (refusals room : K → ℕ) (v : View) where
  -- one line more
  hears-push : (old at new : Stand holds refusals room) (count : ℕ) (done : List (List ℕ)) (text line : List ℕ) (said : Said)
      → HearsAll holds refusals room v old at count done text → Hears holds refusals room v at new line said → said.on ≡ true
      → HearsAll holds refusals room v old new count (done ++ line ∷ []) (text ++ told holds refusals room v (counted (count + length done + 1)) said.message)
  hears-push old at new count [] text line said all this on =
      let this' = subst (λ (s : Stand holds refusals room). Hears holds refusals room v s new line said) all.0 this in
      let number : count + length {A = List ℕ} [] + 1 ≡ count + 1 = omega (arith) in (
        new,
        said,
        this',
        on,
        [],
        (refl, refl),
        ap (λ (n : ℕ). text ++ told holds refusals room v (counted n) said.message) number
            ∙ ap (λ (t : List ℕ). t ++ told holds refusals room v (counted (count + 1)) said.message) all.1 ∙ sym (append-nil _),
      )
  hears-push old at new count (first ∷ done) text line said (next, s, h, on1, more, rest, e) this on =
      let deeper = hears-push next at new (count + 1) done more line said rest this on in
      let number : (count + 1) + length done + 1 ≡ count + length (first ∷ done) + 1 = omega (arith) in
      let last = told holds refusals room v (counted ((count + 1) + length done + 1)) said.message in (
        next,
        s,
        h,
        on1,
        more ++ last,
        deeper,
        ap (λ (n : ℕ). text ++ told holds refusals room v (counted n) said.message) (sym number)
            ∙ ap (λ (t : List ℕ). t ++ last) e ∙ append_assoc _ more last,
      )

  module _ {R W : Type 0} (remaining : R → Option (List ℕ)) (contents : W → Option (List ℕ)) where
    -- the lines behind us, and what is left
    pub record Here (from now : SessionValue K) (p : Progress) (reader : Tally R) (writer : Tally W) (script first : List ℕ) : Type 0 where
      pub rest : List ℕ
      pub left : remaining reader.inner ≡ Some rest
      pub done : List (List ℕ)
      pub split : lines script ≡ done ++ lines rest
      pub text : List ℕ
      pub heard : HearsAll holds refusals room v (opened holds refusals room from) (now, p.past) 0 done text
      pub numbered : p.lines ≡ counted (length done)
      pub written : contents writer.inner ≡ Some (first ++ text)

    pub record Talking (from now : SessionValue K) (p : Progress) (reader0 reader : Tally R) (writer0 writer : Tally W) : Type 0 where
      pub read : reader.failures ≡ reader0.failures
      pub wrote : writer.failures ≡ writer0.failures
      pub here : (script first : List ℕ) → remaining reader0.inner ≡ Some script → contents writer0.inner ≡ Some first → Here from now p reader writer script first

    pub Talking-start : (from : SessionValue K) (reader : Tally R) (writer : Tally W) → Talking from from (record { past = (opened holds refusals room from).1; lines = 0 }) reader reader writer writer
    Talking-start from reader writer = record {
      read = refl;
      wrote = refl;
      here = λ script first left held. record {
        rest = script;
        left = left;
        done = [];
        split = refl;
        text = [];
        heard = (refl, refl);
        numbered = grind (arith, common_steps);
        written = held ∙ ap (λ (t : List ℕ). Some t) (sym (append-nil first));
      };
    }

    -- what is said of all exchanges
    abbrev pub Tells : (Exchange → Type 0) → Tally R → Tally R → Tally W → Tally W → Type 0
    Tells P reader0 reader writer0 writer = (script first : List ℕ) → remaining reader0.inner ≡ Some script → contents writer0.inner ≡ Some first
        → P (exchange script first (contents writer.inner) (remaining reader.inner))

    module _ (from now new : SessionValue K) (p : Progress) (reader0 reader reader' : Tally R) (writer0 writer writer' : Tally W) (buffer : Buffer)
        (i : Talking from now p reader0 reader writer0 writer) where
      -- no line was read
      pub Talking-unread : {E : Type 0} (why : E) → ReadsLine remaining reader reader' buffer (Err why)
          → Tells (BreaksOff holds refusals room Read v from) reader0 reader' writer0 writer
      Talking-unread why r = λ script first left held.
          let h = i.here script first left held in
          (h.done, lines h.rest, h.split, (now, p.past), h.text, h.heard, h.written)

      pub fails-unread : {E : Type 0} (why : E) → ReadsLine remaining reader reader' buffer (Err why) → FailsBy Read reader0 reader' writer0 writer
      fails-unread why r = (r.fault ∙ rw i.read refl, i.wrote)

      -- no line is left
      pub Talking-missing : {E : Type 0} (next : NextLine) → ReadsLine {E = E} remaining reader reader' buffer (Ok next) → is_missing next ≡ true
          → Tells (AnswersAll holds refusals room v from now) reader0 reader' writer0 writer
      Talking-missing Ended r is = absurd cc
      Talking-missing Last r is = absurd cc
      Talking-missing Missing r is = λ script first left held.
          let h = i.here script first left held in
          let c = r.cut h.rest h.left in
          let all : lines script ≡ h.done = h.split ∙ ap (λ (t : List ℕ). h.done ++ lines t) c.2.0 ∙ append-nil h.done in
          (h.done, (now, p.past), h.text, h.heard, h.written, inl (all, refl, ([], c.1 ∙ ap (λ (t : List ℕ). Some t) c.2.1, refl)))

      -- what is said to the line in the buffer
      abbrev pub Says : Result (Option Past) ConversationFault → Type 0
      Says result = (text : List ℕ) → Holds buffer text
          → TellsLine holds refusals room contents v (now, p.past) new (counted (p.lines + 1)) text (writer, writer') result

      -- the line that was read, and the lines behind it
      record Taken (rest : List ℕ) : Type 0 where
        pub line : List ℕ
        pub after : List ℕ
        pub held : Holds buffer line
        pub left : remaining reader'.inner ≡ Some after
        pub cut : lines rest ≡ line ∷ lines after

      taken : {E : Type 0} (next : NextLine) → ReadsLine {E = E} remaining reader reader' buffer (Ok next) → is_missing next ≡ false → (rest : List ℕ)
          → remaining reader.inner ≡ Some rest → Taken rest
      taken Missing r is rest left = absurd cc
      taken Ended r is rest left =
          let c = r.cut rest left in
          record { line = c.2.0; after = c.0; held = c.2.4; left = c.1; cut = c.2.3 }
      taken Last r is rest left =
          let c = r.cut rest left in
          record { line = rest; after = c.0; held = c.2.2; left = c.1; cut = c.2.0 ∙ ap (λ (t : List ℕ). rest ∷ lines t) (sym c.2.1) }

      last-left : {E : Type 0} (next : NextLine) → ReadsLine {E = E} remaining reader reader' buffer (Ok next) → is_last next ≡ true → (rest : List ℕ)
          → remaining reader.inner ≡ Some rest → remaining reader'.inner ≡ Some []
      last-left Missing r is rest left = absurd cc
      last-left Ended r is rest left = absurd cc
      last-left Last r is rest left = let c = r.cut rest left in c.1 ∙ ap (λ (t : List ℕ). Some t) c.2.1

      last-is-there : (next : NextLine) → is_last next ≡ true → is_missing next ≡ false
      last-is-there Missing is = absurd cc
      last-is-there Ended is = refl
      last-is-there Last is = refl

      -- the number of the next line
      next-number : (h : List (List ℕ)) → p.lines ≡ counted (length h) → counted (p.lines + 1) ≡ counted (length h + 1)
      next-number h e = ap (λ (n : ℕ). counted (n + 1)) e ∙ counted-step (length h)

      number : (h : List (List ℕ)) → p.lines ≡ counted (length h) → counted (p.lines + 1) ≡ counted (0 + length h + 1)
      number h e =
          let same : length h + 1 ≡ 0 + length h + 1 = omega (arith) in
          next-number h e ∙ ap counted same

      -- one line more is behind us
      pub Here-on : {E : Type 0} (next : NextLine) (past : Past) (q : Progress) → q.past ≡ past → q.lines ≡ counted (p.lines + 1)
          → ReadsLine {E = E} remaining reader reader' buffer (Ok next) → is_missing next ≡ false
          → Says (Ok (Some past)) → (script first : List ℕ) → Here from now p reader writer script first → Here from new q reader' writer' script first
      Here-on next past q moved one r some says script first h =
          let t = taken next r some h.rest h.left in
          let (said, heard, on, writes) = says t.line t.held in
          let same = number h.done h.numbered in
          let here = subst (λ (m : Past). Hears holds refusals room v (now, p.past) (new, m) t.line said) (sym moved) heard in
          let pushed = hears-push (opened holds refusals room from) (now, p.past) (new, q.past) 0 h.done h.text t.line said h.heard here on in
          record {
            rest = t.after;
            left = t.left;
            done = h.done ++ t.line ∷ [];
            split = h.split ∙ ap (λ (ls : List (List ℕ)). h.done ++ ls) t.cut ∙ sym (append_assoc h.done (t.line ∷ []) (lines t.after));
            text = h.text ++ told holds refusals room v (counted (p.lines + 1)) said.message;
            heard = subst (λ (n : ℕ). HearsAll holds refusals room v (opened holds refusals room from) (new, q.past) 0 (h.done ++ t.line ∷ []) (h.text ++ told holds refusals room v n said.message)) (sym same) pushed;
            numbered = one ∙ next-number h.done h.numbered ∙ ap counted (sym (length-append h.done (t.line ∷ [])));
            written = wrote-on _ _ first h.text _ h.written writes.ok;
          }

      pub Talking-step : {E : Type 0} (next : NextLine) (past : Past) (q : Progress) → q.past ≡ past → q.lines ≡ counted (p.lines + 1)
          → ReadsLine {E = E} remaining reader reader' buffer (Ok next) → is_missing next ≡ false
          → Says (Ok (Some past)) → writer'.failures ≡ writer.failures → Talking from new q reader0 reader' writer0 writer'
      Talking-step next past q moved one r some says wrote = record {
        read = r.same ∙ i.read;
        wrote = wrote ∙ i.wrote;
        here = λ script first left held. Here-on next past q moved one r some says script first (i.here script first left held);
      }

      -- the last line was answered
      pub Talking-last : {E : Type 0} (next : NextLine) (past : Past) → ReadsLine {E = E} remaining reader reader' buffer (Ok next) → is_last next ≡ true
          → Says (Ok (Some past)) → Tells (AnswersAll holds refusals room v from new) reader0 reader' writer0 writer'
      unfolding Here-on
      Talking-last next past r last says = λ script first left held.
          let h0 = i.here script first left held in
          let q : Progress = record { past = past; lines = counted (p.lines + 1) } in
          let h = Here-on next past q refl refl r (last-is-there next last) says script first h0 in
          let none : h.rest ≡ [] = let s : Some h.rest ≡ Some [] = sym h.left ∙ last-left next r last h0.rest h0.left in cc in
          let all : lines script ≡ h.done = h.split ∙ ap (λ (t : List ℕ). h.done ++ lines t) none ∙ append-nil h.done in
          (h.done, (new, past), h.text, h.heard, h.written, inl (all, refl, ([], h.left ∙ ap (λ (t : List ℕ). Some t) none, refl)))

      -- a line that ends the session
      pub Talking-quit : {E : Type 0} (next : NextLine) → ReadsLine {E = E} remaining reader reader' buffer (Ok next) → is_missing next ≡ false
          → Says (Ok None) → Tells (AnswersAll holds refusals room v from new) reader0 reader' writer0 writer'
      Talking-quit next r some says = λ script first left held.
          let h = i.here script first left held in
          let t = taken next r some h.rest h.left in
          let (past, heard, kept) = says t.line t.held in (
            h.done,
            (now, p.past),
            h.text,
            h.heard,
            ap (λ (w : Tally W). contents w.inner) kept ∙ h.written,
            inr (t.line, lines t.after, past, h.split ∙ ap (λ (ls : List (List ℕ)). h.done ++ ls) t.cut, heard, (t.after, t.left, refl)),
          )

      -- a write failed, or memory ran out
      stops : {E : Type 0} (why : ConversationFault) (next : NextLine) → ReadsLine {E = E} remaining reader reader' buffer (Ok next)
          → is_missing next ≡ false → Says (Err why) → (script first : List ℕ) → Here from now p reader writer script first
          → BreaksOff holds refusals room why v from (exchange script first (contents writer'.inner) (remaining reader'.inner))
      stops Read next r some says script first h = let t = taken next r some h.rest h.left in absurd (says t.line t.held)
      stops Memory next r some says script first h =
          let t = taken next r some h.rest h.left in
          (h.done, lines h.rest, h.split, (now, p.past), h.text, h.heard, ap (λ (w : Tally W). contents w.inner) (says t.line t.held) ∙ h.written)
      stops Write next r some says script first h =
          let t = taken next r some h.rest h.left in
          let (past, said, heard, writes) = says t.line t.held in
          let e = writes.err in (
            h.done,
            lines h.rest,
            h.split,
            (now, p.past),
            h.text,
            h.heard,
            (
              t.line,
              lines t.after,
              t.cut,
              (new, past),
              said,
              heard,
              e.0,
              e.1,
              ap (λ (n : ℕ). told holds refusals room v n said.message) (sym (next-number h.done h.numbered)) ∙ e.2,
              wrote-on _ _ first h.text e.0 h.written e.3,
            ),
          )

      pub fails-unanswered : {E : Type 0} (A : Type 0) (why : ConversationFault) (next : NextLine) → ReadsLine {E = E} remaining reader reader' buffer (Ok next)
          → Counts {A = A} (Err why) writer writer' → FailsBy why reader0 reader' writer0 writer'
      fails-unanswered A Read next r counts = absurd counts
      fails-unanswered A Write next r counts = (r.same ∙ i.read, counts ∙ rw i.wrote refl)
      fails-unanswered A Memory next r counts = (r.same ∙ i.read, counts ∙ i.wrote)

      pub Talking-unanswered : {E : Type 0} (why : ConversationFault) (next : NextLine) → ReadsLine {E = E} remaining reader reader' buffer (Ok next)
          → is_missing next ≡ false → Says (Err why) → Tells (BreaksOff holds refusals room why v from) reader0 reader' writer0 writer'
      Talking-unanswered why next r some says = λ script first left held.
          stops why next r some says script first (i.here script first left held)
