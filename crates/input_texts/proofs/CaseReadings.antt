-- A line is read in parts: what came so far, and what each exit has read.
use Rattle.std.proofs.Common.{◌≡◌, ◌+◌, ◌<◌, ◌≤◌, ◌↔◌, ℕ, Bool, true, false, List, [], ◌∷◌, ◌++◌, Option, Some, None, Ok, Err, IsTrue, length, refl, sym, ap, subst, ◌∙◌, arith, append_assoc}
use Rattle.std.proofs.lemmas.List.{append-nil, length-append}
use Rattle.std.specs.Io.KnownBytes.{Consumes, IsAtEnd, prepend_known}
use Rattle.counted_io.specs.Counted.{Tally, one_more}
use Rattle.counted_io.specs.Lines.{lines}
use Rattle.input_texts.specs.ReadLines.{Buffer, Holds, ReadsLine, to_come}
use Rattle.input_texts.specs.ReadsAhead.{HasNoLineFeed, Refills, TakesAhead}
use Rattle.input_texts.specs.declared.case_line.NextLine.TheVariants.{Ended, Last, Missing}
use Rattle.input_texts.specs.declared.case_line.ReadFault.TheVariants as fault
use Rattle.counted_io.proofs.Lines.{lines-first}
use Rattle.input_texts.proofs.CaseLines.{HasNoLineFeed-append, lines-last}

-- what is left behind a line feed
cut-line : (known : Option (List ℕ)) (part more rest : List ℕ) → prepend_known (part ++ 10 ∷ more) known ≡ Some rest
    → (left : List ℕ) × (prepend_known more known ≡ Some left) × (rest ≡ part ++ 10 ∷ left)
cut-line None part more rest e = absurd cc
cut-line (Some xs) part more rest e =
    let s : (part ++ 10 ∷ more) ++ xs ≡ rest = cc in
    (more ++ xs, refl, sym s ∙ append_assoc part (10 ∷ more) xs)

-- what is left where a part was taken, and others came in its place
refilled : (old new : Option (List ℕ)) (part ahead rest : List ℕ) → prepend_known part old ≡ Some rest → Consumes old new ahead
    → (left : List ℕ) × (prepend_known ahead new ≡ Some left) × (rest ≡ part ++ left)
refilled None new part ahead rest e h = absurd cc
refilled (Some xs) None part ahead rest e h = absurd h
refilled (Some xs) (Some ys) part ahead rest e h =
    let s : part ++ xs ≡ rest = cc in
    (ahead ++ ys, refl, sym s ∙ ap (λ (v : List ℕ). part ++ v) h)

-- nothing is left at the end
ended : (known : Option (List ℕ)) (ahead left : List ℕ) → prepend_known ahead known ≡ Some left → ahead ≡ [] → IsAtEnd known → left ≡ []
ended None ahead left e none end = absurd cc
ended (Some xs) ahead left e none end = let s : ahead ++ xs ≡ left = cc in sym s ∙ ap (λ (v : List ℕ). v ++ xs) none ∙ end

-- bytes are fewer behind a line feed
fewer : (ahead part more : List ℕ) → ahead ≡ part ++ 10 ∷ more → length more < length ahead
fewer ahead part more e = let n = ap length e ∙ length-append part (10 ∷ more) in omega (arith, n)

-- a text without a line feed that isn't empty is its last line
last-line : (front : List ℕ) → HasNoLineFeed front → (front ≡ [] → ⊥) → lines front ≡ front ∷ []
last-line [] none some = absurd (some refl)
last-line (byte ∷ front) none some = lines-last byte front none

module _ {R : Type 0} (remaining : R → Option (List ℕ)) where
  -- the bytes that came so far: no line feed among them, in the buffer, and in front of what is left
  pub record Reading (old : Tally R) (first : List ℕ) (now : Tally R) (ahead : List ℕ) (buffer : Buffer) : Type 0 where
    pub same : now.failures ≡ old.failures
    pub nearer : to_come now ahead ≤ to_come old first
    pub front : List ℕ
    pub none : HasNoLineFeed front
    pub held : Holds buffer front
    pub came : (text : List ℕ) → prepend_known first (remaining old.inner) ≡ Some text
        → (rest : List ℕ) × (prepend_known ahead (remaining now.inner) ≡ Some rest) × (text ≡ front ++ rest)

  pub Reading-start : (old : Tally R) (first : List ℕ) (buffer : Buffer) → Holds buffer [] → Reading old first old first buffer
  Reading-start old first buffer h = record {
    same = refl;
    nearer = omega arith;
    front = [];
    none = refl;
    held = h;
    came = λ text e. (text, e, refl);
  }

  module _ (old now : Tally R) (first ahead : List ℕ) (before after : Buffer) (i : Reading old first now ahead before) where
    -- what is taken of the bytes ahead
    abbrev pub Taken : Bool → List ℕ → Type 0
    Taken ended rest = (line : List ℕ) → Holds before line → TakesAhead ended line after ahead rest

    -- a line feed was ahead
    pub Reading-line : (rest : List ℕ) → Taken true rest → ReadsLine remaining old first now rest after (Ok Ended)
    Reading-line rest takes =
        let t = takes i.front i.held in
        let j = i.nearer in
        let k = fewer ahead t.0 rest t.2 in
        record {
          cut = λ text e.
              let w = i.came text e in
              let d = cut-line (remaining now.inner) t.0 rest w.0 (ap (λ (v : List ℕ). prepend_known v (remaining now.inner)) (sym t.2) ∙ w.1) in
              let line : List ℕ = i.front ++ t.0 in
              let s : text ≡ line ++ 10 ∷ d.0 = w.2 ∙ ap (λ (v : List ℕ). i.front ++ v) d.2 ∙ sym (append_assoc i.front t.0 (10 ∷ d.0)) in
              let none = HasNoLineFeed-append i.front t.0 i.none t.1 in
              (d.0, d.1, (line, s, ap lines s ∙ lines-first line d.0 none, t.3));
          same = i.same;
          nearer = omega (arith, j, k);
          fault = tt;
        }

    -- memory ran out
    pub Reading-full : (rest : List ℕ) → ReadsLine remaining old first now rest after (Err fault.Memory)
    Reading-full rest = record { cut = tt; same = tt; nearer = tt; fault = i.same }

    module _ {E : Type 0} (middle : List ℕ) (takes : Taken false middle) (new : Tally R) (more : List ℕ) where
      -- what was ahead was taken, and what came in its place
      went : (some : Bool) → Refills {E = E} remaining now new more (Ok some) → (text : List ℕ) → prepend_known first (remaining old.inner) ≡ Some text
          → (rest : List ℕ) × (prepend_known more (remaining new.inner) ≡ Some rest) × (text ≡ (i.front ++ (takes i.front i.held).0) ++ rest)
      went some r text e =
          let t = takes i.front i.held in
          let w = i.came text e in
          let d = refilled (remaining now.inner) (remaining new.inner) t.0 more w.0 (ap (λ (v : List ℕ). prepend_known v (remaining now.inner)) (sym t.2.0) ∙ w.1) r.came in
          (d.0, d.1, w.2 ∙ ap (λ (v : List ℕ). i.front ++ v) d.2 ∙ sym (append_assoc i.front t.0 d.0))

      pub Reading-more : Refills {E = E} remaining now new more (Ok true) → Reading old first new more after
      Reading-more r =
          let t = takes i.front i.held in
          let p = r.passed in
          let q = r.room in
          let j = i.nearer in
          record {
            same = r.same ∙ i.same;
            nearer = omega (arith, p.0, p.1, q, j);
            front = i.front ++ t.0;
            none = HasNoLineFeed-append i.front t.0 i.none t.1;
            held = t.3;
            came = went true r;
          }

      -- a read that failed
      pub Reading-fail : (why : E) → Refills remaining now new more (Err why) → ReadsLine remaining old first new more after (Err fault.Read)
      Reading-fail why r = record { cut = tt; same = tt; nearer = tt; fault = r.fault ∙ ap one_more i.same }

      -- the text's end
      at-end : (r : Refills {E = E} remaining now new more (Ok false)) (text : List ℕ) → prepend_known first (remaining old.inner) ≡ Some text
          → (prepend_known more (remaining new.inner) ≡ Some []) × (text ≡ i.front ++ (takes i.front i.held).0)
      at-end r text e =
          let w = went false r text e in
          let z = r.end refl in
          let none = ended (remaining new.inner) more w.0 w.1 z.0 z.1 in
          let line : List ℕ = i.front ++ (takes i.front i.held).0 in
          (w.1 ∙ ap (λ (v : List ℕ). Some v) none, w.2 ∙ ap (λ (v : List ℕ). line ++ v) none ∙ append-nil line)

      last-nearer : Refills {E = E} remaining now new more (Ok false) → to_come new more < to_come old first
      last-nearer r =
          let p = r.passed in
          let j = i.nearer in
          let z : length more ≡ 0 = ap length (r.end refl).0 in
          omega (arith, p.0, p.1, j, z)

      -- no line is left
      pub Reading-missing : (empty : Bool) → Refills {E = E} remaining now new more (Ok false) → ((line : List ℕ) → Holds after line → (IsTrue empty ↔ (line ≡ [])))
          → empty ≡ true → ReadsLine remaining old first new more after (Ok Missing)
      Reading-missing empty r is full =
          let t = takes i.front i.held in
          record {
            cut = λ text e. let d = at-end r text e in ([], d.0, (d.1 ∙ (is (i.front ++ t.0) t.3).0 full, refl));
            same = r.same ∙ i.same;
            nearer = last-nearer r;
            fault = tt;
          }

      -- a last line that isn't empty
      pub Reading-last : (empty : Bool) → Refills {E = E} remaining now new more (Ok false) → ((line : List ℕ) → Holds after line → (IsTrue empty ↔ (line ≡ [])))
          → empty ≡ false → ReadsLine remaining old first new more after (Ok Last)
      Reading-last empty r is some_byte =
          let t = takes i.front i.held in
          let line : List ℕ = i.front ++ t.0 in
          record {
            cut = λ text e.
                let d = at-end r text e in
                let some : line ≡ [] → ⊥ = λ none. (let u = (is line t.3).1 none in cc) in
                let here = last-line line (HasNoLineFeed-append i.front t.0 i.none t.1) some in
                ([], d.0, (ap lines d.1 ∙ here ∙ ap (λ (xs : List ℕ). xs ∷ []) (sym d.1), refl, subst (λ (xs : List ℕ). Holds after xs) (sym d.1) t.3));
            same = r.same ∙ i.same;
            nearer = last-nearer r;
            fault = tt;
          }
