-- A line is read a byte at a time: what came so far, and what each exit has read.
use Rattle.std.proofs.Common.{◌≡◌, ◌≢◌, ◌≤◌, ◌↔◌, ℕ, Bool, true, false, List, [], ◌∷◌, ◌++◌, Option, Some, None, Ok, Err, IsTrue, refl, sym, ap, subst, ◌∙◌, arith, append_assoc}
use Rattle.std.proofs.lemmas.List.{append-nil}
use Rattle.std.specs.Io.KnownBytes.{Consumes, IsAtEnd, Keeps}
use Rattle.counted_io.specs.Counted.{Tally, one_more}
use Rattle.counted_io.specs.Reading.{ReadsByte}
use Rattle.counted_io.specs.Lines.{lines}
use Rattle.bpfdb_script.specs.ReadLines.{Buffer, Holds, ReadsLine}
use Rattle.bpfdb_script.specs.declared.line.NextLine.TheVariants.{Ended, Last, Missing}
use Rattle.counted_io.proofs.Lines.{lines-first}
use Rattle.bpfdb_script.proofs.Lines.{HasNoLineFeed, HasNoLineFeed-push, lines-last, line_feeds-none}

-- what a consumed byte leaves
consumed : (old new : Option (List ℕ)) (byte : ℕ) (rest : List ℕ) → old ≡ Some rest → Consumes old new (byte ∷ []) → (left : List ℕ) × (new ≡ Some left) × (rest ≡ byte ∷ left)
consumed None new byte rest e h = absurd cc
consumed (Some xs) None byte rest e h = absurd h
consumed (Some xs) (Some ys) byte rest e h = let s : xs ≡ rest = cc in (ys, refl, sym s ∙ h)

-- nothing is left at the end
ended : (left : Option (List ℕ)) (rest : List ℕ) → left ≡ Some rest → IsAtEnd left → rest ≡ []
ended None rest e h = absurd cc
ended (Some xs) rest e h = let s : xs ≡ rest = cc in sym s ∙ h

kept-left : (old new : Option (List ℕ)) (rest : List ℕ) → old ≡ Some rest → Keeps old new → new ≡ Some rest
kept-left None new rest e k = absurd cc
kept-left (Some xs) None rest e k = absurd k
kept-left (Some xs) (Some ys) rest e k = ap Some k ∙ e

module _ {R : Type 0} (remaining : R → Option (List ℕ)) where
  -- the bytes that came so far: no line feed among them, in the buffer, and in front of what is left
  pub record Reading (old now : Tally R) (buffer : Buffer) : Type 0 where
    pub same : now.failures ≡ old.failures
    pub nearer : old.reads ≤ now.reads
    pub front : List ℕ
    pub none : HasNoLineFeed front
    pub held : Holds buffer front
    pub came : (text : List ℕ) → remaining old.inner ≡ Some text → (rest : List ℕ) × (remaining now.inner ≡ Some rest) × (text ≡ front ++ rest)

  pub Reading-start : (old : Tally R) (buffer : Buffer) → Holds buffer [] → Reading old old buffer
  Reading-start old buffer h = record {
    same = refl;
    nearer = omega arith;
    front = [];
    none = refl;
    held = h;
    came = λ text e. (text, e, refl);
  }

  -- one more byte
  pub Reading-more : {E : Type 0} (old now new : Tally R) (before after : Buffer) (byte : ℕ) → Reading old now before → ReadsByte {E = E} remaining now new (Ok (Some byte)) → byte ≢ 10 → ((line : List ℕ) → Holds before line → Holds after (line ++ byte ∷ [])) → Reading old new after
  Reading-more old now new before after byte i r other push = let p = r.passed in let j = i.nearer in record {
    same = r.same ∙ i.same;
    nearer = omega arith;
    front = i.front ++ byte ∷ [];
    none = HasNoLineFeed-push i.front byte i.none other;
    held = push i.front i.held;
    came = λ text e.
        let w = i.came text e in
        let d = consumed _ _ byte w.0 w.1 r.value in
        (d.0, d.1, w.2 ∙ ap (λ (xs : List ℕ). i.front ++ xs) d.2 ∙ sym (append_assoc i.front (byte ∷ []) d.0));
  }

  -- a line feed
  pub Reading-line : {E : Type 0} (old now new : Tally R) (buffer : Buffer) (byte : ℕ) → Reading old now buffer → ReadsByte {E = E} remaining now new (Ok (Some byte)) → byte ≡ 10 → ReadsLine {E = E} remaining old new buffer (Ok Ended)
  Reading-line old now new buffer byte i r lf = let p = r.passed in let j = i.nearer in record {
    cut = λ text e.
        let w = i.came text e in
        let d = consumed _ _ byte w.0 w.1 r.value in
        let s : text ≡ i.front ++ 10 ∷ d.0 = w.2 ∙ ap (λ (xs : List ℕ). i.front ++ xs) (d.2 ∙ ap (λ (b : ℕ). b ∷ d.0) lf) in
        (d.0, d.1, (i.front, s, line_feeds-none i.front i.none, ap lines s ∙ lines-first i.front d.0 i.none, i.held));
    part = tt;
    same = r.same ∙ i.same;
    nearer = (omega arith, omega arith);
    fault = tt;
  }

  -- a read that failed
  pub Reading-fail : {E : Type 0} (old now new : Tally R) (buffer : Buffer) (fault : E) → Reading old now buffer → ReadsByte remaining now new (Err fault) → ReadsLine remaining old new buffer (Err fault)
  Reading-fail old now new buffer fault i r = record {
    cut = tt;
    part = λ text e.
        let w = i.came text e in
        record { taken = i.front; rest = w.0; split = w.2; none = line_feeds-none i.front i.none; ahead = kept-left _ _ w.0 w.1 r.kept };
    same = tt;
    nearer = tt;
    fault = r.fault ∙ ap one_more i.same;
  }

  -- the text's end
  at-end : {E : Type 0} (old now new : Tally R) (buffer : Buffer) (i : Reading old now buffer) → ReadsByte {E = E} remaining now new (Ok None) → (text : List ℕ) → remaining old.inner ≡ Some text → (remaining new.inner ≡ Some []) × (text ≡ i.front)
  at-end old now new buffer i r text e =
      let w = i.came text e in
      let none = ended _ w.0 w.1 r.value.0 in
      (kept-left _ _ w.0 w.1 r.value.1 ∙ ap Some none, w.2 ∙ ap (λ (xs : List ℕ). i.front ++ xs) none ∙ append-nil i.front)

  -- no line is left
  pub Reading-missing : {E : Type 0} (old now new : Tally R) (buffer : Buffer) (empty : Bool) → Reading old now buffer → ReadsByte {E = E} remaining now new (Ok None) → ((line : List ℕ) → Holds buffer line → (IsTrue empty ↔ (line ≡ []))) → empty ≡ true → ReadsLine {E = E} remaining old new buffer (Ok Missing)
  Reading-missing old now new buffer empty i r is full = let p = r.passed in let j = i.nearer in record {
    cut = λ text e. let d = at-end old now new buffer i r text e in ([], d.0, (d.1 ∙ (is i.front i.held).0 full, refl));
    part = tt;
    same = r.same ∙ i.same;
    nearer = (omega arith, omega arith);
    fault = tt;
  }

  -- a last line that isn't empty
  last-line : (front : List ℕ) → HasNoLineFeed front → (front ≡ [] → ⊥) → lines front ≡ front ∷ []
  last-line [] none some = absurd (some refl)
  last-line (byte ∷ front) none some = lines-last byte front none

  pub Reading-last : {E : Type 0} (old now new : Tally R) (buffer : Buffer) (empty : Bool) → Reading old now buffer → ReadsByte {E = E} remaining now new (Ok None) → ((line : List ℕ) → Holds buffer line → (IsTrue empty ↔ (line ≡ []))) → empty ≡ false → ReadsLine {E = E} remaining old new buffer (Ok Last)
  Reading-last old now new buffer empty i r is some_byte = let p = r.passed in let j = i.nearer in record {
    cut = λ text e.
        let d = at-end old now new buffer i r text e in
        let some : i.front ≡ [] → ⊥ = λ none. (let t = (is i.front i.held).1 none in cc) in
        let here = last-line i.front i.none some in
        ([], d.0, (ap lines d.1 ∙ here ∙ ap (λ (xs : List ℕ). xs ∷ []) (sym d.1), refl, subst (λ (xs : List ℕ). Holds buffer xs) (sym d.1) i.held));
    part = tt;
    same = r.same ∙ i.same;
    nearer = (omega arith, omega arith);
    fault = tt;
  }
