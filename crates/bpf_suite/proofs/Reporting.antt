-- Reports on tests, one after another.
use Rattle.std.proofs.Common.{ℕ, suc, ◌≡◌, ◌+◌, Bool, true, false, ◌&&◌, List, [], ◌∷◌, ◌++◌, append_assoc, length, length-append, Option, Result, Ok, Err, refl, sym, ap, ◌∙◌, arith}
use Rattle.std.specs.Prelude.{IfOk}
use Rattle.std.proofs.lemmas.List.{append-nil}
use Rattle.counted_io.specs.Counted.{Tally, one_more}
use Rattle.counted_io.specs.Writing.{Writes}
use Rattle.std.specs.Io.KnownBytes.{Keeps}
use Rattle.counted_io.proofs.Appending.{Appends-Keeps, Appends-nil, Writes-Writes, Writes-text}
use Rattle.bpf_suite.specs.Outcomes.{Comes, Outcome}
use Rattle.bpf_suite.specs.Reports.{AreOutcomes, BreaksAt, BreaksOff, all_pass, test_text, tests_text}
use Rattle.bpf_suite.specs.Tests.{setting}
use Rattle.bpf_suite.specs.Verdicts.{passes}
use Rattle.bpf_suite.specs.declared.report.SuiteFault.{SuiteFault}
use Rattle.bpf_suite.specs.declared.report.SuiteFault.TheVariants.{Memory, Write}
use Rattle.bpf_suite.specs.declared.section.Section.{Section}

-- a text that was written, whatever is answered beside it
pub Writes-answer : {T A B E F : Type 0} (contents : T → Option (List ℕ)) (a b : Tally T) (x : A) (y : B) (text : List ℕ)
    → Writes {E = E} contents a b (Ok x) text → Writes {E = F} contents a b (Ok y) text
Writes-answer contents a b x y text w = record { ok = w.ok; same = w.same; err = tt; fault = tt }

-- the number of the test behind these
abbrev pub number_after : ℕ → List (List Section) → ℕ
number_after k [] = k
number_after k (test ∷ tests) = number_after (one_more k) tests

number-more : (k : ℕ) (done : List (List Section)) (test : List Section) → number_after k (done ++ test ∷ []) ≡ one_more (number_after k done)
number-more k [] test = refl
number-more k (t ∷ done) test = number-more (one_more k) done test

and-assoc : (a b c : Bool) → (a && (b && c)) ≡ ((a && b) && c)
and-assoc true b c = refl
and-assoc false b c = refl

and-true : (b : Bool) → (b && true) ≡ b
and-true true = refl
and-true false = refl

-- one test more
shorter : (m n : ℕ) → suc m ≡ suc n → m ≡ n
shorter m n e = omega (arith, e)

longer : (m : ℕ) → suc m ≡ 0 → ⊥
longer m e = omega (arith, e)

length-more : {X Y : Type 0} (xs : List X) (ys : List Y) (x : X) (y : Y) → length xs ≡ length ys → length (xs ++ x ∷ []) ≡ length (ys ++ y ∷ [])
length-more xs ys x y e = length-append xs (x ∷ []) ∙ ap (λ n. n + 1) e ∙ sym (length-append ys (y ∷ []))

come-more : (done : List (List Section)) (test : List Section) (outcomes : List Outcome) (outcome : Outcome) → length outcomes ≡ length done
    → AreOutcomes done outcomes → Comes (setting test) outcome → AreOutcomes (done ++ test ∷ []) (outcomes ++ outcome ∷ [])
come-more [] test [] outcome e come comes = (comes, tt)
come-more [] test (o ∷ os) outcome e come comes = absurd (longer (length os) e)
come-more (t ∷ done) test [] outcome e come comes = absurd come
come-more (t ∷ done) test (o ∷ os) outcome e come comes =
    (come.0, come-more done test os outcome (shorter (length os) (length done) e) come.1 comes)

text-more : (file : List ℕ) (k : ℕ) (done : List (List Section)) (test : List Section) (outcomes : List Outcome) (outcome : Outcome) → length outcomes ≡ length done
    → tests_text file k (done ++ test ∷ []) (outcomes ++ outcome ∷ []) ≡ tests_text file k done outcomes ++ test_text file (number_after k done) test outcome
text-more file k [] test [] outcome e = append-nil (test_text file k test outcome)
text-more file k [] test (o ∷ os) outcome e = absurd (longer (length os) e)
text-more file k (t ∷ done) test [] outcome e = absurd (longer (length done) (sym e))
text-more file k (t ∷ done) test (o ∷ os) outcome e =
    ap (λ s. test_text file k t o ++ s) (text-more file (one_more k) done test os outcome (shorter (length os) (length done) e))
    ∙ sym (append_assoc (test_text file k t o) (tests_text file (one_more k) done os) (test_text file (number_after (one_more k) done) test outcome))

pass-more : (done : List (List Section)) (test : List Section) (outcomes : List Outcome) (outcome : Outcome) → length outcomes ≡ length done
    → all_pass (done ++ test ∷ []) (outcomes ++ outcome ∷ []) ≡ (all_pass done outcomes && passes test outcome)
pass-more [] test [] outcome e = and-true (passes test outcome)
pass-more [] test (o ∷ os) outcome e = absurd (longer (length os) e)
pass-more (t ∷ done) test [] outcome e = absurd (longer (length done) (sym e))
pass-more (t ∷ done) test (o ∷ os) outcome e =
    ap (λ b. passes t o && b) (pass-more done test os outcome (shorter (length os) (length done) e))
    ∙ and-assoc (passes t o) (all_pass done os) (passes test outcome)

-- tests that are reported on
pub record Reported {T : Type 0} (contents : T → Option (List ℕ)) (old now : Tally T) (file : List ℕ) (done : List (List Section)) (first number : ℕ)
    (passed : Bool) : Type 0 where
  pub outcomes : List Outcome
  pub long : length outcomes ≡ length done
  pub come : AreOutcomes done outcomes
  pub written : Writes {A = Bool} {E = SuiteFault} contents old now (Ok passed) (tests_text file first done outcomes)
  pub pass : passed ≡ all_pass done outcomes
  pub next : number ≡ number_after first done

module _ {T : Type 0} (contents : T → Option (List ℕ)) (old : Tally T) (file : List ℕ) (first : ℕ) where
  -- none yet
  pub Reported-start : Reported contents old old file [] first first true
  Reported-start = record {
    outcomes = [];
    long = refl;
    come = tt;
    written = record { ok = Appends-nil (contents old.inner); same = refl; err = tt; fault = tt };
    pass = refl;
    next = refl;
  }

  -- one more
  pub Reported-step : (now new : Tally T) (done : List (List Section)) (test : List Section) (number : ℕ) (passed ok : Bool)
      → Reported contents old now file done first number passed
      → (outcome : Outcome) → Comes (setting test) outcome → ok ≡ passes test outcome
      → Writes {A = Bool} {E = SuiteFault} contents now new (Ok ok) (test_text file number test outcome)
      → Reported contents old new file (done ++ test ∷ []) first (one_more number) (passed && ok)
  Reported-step now new done test number passed ok r outcome comes verdict w =
      let told = Writes-Writes contents old now new (Ok passed) (Ok ok) passed (tests_text file first done r.outcomes) (test_text file number test outcome) refl r.written w in
      let text : tests_text file first done r.outcomes ++ test_text file number test outcome ≡ tests_text file first (done ++ test ∷ []) (r.outcomes ++ outcome ∷ []) =
      ap (λ n. tests_text file first done r.outcomes ++ test_text file n test outcome) r.next ∙ sym (text-more file first done test r.outcomes outcome r.long) in
      record {
        outcomes = r.outcomes ++ outcome ∷ [];
        long = length-more r.outcomes done outcome test r.long;
        come = come-more done test r.outcomes outcome r.long r.come comes;
        written = Writes-answer contents old new ok (passed && ok) _ (Writes-text contents old new (Ok ok) _ _ told text);
        pass = ap (λ b. b && ok) r.pass ∙ ap (λ b. all_pass done r.outcomes && b) verdict ∙ sym (pass-more done test r.outcomes outcome r.long);
        next = ap one_more r.next ∙ sym (number-more first done test);
      }

  -- no more
  pub Reported-end : (now : Tally T) (done tests : List (List Section)) (number : ℕ) (passed : Bool) → Reported contents old now file done first number passed
      → done ≡ tests
      → (outcomes : List Outcome) × AreOutcomes tests outcomes × (passed ≡ all_pass tests outcomes)
      × Writes {A = Bool} {E = SuiteFault} contents old now (Ok passed) (tests_text file first tests outcomes)
  Reported-end now done tests number passed r all = rw (← all) (r.outcomes, r.come, r.pass, r.written)

  -- a test at which the run breaks off
  pub Reported-broken : (now new : Tally T) (done left tests : List (List Section)) (test : List Section) (number : ℕ) (passed : Bool) (why : SuiteFault)
      → Reported contents old now file done first number passed → BreaksAt contents why now new file number test → tests ≡ done ++ test ∷ left
      → BreaksOff contents why old new [] file first tests
  Reported-broken now new done left tests test number passed Memory r same all = record {
    done = done;
    left = test ∷ left;
    all = all;
    outcomes = r.outcomes;
    come = r.come;
    written = rw same (Writes-answer contents old now passed tt (tests_text file first done r.outcomes) r.written);
  }
  Reported-broken now new done left tests test number passed Write r b all =
      let told = Writes-Writes {A = Unit {0}} contents old now new (Ok passed) (Err Write) passed (tests_text file first done r.outcomes) (test_text file number test b.0) refl r.written b.2 in
      let text : tests_text file first done r.outcomes ++ test_text file number test b.0 ≡ tests_text file first (done ++ test ∷ []) (r.outcomes ++ b.0 ∷ []) =
      ap (λ n. tests_text file first done r.outcomes ++ test_text file n test b.0) r.next ∙ sym (text-more file first done test r.outcomes b.0 r.long) in
      record {
        done = done ++ test ∷ [];
        left = left;
        all = all ∙ sym (append_assoc done (test ∷ []) left);
        outcomes = r.outcomes ++ b.0 ∷ [];
        come = come-more done test r.outcomes b.0 r.long r.come b.1;
        written = Writes-text contents old new (Err Write) _ _ told text;
      }

-- a run that breaks off behind a text, or in it
pub BreaksOff-behind : {T A E : Type 0} (contents : T → Option (List ℕ)) (a b c : Tally T) (x : A) (why : SuiteFault) (front file : List ℕ) (k : ℕ)
    (tests : List (List Section)) → Writes {A = A} {E = E} contents a b (Ok x) front → BreaksOff contents why b c [] file k tests
    → BreaksOff contents why a c front file k tests
BreaksOff-behind contents a b c x Memory front file k tests w r = record {
  done = r.done;
  left = r.left;
  all = r.all;
  outcomes = r.outcomes;
  come = r.come;
  written = Writes-Writes contents a b c (Ok x) (Ok tt) x front (tests_text file k r.done r.outcomes) refl (Writes-answer contents a b x x front w) r.written;
}
BreaksOff-behind contents a b c x Write front file k tests w r = record {
  done = r.done;
  left = r.left;
  all = r.all;
  outcomes = r.outcomes;
  come = r.come;
  written = Writes-Writes contents a b c (Ok x) (Err Write) x front (tests_text file k r.done r.outcomes) refl (Writes-answer contents a b x x front w) r.written;
}

pub BreaksOff-first : {T A E : Type 0} (contents : T → Option (List ℕ)) (a b : Tally T) (e : E) (front file : List ℕ) (k : ℕ)
    (tests : List (List Section)) → Writes {A = A} {E = E} contents a b (Err e) front → BreaksOff contents Write a b front file k tests
BreaksOff-first contents a b e front file k tests w = record {
  done = [];
  left = tests;
  all = refl;
  outcomes = [];
  come = tt;
  written = rw (append-nil front) (record { ok = tt; same = tt; err = w.err; fault = w.fault });
}

-- a test that came to this
pub told-by : {T : Type 0} (contents : T → Option (List ℕ)) (a b : Tally T) (file : List ℕ) (k : ℕ) (test : List Section) (outcome : Outcome)
    (r : Result Bool SuiteFault) → Comes (setting test) outcome
    → IfOk r (λ passed. (passed ≡ passes test outcome) × Writes contents a b r (test_text file k test outcome))
    → IfOk r (λ passed. (x : Outcome) × Comes (setting test) x × (passed ≡ passes test x) × Writes contents a b r (test_text file k test x))
told-by contents a b file k test outcome (Ok passed) comes told = (outcome, comes, told.0, told.1)
told-by contents a b file k test outcome (Err e) comes told = tt

-- a run that isn't begun
pub BreaksOff-nothing : {T : Type 0} (contents : T → Option (List ℕ)) (a : Tally T) (file : List ℕ) (k : ℕ) (tests : List (List Section))
    → BreaksOff contents Memory a a [] file k tests
BreaksOff-nothing contents a file k tests = record {
  done = [];
  left = tests;
  all = refl;
  outcomes = [];
  come = tt;
  written = record { ok = Appends-nil (contents a.inner); same = refl; err = tt; fault = tt };
}

-- a run whose report stands whole, and isn't flushed
pub BreaksOff-last : {T A E : Type 0} (contents : T → Option (List ℕ)) (a b c : Tally T) (x : A) (front file : List ℕ) (k : ℕ)
    (tests : List (List Section)) (outcomes : List Outcome) → AreOutcomes tests outcomes
    → Writes {A = A} {E = E} contents a b (Ok x) (front ++ tests_text file k tests outcomes) → Keeps (contents b.inner) (contents c.inner)
    → c.failures ≡ one_more b.failures → BreaksOff contents Write a c front file k tests
BreaksOff-last contents a b c x front file k tests outcomes come w kept failed =
    let text = front ++ tests_text file k tests outcomes in
    record {
      done = tests;
      left = [];
      all = sym (append-nil tests);
      outcomes = outcomes;
      come = come;
      written = record {
        ok = tt;
        same = tt;
        err = (text, [], sym (append-nil text), Appends-Keeps (contents a.inner) (contents b.inner) (contents c.inner) text w.ok kept);
        fault = failed ∙ ap one_more w.same;
      };
    }
