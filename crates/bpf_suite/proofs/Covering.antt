-- What is found of programs, test by test.
use Rattle.std.proofs.Common.{ℕ, ◌≡◌, Bool, true, false, not, cond, List, [], ◌∷◌, ◌++◌, append_assoc, Option, Some, None, Result, Ok, Err, refl, sym, ap, subst, ◌∙◌}
use Rattle.std.specs.Prelude.{IfOk, OnOk, filter, unwrap_or}
use Rattle.std.specs.Option.{option_or}
use Rattle.std.proofs.lemmas.List.{append-nil, map-append}
use Rattle.std.proofs.lemmas.List.Elements.{filter-append}
use Rattle.bpf_isa.specs.Programs.{Checked}
use Rattle.bpf_steps.specs.State.{State}
use Rattle.bpf_cover.specs.Coverage.{Covered, covered}
use Rattle.bpf_cover.specs.Runs.{steps_of}
use Rattle.bpf_cover.specs.Sources.{AreRecords}
use Rattle.bpf_cover.specs.Tracefiles.{record_text}
use Rattle.bpf_text.specs.LineTable.{IsLineTable}
use Rattle.counted_io.specs.Lines.{lines}
use Rattle.bpf_suite.specs.Benches.{shares_program}
use Rattle.bpf_suite.specs.Covers.{AddsSharing, AreBegun, AreRecordsOf, CoversEach, CoversProgram, Finds, IsFound, IsFoundBy, IsRecordOf, Notes, has_program, program_by, program_in, steps_from, steps_in, unlined_text}
use Rattle.bpf_suite.specs.Files.{with_shared}
use Rattle.bpf_suite.specs.Outcomes.{Comes, Outcome}
use Rattle.bpf_suite.specs.Tests.{body_for, has_listing, limit, limited, program, program_line, setting}
use Rattle.bpf_suite.specs.declared.cover.CoverForm.{CoverForm}
use Rattle.bpf_suite.specs.declared.kind.Part.TheVariants as part
use Rattle.bpf_suite.specs.declared.refusal.Refusal.{Refusal}
use Rattle.bpf_suite.specs.declared.section.Section.{Section}

-- a refusal adds nothing
pub notes-nothing : (limit : ℕ) (refusal : Refusal) (found : Option Covered) → Notes limit (Err refusal) found found
notes-nothing limit refusal found = λ program xs known. subst (λ (ys : List State). IsFound program ys found) (sym (append-nil xs)) known

-- a run adds its steps
pub notes-run : (limit : ℕ) (x : State) (old : Option Covered) (begun new : Covered)
    → ((known : Option Checked) (xs : List State) → IsFound known xs old → begun ≡ covered (unwrap_or known x.program) xs)
    → ((program : Checked) (xs : List State) → begun ≡ covered program xs → new ≡ covered program (xs ++ steps_of limit x))
    → Notes limit (Ok x) old (Some new)
notes-run limit x old begun new first next = go where
  go : (known : Option Checked) (xs : List State) → IsFound known xs old → IsFound (option_or known (Some x.program)) (xs ++ steps_of limit x) (Some new)
  go None xs known = ap (λ (c : Covered). Some c) (next x.program xs (first None xs known))
  go (Some program) xs known = ap (λ (c : Covered). Some c) (next program xs (first (Some program) xs known))

-- what was found, or a program of which nothing ran
pub begun-found : (old : Option Covered) (c : Covered) (q : Checked) → old ≡ Some c → (known : Option Checked) (xs : List State) → IsFound known xs old
    → c ≡ covered (unwrap_or known q) xs
begun-found old c q e None xs known = absurd (nothing old c e known.0) where
  nothing : (old : Option Covered) (c : Covered) → old ≡ Some c → old ≡ None → ⊥
  nothing None c e n = cc
  nothing (Some d) c e n = cc
begun-found old c q e (Some program) xs known = same old c (covered program xs) e known where
  same : (old : Option Covered) (c d : Covered) → old ≡ Some c → old ≡ Some d → c ≡ d
  same old c d e f = ap (λ (o : Option Covered). unwrap_or o c) (sym e ∙ f)

pub begun-nothing : (old : Option Covered) (c : Covered) (q : Checked) → old ≡ None → c ≡ covered q [] → (known : Option Checked) (xs : List State)
    → IsFound known xs old → c ≡ covered (unwrap_or known q) xs
begun-nothing old c q e is None xs known = is ∙ ap (covered q) (sym known.1)
begun-nothing old c q e is (Some program) xs known = absurd (some old (covered program xs) e known) where
  some : (old : Option Covered) (d : Covered) → old ≡ None → old ≡ Some d → ⊥
  some None d n e = cc
  some (Some c) d n e = cc

-- one test more
begun-more : (tests : List (List Section)) (outcomes : List Outcome) (test : List Section) (outcome : Outcome) → AreBegun tests outcomes
    → Comes (limited 0 (setting test)) outcome → AreBegun (tests ++ test ∷ []) (outcomes ++ outcome ∷ [])
begun-more [] [] test outcome are comes = (comes, refl)
begun-more [] (o ∷ os) test outcome are comes = cc
begun-more (t ∷ ts) [] test outcome are comes = absurd are
begun-more (t ∷ ts) (o ∷ os) test outcome are comes = (are.0, begun-more ts os test outcome are.1 comes)

program-more : (found : Option Checked) (outcomes : List Outcome) (outcome : Outcome)
    → program_in found (outcomes ++ outcome ∷ []) ≡ program_by (program_in found outcomes) outcome
program-more found [] outcome = refl
program-more found (o ∷ os) outcome = program-more (program_by found o) os outcome

steps-more : (tests : List (List Section)) (outcomes : List Outcome) (test : List Section) (outcome : Outcome) → AreBegun tests outcomes
    → steps_in (tests ++ test ∷ []) (outcomes ++ outcome ∷ []) ≡ steps_in tests outcomes ++ steps_from (limit test) outcome
steps-more [] [] test outcome are = append-nil (steps_from (limit test) outcome)
steps-more [] (o ∷ os) test outcome are = cc
steps-more (t ∷ ts) [] test outcome are = absurd are
steps-more (t ∷ ts) (o ∷ os) test outcome are =
    ap (λ (xs : List State). steps_from (limit t) o ++ xs) (steps-more ts os test outcome are.1)
    ∙ sym (append_assoc (steps_from (limit t) o) (steps_in ts os) (steps_from (limit test) outcome))

found-more : (tests : List (List Section)) (test : List Section) (old new : Option Covered) → IsFoundBy tests old → Finds test old new
    → IsFoundBy (tests ++ test ∷ []) new
found-more tests test old new found finds =
    let outcomes = found.0 in
    let outcome = finds.0 in (
      outcomes ++ outcome ∷ [],
      begun-more tests outcomes test outcome found.1 finds.1,
      rw (program-more None outcomes outcome, steps-more tests outcomes test outcome found.1) (finds.2 (program_in None outcomes) (steps_in tests outcomes) found.2),
    )

-- a test that shares the program, and one that doesn't
last-shares : (own : List Section) (b : Bool) (done : List (List Section)) → shares_program own ≡ b
    → filter shares_program (done ++ own ∷ []) ≡ filter shares_program done ++ cond b (own ∷ []) []
last-shares own true done e = filter-append shares_program done (own ∷ []) ∙ rw e refl
last-shares own false done e = filter-append shares_program done (own ∷ []) ∙ rw e refl

pub adds-sharing : (shared own : List Section) (old new : Option Covered) → shares_program own ≡ true → Finds (own ++ shared) old new → AddsSharing shared own old new
adds-sharing shared own old new e finds = λ done found.
    rw (last-shares own true done e, map-append (λ o. o ++ shared) (filter shares_program done) (own ∷ []))
    (found-more (with_shared shared (filter shares_program done)) (own ++ shared) old new found finds)

pub adds-nothing : (shared own : List Section) (old : Option Covered) → shares_program own ≡ false → AddsSharing shared own old old
adds-nothing shared own old e = λ done found.
    rw (last-shares own false done e, append-nil (filter shares_program done)) found

pub found-none : IsFoundBy [] None
found-none = ([], refl, (refl, refl))

-- the tables of programs that tests have alone
pub each-behind : (form : CoverForm) (shared : List Section) (owns more : List (List Section)) (front back : List ℕ) → CoversEach form shared owns front
    → CoversEach form shared more back → CoversEach form shared (owns ++ more) (front ++ back)
each-behind form shared [] more front back e f = rw e f
each-behind form shared (own ∷ owns) more front back e f =
    let rest = each-behind form shared owns more e.1 back e.3 f in
    (e.0, e.1 ++ back, e.2, rest, ap (λ (s : List ℕ). s ++ back) e.4 ∙ append_assoc e.0 e.1 back)

has-own : (own : List Section) (b : Bool) → shares_program own ≡ not b → has_program own ≡ b
has-own own true e = not-same (has_program own) true e where
  not-same : (a b : Bool) → not a ≡ not b → a ≡ b
  not-same true true e = refl
  not-same false false e = refl
  not-same true false e = cc
  not-same false true e = cc
has-own own false e = not-same (has_program own) false e where
  not-same : (a b : Bool) → not a ≡ not b → a ≡ b
  not-same true true e = refl
  not-same false false e = refl
  not-same true false e = cc
  not-same false true e = cc

pub each-sharing : (form : CoverForm) (shared own : List Section) → shares_program own ≡ true → CoversEach form shared (filter has_program (own ∷ [])) []
each-sharing form shared own e = rw (has-own own false e) refl

pub each-alone : (form : CoverForm) (shared own : List Section) (text : List ℕ) → shares_program own ≡ false → CoversProgram form own ((own ++ shared) ∷ []) text
    → CoversEach form shared (filter has_program (own ∷ [])) text
each-alone form shared own text e covers = rw (has-own own true e) (text, [], covers, refl, sym (append-nil text))

pub each-next : (form : CoverForm) (shared own : List Section) (done : List (List Section)) (front text : List ℕ) → CoversEach form shared (filter has_program done) front
    → CoversEach form shared (filter has_program (own ∷ [])) text → CoversEach form shared (filter has_program (done ++ own ∷ [])) (front ++ text)
each-next form shared own done front text e f =
    rw (filter-append has_program done (own ∷ [])) (each-behind form shared (filter has_program done) (filter has_program (own ∷ [])) front text e f)

-- what is found of a test alone
pub found-alone : (test : List Section) (found : Option Covered) → Finds test None found → IsFoundBy (test ∷ []) found
found-alone test found finds = found-more [] test None found found-none finds

-- what follows of an answer
pub on-ok : {A E P Q : Type 0} (r : Result A E) → (P → Q) → OnOk r P → OnOk r Q
on-ok (Ok v) f p = f p
on-ok (Err e) f p = tt

pub if-ok : {A E : Type 0} (r : Result A E) (P Q : A → Type 0) → ((v : A) → P v → Q v) → IfOk r P → IfOk r Q
if-ok (Ok v) P Q f p = f v p
if-ok (Err e) P Q f p = tt

-- the record of a listing, and of another program
pub record-listed : (b : Bool) (file : List ℕ) (test : List Section) (c : Covered) (table : List ℕ) → b ≡ true → IsLineTable (program test) table
    → IsRecordOf b file test c (record_text file (program_line test) (lines table) c.marks)
record-listed b file test c table e is = rw e (table, is, refl)

pub record-unlined : (b : Bool) (file : List ℕ) (test : List Section) (c : Covered) → b ≡ false → IsRecordOf b file test c (unlined_text (program_line test))
record-unlined b file test c e = rw e refl

-- the records of a program with a table of its places, and of another
pub records-placed : (b : Bool) (file : List ℕ) (sections : List Section) (c : Covered) (text : List ℕ) → b ≡ true
    → AreRecords c.marks (body_for part.Lines sections) text → AreRecordsOf b file sections c text
records-placed b file sections c text e are = rw e are

pub records-other : (b : Bool) (file : List ℕ) (sections : List Section) (c : Covered) (text : List ℕ) → b ≡ false
    → IsRecordOf (has_listing sections) file sections c text → AreRecordsOf b file sections c text
records-other b file sections c text e is = rw e is
