-- Slots as they are marked, step by step.
use Rattle.std.proofs.Common.{◌≡◌, ◌+◌, ◌-◌, ◌<◌, ◌≤◌, ℕ, zero, suc, Bool, cond, true, false, ◌&&◌, ◌||◌, not, List, [], ◌∷◌, ◌++◌, Result, Ok, Err, get_or, length, sym, ap, ◌∙◌, refl, arith, inl, inr}
use Rattle.std.specs.Prelude.{◌↔◌, IsErr, IsTrue, drop, slice_set, map, ◌==◌}
use Rattle.std.specs.List.{range_with_len}
use Rattle.std.proofs.lemmas.Bool.{cases_eq}
use Rattle.std.proofs.lemmas.Bool.Decides.{nat_tests}
use Rattle.std.proofs.lemmas.List.{drop_all, drop_more, get_or-set_same, get_or-set_other, length-set}
use Rattle.std.proofs.lemmas.List.Folds.{list_any-append}
use Rattle.std.proofs.lemmas.List.FromFn.{fill_by_all, get_or-map-range_with_len, length-map-range_with_len, map-range_with_len_more}
use Rattle.bpf_entries.specs.Status.{has_ended}
use Rattle.bpf_isa.specs.Programs.{Checked}
use Rattle.bpf_steps.specs.Next.{next}
use Rattle.bpf_steps.specs.State.{State, IsState}
use Rattle.bpf_machine.proofs.StepLaws.{law_rest}
use Rattle.bpf_cover.specs.Coverage.{Covered, covered, goes_on, jumped, mark_at, marks_of, miss_line, miss_lines, went_on}
use Rattle.bpf_cover.specs.Marking.{IsMarked, stepped, with_step, with_steps}
use Rattle.bpf_cover.specs.Runs.{steps_of}
use Rattle.bpf_cover.specs.Texts.{slot_text, texts_of}
use Rattle.bpf_cover.specs.declared.coverage.Mark.{Mark}

-- a machine that has ended takes no step, and one that runs takes one
none_ended : (limit : ℕ) (x : State) → has_ended x.status ≡ true → steps_of limit x ≡ []
none_ended zero x over = refl
none_ended (suc limit) x over = rw over refl

none_left : (limit : ℕ) (x : State) → limit ≡ 0 → steps_of limit x ≡ []
none_left limit x e = ap (λ (n : ℕ). steps_of n x) e

one_more_step : (m n : ℕ) (x : State) → m ≡ suc n → has_ended x.status ≡ false → steps_of m x ≡ x ∷ steps_of n (next x)
one_more_step m n x e on = ap (λ (k : ℕ). steps_of k x) e ∙ rw on refl

-- a step is taken exactly where the machine runs
pub runs_if_ok : {A E : Type 0} (r : Result A E) (b : Bool) (v : A) → IsErr r ↔ IsTrue b → r ≡ Ok v → b ≡ false
runs_if_ok (Ok w) true v iff e = let no = iff.1 refl in absurd cc
runs_if_ok (Ok w) false v iff e = refl
runs_if_ok (Err x) b v iff e = absurd cc

pub ended_if_err : {A E : Type 0} (r : Result A E) (b : Bool) (fault : E) → IsErr r ↔ IsTrue b → r ≡ Err fault → b ≡ true
ended_if_err (Ok w) b fault iff e = absurd cc
ended_if_err (Err x) b fault iff e = iff.0 refl

-- one step is marked before others
or-one : (a b c r : Bool) → (a || ((b && c) || r)) ≡ (cond b (a || c) a || r)
or-one true true c r = refl
or-one true false c r = refl
or-one false true true r = refl
or-one false true false r = refl
or-one false false c r = refl

or-none : (a : Bool) → (a || false) ≡ a
or-none true = refl
or-none false = refl

or-more : (a b c : Bool) → ((a || b) || c) ≡ (a || (b || c))
or-more true b c = refl
or-more false b c = refl

abbrev marked : Bool → Bool → Bool → Bool → Mark
marked s f a b = record { starts = s; forks = f; went_on = a; jumped = b }

marks-alike : (s f a b c d : Bool) → a ≡ c → b ≡ d → marked s f a b ≡ marked s f c d
marks-alike s f a b c d e g = ap (λ x. marked s f x b) e ∙ ap (λ y. marked s f c y) g

one-first : (b c : Bool) (xs : List State) (slot : ℕ) (mark : Mark)
    → marked mark.starts mark.forks (mark.went_on || ((b && c) || went_on xs slot)) (mark.jumped || ((b && not c) || jumped xs slot))
    ≡ with_steps xs slot (cond b (with_step c mark) mark)
one-first true c xs slot mark =
    marks-alike mark.starts mark.forks _ _ _ _ (or-one mark.went_on true c (went_on xs slot)) (or-one mark.jumped true (not c) (jumped xs slot))
one-first false c xs slot mark =
    marks-alike mark.starts mark.forks _ _ _ _ (or-one mark.went_on false c (went_on xs slot)) (or-one mark.jumped false (not c) (jumped xs slot))

-- no step marks nothing, and steps behind others mark what they do
no-steps : (slot : ℕ) (mark : Mark) → with_steps [] slot mark ≡ mark
no-steps slot mark = marks-alike mark.starts mark.forks _ _ _ _ (or-none mark.went_on) (or-none mark.jumped)

steps-behind : (program : Checked) (xs ys : List State) (slot : ℕ) → with_steps ys slot (mark_at program xs slot) ≡ mark_at program (xs ++ ys) slot
steps-behind program xs ys slot =
    marks-alike _ _ _ _ _ _ (sym (list_any-append (λ (x : State). x.pc == slot && goes_on x) xs ys)) (sym (list_any-append (λ (x : State). x.pc == slot && not (goes_on x)) xs ys))

-- so many steps are marked
pub record Marks (limit : ℕ) (x y : State) (k : ℕ) (old new : List Mark) : Type 0 where
  pub size : length new ≡ length old
  pub same : y.program ≡ x.program
  pub each : (slot : ℕ) (d : Mark) → slot < length old
      → with_steps (steps_of (limit - k) y) slot (get_or new slot d) ≡ with_steps (steps_of limit x) slot (get_or old slot d)

pub Marks-start : (limit : ℕ) (x : State) (old : List Mark) → Marks limit x x 0 old old
Marks-start limit x old = record {
  size = refl;
  same = refl;
  each = λ slot d within. let all : limit - 0 ≡ limit = omega arith in ap (λ (n : ℕ). with_steps (steps_of n x) slot (get_or old slot d)) all;
}

set-at : (marks : List Mark) (at slot : ℕ) (v d : Mark) → slot < length marks → get_or (slice_set marks at v) slot d ≡ cond (at == slot) v (get_or marks slot d)
set-at marks at slot v d within = elim (cases_eq slot at) [
  | inl here ↦
      let test : (at == slot) ≡ true = grind (arith, nat_tests, here) in
      ap (λ (s : ℕ). get_or (slice_set marks at v) s d) here ∙ get_or-set_same marks at v d (omega (arith, within, here))
      ∙ sym (ap (λ (b : Bool). cond b v (get_or marks slot d)) test)
  | inr apart ↦
      let test : (at == slot) ≡ false = grind (arith, nat_tests, apart) in
      get_or-set_other marks at slot v d apart ∙ sym (ap (λ (b : Bool). cond b v (get_or marks slot d)) test)
]

pub Marks-step : (limit : ℕ) (x y : State) (k : ℕ) (old new now : List Mark) → Marks limit x y k old new → IsState y → has_ended y.status ≡ false → k < limit
    → ((d : Mark) → now ≡ stepped y.pc (goes_on y) new d) → Marks limit x (next y) (k + 1) old now
Marks-step limit x y k old new now m is on less e =
    let kept = law_rest y is on in
    let left : limit - k ≡ suc (limit - (k + 1)) = omega (arith, less) in
    record {
      size = ap length (e (marked false false false false)) ∙ length-set new y.pc _ ∙ m.size;
      same = kept.0 ∙ m.same;
      each = λ slot d within.
          let more : steps_of (limit - k) y ≡ y ∷ steps_of (limit - (k + 1)) (next y) = one_more_step (limit - k) (limit - (k + 1)) y left on in
          let size = m.size in
          let at = set-at new y.pc slot (with_step (goes_on y) (get_or new y.pc d)) d (omega (arith, within, size)) in
          ap (λ (ms : List Mark). with_steps (steps_of (limit - (k + 1)) (next y)) slot (get_or ms slot d)) (e d)
          ∙ ap (with_steps (steps_of (limit - (k + 1)) (next y)) slot) at
          ∙ at-slot (steps_of (limit - (k + 1)) (next y)) slot d
          ∙ ap (λ (xs : List State). with_steps xs slot (get_or new slot d)) (sym more)
          ∙ m.each slot d within;
    } where
      at-slot : (xs : List State) (slot : ℕ) (d : Mark)
          → with_steps xs slot (cond (y.pc == slot) (with_step (goes_on y) (get_or new y.pc d)) (get_or new slot d)) ≡ with_steps (y ∷ xs) slot (get_or new slot d)
      at-slot xs slot d = elim (cases_eq slot y.pc) [
        | inl here ↦ ap (λ (s : ℕ). with_steps xs slot (cond (y.pc == slot) (with_step (goes_on y) (get_or new s d)) (get_or new slot d))) (sym here)
            ∙ sym (one-first (y.pc == slot) (goes_on y) xs slot (get_or new slot d))
        | inr apart ↦
            let test : (y.pc == slot) ≡ false = grind (arith, nat_tests, apart) in
            ap (λ (b : Bool). with_steps xs slot (cond b (with_step (goes_on y) (get_or new y.pc d)) (get_or new slot d))) test
            ∙ sym (ap (λ (b : Bool). with_steps xs slot (cond b (with_step (goes_on y) (get_or new slot d)) (get_or new slot d))) test)
            ∙ sym (one-first (y.pc == slot) (goes_on y) xs slot (get_or new slot d))
      ]

-- when no step is left, all are marked
Marks-end : (limit : ℕ) (x y : State) (k : ℕ) (old new : List Mark) → Marks limit x y k old new → steps_of (limit - k) y ≡ [] → IsMarked (steps_of limit x) old new
Marks-end limit x y k old new m none = record {
  size = m.size;
  each = λ slot d within.
      sym (no-steps slot (get_or new slot d)) ∙ ap (λ (xs : List State). with_steps xs slot (get_or new slot d)) (sym none) ∙ m.each slot d within;
}

pub Marks-ended : (limit : ℕ) (x y : State) (k : ℕ) (old new : List Mark) → Marks limit x y k old new → has_ended y.status ≡ true → IsMarked (steps_of limit x) old new
Marks-ended limit x y k old new m over = Marks-end limit x y k old new m (none_ended (limit - k) y over)

pub Marks-all : (limit : ℕ) (x y : State) (k : ℕ) (old new : List Mark) → Marks limit x y k old new → k ≡ limit → IsMarked (steps_of limit x) old new
Marks-all limit x y k old new m all =
    let e : limit - k ≡ 0 = omega (arith, all) in
    Marks-end limit x y k old new m (none_left (limit - k) y e)

-- the marks of a program after more steps
pub marks-more : (program : Checked) (xs ys : List State) (old new : List Mark) → IsMarked ys old new → old ≡ marks_of program xs → new ≡ marks_of program (xs ++ ys)
marks-more program xs ys old new m e =
    let long : length old ≡ length program.insns = ap length e ∙ length-map-range_with_len (mark_at program xs) 0 (length program.insns) in
    fill_by_all (mark_at program (xs ++ ys)) new (length program.insns) (marked false false false false) (m.size ∙ long)
    (λ slot within.
    let d = marked false false false false in
    m.each slot d (omega (arith, within, long))
    ∙ ap (with_steps ys slot) (ap (λ (ms : List Mark). get_or ms slot d) e ∙ get_or-map-range_with_len (mark_at program xs) 0 (length program.insns) slot slot d within (omega arith))
    ∙ steps-behind program xs ys slot)

abbrev pub covered-by : List Mark → List (List ℕ) → Covered
covered-by marks texts = record { marks = marks; texts = texts }

pub covered-more : (program : Checked) (xs ys : List State) (old new : List Mark) (texts : List (List ℕ)) (c : Covered) → covered-by old texts ≡ c
    → c ≡ covered program xs → IsMarked ys old new → covered-by new texts ≡ covered program (xs ++ ys)
covered-more program xs ys old new texts c view e m =
    ap (λ (ms : List Mark). covered-by ms texts) (marks-more program xs ys old new m (ap (λ (d : Covered). d.marks) (view ∙ e)))
    ∙ ap (λ (ts : List (List ℕ)). covered-by (marks_of program (xs ++ ys)) ts) (ap (λ (d : Covered). d.texts) (view ∙ e))

-- one mark more
pub marks-push : (program : Checked) (marks : List Mark) (slot : ℕ) → marks ≡ map (mark_at program []) (range_with_len 0 slot)
    → marks ++ mark_at program [] slot ∷ [] ≡ map (mark_at program []) (range_with_len 0 (slot + 1))
marks-push program marks slot e =
    ap (λ (ms : List Mark). ms ++ mark_at program [] slot ∷ []) e ∙ sym (map-range_with_len_more (mark_at program []) 0 slot slot (omega arith))

-- as many marks as texts
pub as-many : (program : Checked) (marks : List Mark) (texts : List (List ℕ)) → marks ≡ marks_of program [] → texts ≡ texts_of program → length marks ≡ length texts
as-many program marks texts e f =
    ap length e ∙ length-map-range_with_len (mark_at program []) 0 (length program.insns)
    ∙ sym (ap length f ∙ length-map-range_with_len (slot_text program) 0 (length program.insns))

-- the lines from a slot on
pub lines-next : (texts : List (List ℕ)) (marks : List Mark) (slot : ℕ) (d : Mark) → slot < length texts → slot < length marks
    → miss_lines (drop slot texts) (drop slot marks)
    ≡ miss_line (get_or texts slot []) (get_or marks slot d) ++ miss_lines (drop (slot + 1) texts) (drop (slot + 1) marks)
lines-next texts marks slot d one other =
    ap (λ (ts : List (List ℕ)). miss_lines ts (drop slot marks)) (drop_more texts slot [] one)
    ∙ ap (miss_lines (get_or texts slot [] ∷ drop (slot + 1) texts)) (drop_more marks slot d other)

pub lines-end : (texts : List (List ℕ)) (marks : List Mark) (slot : ℕ) → length marks ≤ slot → miss_lines (drop slot texts) (drop slot marks) ≡ []
lines-end texts marks slot all = ap (miss_lines (drop slot texts)) (drop_all slot marks all) ∙ none (drop slot texts) where
  none : (ts : List (List ℕ)) → miss_lines ts [] ≡ []
  none [] = refl
  none (t ∷ ts) = refl
