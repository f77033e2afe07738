-- How often each instruction ran, counted step by step.
use Rattle.std.proofs.Common.{◌≡◌, ◌≢◌, ◌+◌, ◌-◌, ◌<◌, ◌≤◌, ℕ, zero, suc, Bool, Option, Some, None, Result, Ok, Err, ◌++◌, codes, cond, true, false, List, [], ◌∷◌, All, get_or, length, sym, ap, ◌∙◌, refl, arith, inl, inr}
use Rattle.std.specs.Prelude.{◌↔◌, IsErr, IsTrue, decimal, drop, slice_index, slice_set, ◌==◌}
use Rattle.std.specs.Option.{option_map_or}
use Rattle.std.proofs.lemmas.Bool.{cases_eq}
use Rattle.std.proofs.lemmas.Bool.Decides.{nat_tests}
use Rattle.std.proofs.lemmas.List.{drop_all, drop_more, get_or-set_same, get_or-set_other, length-set}
use Rattle.std.proofs.lemmas.List.FromFn.{fill_by_all}
use Rattle.std.proofs.lemmas.List.Sums.{sum_by-cons}
use Rattle.bpf_entries.specs.Status.{has_ended}
use Rattle.bpf_isa.specs.Programs.{Checked, insn_at}
use Rattle.bpf_isa.specs.declared.instruction.Insn.{Insn}
use Rattle.bpfdb_script.specs.Texts.{text_at}
use Rattle.bpf_steps.specs.Next.{next}
use Rattle.bpf_steps.specs.Runs.{Steps}
use Rattle.bpf_steps.specs.State.{State, IsState}
use Rattle.bpf_steps.proofs.Resolved.{start-within}
use Rattle.bpf_machine.proofs.StepLaws.{law_rest}
use Rattle.bpf_trace.specs.Runs.{steps_of}
use Rattle.bpfdb_script.specs.SlotTexts.{SlotTexts, text_of_slot}
use Rattle.bpf_trace.specs.Profiles.{count_line, count_lines, profile_of, times}
use Rattle.bpf_session.specs.Plain.{plain_end}
use Rattle.bpf_trace.proofs.Stepping.{Steps-none, Steps-more, none_ended, none_left, one_more_step, whole_end}

-- so many steps are counted
pub record Counts (limit : ℕ) (x y : State) (k : ℕ) (counts : List ℕ) : Type 0 where
  pub size : length counts ≡ length x.program.insns
  pub same : y.program ≡ x.program
  pub steps : Steps x y k
  pub low : (slot : ℕ) → slice_index counts slot ≤ k
  pub sums : (slot : ℕ) → slice_index counts slot + times (steps_of (limit - k) y) slot ≡ times (steps_of limit x) slot

zero_of : (counts : List ℕ) → All (λ count. count ≡ 0) counts → (slot : ℕ) → slice_index counts slot ≡ 0
zero_of [] zeros slot = refl
zero_of (count ∷ counts) zeros zero = zeros 0 0 (omega arith)
zero_of (count ∷ counts) zeros (suc slot) = zero_of counts (λ k d within. zeros (suc k) d (omega (arith, within))) slot

pub Counts-start : (limit : ℕ) (x : State) (counts : List ℕ) → length counts ≡ length x.program.insns → All (λ count. count ≡ 0) counts
    → Counts limit x x 0 counts
Counts-start limit x counts size zeros = record {
  size = size;
  same = refl;
  steps = Steps-none x;
  low = λ slot. let none = zero_of counts zeros slot in omega (arith, none);
  sums = λ slot.
      let none = zero_of counts zeros slot in
      let all : limit - 0 ≡ limit = omega arith in
      rw (none, all) (omega arith);
}

times_more : (m n : ℕ) (y : State) (slot : ℕ) → m ≡ suc n → has_ended y.status ≡ false
    → times (steps_of m y) slot ≡ cond (y.pc == slot) 1 0 + times (steps_of n (next y)) slot
times_more m n y slot e on =
    ap (λ (xs : List State). times xs slot) (one_more_step m n y e on) ∙ sum_by-cons (λ (x : State). cond (x.pc == slot) 1 0) y (steps_of n (next y))

-- the slot of the next step has a count
pub slot_within : (limit : ℕ) (x y : State) (k : ℕ) (counts : List ℕ) → Counts limit x y k counts → IsState y → y.pc < length counts
slot_within limit x y k counts c is =
    let within = start-within y.program y.pc is.start in
    let same : length y.program.insns ≡ length counts = ap (λ p. length p.insns) c.same ∙ sym c.size in
    omega (arith, within, same)

module _ (limit : ℕ) (x y : State) (k : ℕ) (counts : List ℕ) (c : Counts limit x y k counts) (is : IsState y) (on : has_ended y.status ≡ false) (less : k < limit) where
  here : (slot : ℕ) → slot ≡ y.pc → (slice_index (slice_set counts y.pc (slice_index counts y.pc + 1)) slot ≡ slice_index counts slot + 1) × (◌≡◌ {A = ℕ} (cond (y.pc == slot) 1 0) 1)
  here slot e =
      let within = slot_within limit x y k counts c is in
      let test : (y.pc == slot) ≡ true = grind (arith, nat_tests, e) in (
        ap (slice_index (slice_set counts y.pc (slice_index counts y.pc + 1))) e ∙ get_or-set_same counts y.pc (slice_index counts y.pc + 1) 0 within ∙ ap (λ (s : ℕ). slice_index counts s + 1) (sym e),
        ap (λ (b : Bool). cond {A = ℕ} b 1 0) test,
      )

  there : (slot : ℕ) → slot ≢ y.pc → (slice_index (slice_set counts y.pc (slice_index counts y.pc + 1)) slot ≡ slice_index counts slot) × (◌≡◌ {A = ℕ} (cond (y.pc == slot) 1 0) 0)
  there slot apart =
      let test : (y.pc == slot) ≡ false = grind (arith, nat_tests, apart) in
      (get_or-set_other counts y.pc slot (slice_index counts y.pc + 1) 0 apart, ap (λ (b : Bool). cond {A = ℕ} b 1 0) test)

  pub Counts-step : Counts limit x (next y) (k + 1) (slice_set counts y.pc (slice_index counts y.pc + 1))
  Counts-step =
      let kept = law_rest y is on in
      let e : limit - k ≡ suc (limit - (k + 1)) = omega (arith, less) in
      record {
        size = length-set counts y.pc (slice_index counts y.pc + 1) ∙ c.size;
        same = kept.0 ∙ c.same;
        steps = Steps-more x y k c.steps on;
        low = λ slot. let low = c.low slot in elim (cases_eq slot y.pc) [
          | inl at ↦ let h = here slot at in omega (arith, h.0, low)
          | inr apart ↦ let t = there slot apart in omega (arith, t.0, low)
        ];
        sums = λ slot.
            let sum = c.sums slot in
            let first = times_more (limit - k) (limit - (k + 1)) y slot e on in
            elim (cases_eq slot y.pc) [
              | inl at ↦ let h = here slot at in omega (arith, h.0, h.1, sum, first)
              | inr apart ↦ let t = there slot apart in omega (arith, t.0, t.1, sum, first)
            ];
      }

-- when no step is left, each is counted
pub Counts-end : (limit : ℕ) (x y : State) (k : ℕ) (counts : List ℕ) → Counts limit x y k counts → steps_of (limit - k) y ≡ [] → counts ≡ profile_of limit x
Counts-end limit x y k counts c none =
    fill_by_all (times (steps_of limit x)) counts (length x.program.insns) 0 c.size
    (λ slot within.
    let sum = c.sums slot in
    let rest : times (steps_of (limit - k) y) slot ≡ 0 = ap (λ (xs : List State). times xs slot) none in
    omega (arith, sum, rest))

pub Counts-ended : (limit : ℕ) (x y : State) (k : ℕ) (counts : List ℕ) → Counts limit x y k counts → has_ended y.status ≡ true → counts ≡ profile_of limit x
Counts-ended limit x y k counts c over = Counts-end limit x y k counts c (none_ended (limit - k) y over)

pub Counts-all : (limit : ℕ) (x y : State) (k : ℕ) (counts : List ℕ) → Counts limit x y k counts → k ≡ limit → counts ≡ profile_of limit x
Counts-all limit x y k counts c all =
    let e : limit - k ≡ 0 = omega (arith, all) in
    Counts-end limit x y k counts c (none_left (limit - k) y e)

-- the machine is where a run without history ends
pub Counts-plain : (limit : ℕ) (x y : State) (k : ℕ) (counts : List ℕ) → Counts limit x y k counts → k ≤ limit → (k < limit → has_ended y.status ≡ true) → y ≡ plain_end limit x
Counts-plain limit x y k counts c within all = whole_end limit k x y (record { steps = c.steps; within = within; all = all })

-- a step is taken exactly where the machine runs
pub runs_if_ok : {A E : Type 0} (r : Result A E) (b : Bool) (v : A) → IsErr r ↔ IsTrue b → r ≡ Ok v → b ≡ false
runs_if_ok (Ok w) true v iff e = let no = iff.1 refl in absurd cc
runs_if_ok (Ok w) false v iff e = refl
runs_if_ok (Err x) b v iff e = absurd cc

pub ended_if_err : {A E : Type 0} (r : Result A E) (b : Bool) (fault : E) → IsErr r ↔ IsTrue b → r ≡ Err fault → b ≡ true
ended_if_err (Ok w) b fault iff e = absurd cc
ended_if_err (Err x) b fault iff e = iff.0 refl

-- the line of a slot
pub count_there : (texts : SlotTexts) (p : Checked) (slot count : ℕ) (i : Insn) → Some i ≡ insn_at p slot
    → decimal count ++ codes " " ++ text_at p slot ++ text_of_slot texts slot ++ codes "\n" ≡ count_line texts p slot count
unfolding count_line
count_there texts p slot count i e = ap (λ (o : Option Insn). option_map_or (λ i. decimal count ++ codes " " ++ text_at p slot ++ text_of_slot texts slot ++ codes "\n") o []) e

pub count_nowhere : (texts : SlotTexts) (p : Checked) (slot count : ℕ) → None ≡ insn_at p slot → [] ≡ count_line texts p slot count
unfolding count_line
count_nowhere texts p slot count e = ap (λ (o : Option Insn). option_map_or (λ i. decimal count ++ codes " " ++ text_at p slot ++ text_of_slot texts slot ++ codes "\n") o []) e

-- the lines from a slot on
pub lines_next : (texts : SlotTexts) (p : Checked) (counts : List ℕ) (slot : ℕ) → slot < length counts
    → count_lines texts p slot (drop slot counts) ≡ count_line texts p slot (get_or counts slot 0) ++ count_lines texts p (slot + 1) (drop (slot + 1) counts)
lines_next texts p counts slot within = ap (count_lines texts p slot) (drop_more counts slot 0 within)

pub lines_end : (texts : SlotTexts) (p : Checked) (counts : List ℕ) (slot : ℕ) → length counts ≤ slot → count_lines texts p slot (drop slot counts) ≡ []
lines_end texts p counts slot all = ap (count_lines texts p slot) (drop_all slot counts all)
