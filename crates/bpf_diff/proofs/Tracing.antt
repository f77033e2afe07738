-- A run that goes along a trace.
use Rattle.std.proofs.Common.{◌≡◌, ◌+◌, ◌-◌, ◌<◌, ◌≤◌, ℕ, zero, suc, Bool, true, false, not, List, [], ◌∷◌, ◌++◌, codes, drop, take, reverse, length, Option, Some, None, MatchOption, Result, Ok, Err, IfOk, refl, sym, ap, ap₂, ◌∙◌, arith, inl, inr}
use Rattle.std.specs.Prelude.{◌&&◌, ◌||◌, ◌==◌, if◌then◌else◌}
use Rattle.std.specs.Borrow.{Bor}
use Rattle.std.specs.Option.{option_map_or}
use Rattle.std.proofs.lemmas.Bool.{and_parts, not-true}
use Rattle.std.proofs.lemmas.Bool.Decides.{nat_tests}
use Rattle.std.proofs.lemmas.List.{length-reverse, reverse-append}
use Rattle.bpf_entries.specs.Status.{has_ended}
use Rattle.bpf_isa.specs.Programs.{IsStart}
use Rattle.bpf_steps.specs.Next.{next}
use Rattle.bpf_steps.specs.Runs.{Steps}
use Rattle.bpf_steps.specs.State.{State}
use Rattle.bpf_session.specs.Plain.{plain_end}
use Rattle.bpf_trace.specs.Runs.{steps_of}
use Rattle.bpf_trace.specs.Taken.{Took}
use Rattle.bpf_trace.specs.Traces.{end_line, step_line}
use Rattle.bpf_trace.specs.declared.taken.Taken.{Taken}
use Rattle.bpf_trace.proofs.Stepping.{Steps-none, Steps-more, drop_steps, next-program, none_ended, none_left, one_more_step, shift, whole_end}
use Rattle.bpf_diff.specs.Against.{against_text, agreed, answer, are_told, at_end, behind_end, end_here, entries_of, is_end_told, is_line, is_whole, says, unplaced, tells_run, there}
use Rattle.bpf_diff.specs.Noted.{Along, Halts, IsOtherwise, IsOver, Leaves, Stops, next_lines, otherwise_text}
use Rattle.bpf_diff.specs.Writers.{last_step}
use Rattle.input_texts.specs.declared.trace_form.Form.{Form}
use Rattle.input_texts.specs.declared.trace_form.Form.TheVariants as form

-- the next line of those that are left
pub leaves : (left rest : List (List ℕ)) (line : Option (Bor (List ℕ)))
    → MatchOption line ((left ≡ []) × (rest ≡ [])) (λ text. left ≡ text.now ∷ rest) → Leaves left line rest
leaves left rest None is = is
leaves left rest (Some text) is = is

-- no step is taken yet
pub Along-start : (form : Form) (limit : ℕ) (x : State) (told : List (List ℕ)) → Along form limit x told x told 0
Along-start form limit x told =
    let e : limit - 0 ≡ limit = omega arith in
    let same = ap (λ (m : ℕ). agreed form 1 (steps_of m x) told) e in
    record { steps = Steps-none x; within = omega arith; lines = refl; rest = omega (arith, same) }

-- one more, which the next line tells
agree-more : (form : Form) (m n k : ℕ) (a : State) (line : List ℕ) (rest : List (List ℕ)) → m ≡ suc n → has_ended a.status ≡ false
    → says form k a line ≡ true → agreed form k (steps_of m a) (line ∷ rest) ≡ suc (agreed form (suc k) (steps_of n (next a)) rest)
agree-more form m n k a line rest e on is =
    ap (λ (xs : List State). agreed form k xs (line ∷ rest)) (one_more_step m n a e on)
    ∙ ap (λ (b : Bool). if b then suc (agreed form (suc k) (steps_of n (next a)) rest) else 0) is

drop-more : (n : ℕ) (xs rest : List (List ℕ)) (line : List ℕ) → drop n xs ≡ line ∷ rest → drop (suc n) xs ≡ rest
drop-more zero [] rest line e = absurd cc
drop-more zero (l ∷ xs) rest line e = ap (drop 1) e
drop-more (suc n) [] rest line e = absurd cc
drop-more (suc n) (l ∷ xs) rest line e = drop-more n xs rest line e

module _ (form : Form) (limit : ℕ) (x : State) (told : List (List ℕ)) (a : State) (left : List (List ℕ)) (k : ℕ)
    (g : Along form limit x told a left k) where
  pub Along-step : (line : List ℕ) (rest : List (List ℕ)) → left ≡ line ∷ rest → k < limit → has_ended a.status ≡ false
      → says form (suc k) a line ≡ true → Along form limit x told (next a) rest (k + 1)
  Along-step line rest e low on is =
      let less : limit - k ≡ suc (limit - (k + 1)) = omega (arith, low) in
      let f : suc k ≡ k + 1 = omega arith in
      let more = agree-more form (limit - k) (limit - (k + 1)) (suc k) a line rest less on is in
      let here = ap (λ (ls : List (List ℕ)). agreed form (suc k) (steps_of (limit - k) a) ls) e in
      let there = ap (λ (n : ℕ). agreed form (suc n) (steps_of (limit - (k + 1)) (next a)) rest) f in
      let all = g.rest in
      record {
        steps = Steps-more x a k g.steps on;
        within = omega (arith, low);
        lines = ap (λ (n : ℕ). drop n told) (sym f) ∙ drop-more k told rest line (g.lines ∙ e);
        rest = omega (arith, all, here, more, there);
      }

  -- the run is over
  over-none : IsOver limit k a → steps_of (limit - k) a ≡ []
  over-none (inl all) = let e : limit - k ≡ 0 = omega (arith, all) in none_left (limit - k) a e
  over-none (inr ended) = none_ended (limit - k) a ended

  over-all : IsOver limit k a → k < limit → has_ended a.status ≡ true
  over-all (inl all) low = absurd (omega (arith, all, low))
  over-all (inr ended) low = ended

  pub over-end : IsOver limit k a → a ≡ plain_end limit x
  over-end over = whole_end limit k x a (record { steps = g.steps; within = g.within; all = over-all over })

  agreed-over : IsOver limit k a → agreed form 1 (steps_of limit x) told ≡ k
  agreed-over over =
      let none = ap (λ (xs : List State). agreed form (suc k) xs left) (over-none over) in
      let all = g.rest in
      omega (arith, all, none)

  left-over : IsOver limit k a → drop k (steps_of limit x) ≡ []
  left-over over = drop_steps k limit x a g.steps g.within ∙ over-none over

  pub over-text : IsOver limit k a → against_text form limit x told ≡ at_end form limit k a left
  over-text over =
      ap (λ (n : ℕ). answer form limit n (reverse (take n (steps_of limit x))) (drop n (steps_of limit x)) (plain_end limit x) (drop n told))
      (agreed-over over)
      ∙ ap (λ (xs : List State). answer form limit k (reverse (take k (steps_of limit x))) xs (plain_end limit x) (drop k told)) (left-over over)
      ∙ ap₂ (at_end form limit k) (sym (over-end over)) g.lines

  pub over-told : IsOver limit k a → (is_end_told form limit a left && has_ended a.status) ≡ tells_run form limit x told
  over-told over =
      sym (
      ap (λ (n : ℕ). is_whole form limit (drop n (steps_of limit x)) (plain_end limit x) (drop n told)) (agreed-over over)
      ∙ ap (λ (xs : List State). is_whole form limit xs (plain_end limit x) (drop k told)) (left-over over)
      ∙ ap₂ (λ (y : State) (ls : List (List ℕ)). is_end_told form limit y ls && has_ended y.status) (sym (over-end over)) g.lines
      )

-- behind the end of a run, of registers
pub end-text : (limit k : ℕ) (a : State) (left rest : List (List ℕ)) (line : Option (Bor (List ℕ))) → Leaves left line rest
    → behind_end limit k a (next_lines line) ≡ at_end form.Registers limit k a left
end-text limit k a left rest None is = sym (ap (at_end form.Registers limit k a) is.0)
end-text limit k a left rest (Some text) is = sym (ap (at_end form.Registers limit k a) is)

pub end-told : (limit : ℕ) (a : State) (left rest : List (List ℕ)) (line : Option (Bor (List ℕ))) → Leaves left line rest
    → (is_end_told form.Registers limit a (next_lines line) && has_ended a.status)
    ≡ (is_end_told form.Registers limit a left && has_ended a.status)
end-told limit a left rest None is = sym (ap (λ (ls : List (List ℕ)). is_end_told form.Registers limit a ls && has_ended a.status) is.0)
end-told limit a left rest (Some text) is = sym (ap (λ (ls : List (List ℕ)). is_end_told form.Registers limit a ls && has_ended a.status) is)

-- a step that the next line doesn't tell
module _ (form : Form) (limit : ℕ) (x : State) (told : List (List ℕ)) (a : State) (n : ℕ) (line : Option (Bor (List ℕ))) (rest : List (List ℕ))
    (h : Halts form limit x told a n line rest) (low : n < limit) (on : has_ended a.status ≡ false) where
  abbrev more : List State
  more = steps_of (limit - (n + 1)) (next a)

  next-step : steps_of (limit - n) a ≡ a ∷ more
  next-step = one_more_step (limit - n) (limit - (n + 1)) a (omega (arith, low)) on

  dropped : drop n (steps_of limit x) ≡ a ∷ more
  dropped = drop_steps n limit x a h.along.steps h.along.within ∙ next-step

  stop-at : (next : Option (Bor (List ℕ))) → Leaves h.left next rest → IsOtherwise form (suc n) a next
      → agreed form (suc n) (a ∷ more) h.left ≡ 0
  stop-at None is isnt = ap (agreed form (suc n) (a ∷ more)) is.0
  stop-at (Some text) is isnt =
      ap (agreed form (suc n) (a ∷ more)) is ∙ ap (λ (b : Bool). if b then suc (agreed form (suc (suc n)) more rest) else 0) isnt

  agreed-at : IsOtherwise form (suc n) a line → agreed form 1 (steps_of limit x) told ≡ n
  agreed-at isnt =
      let none = ap (λ (xs : List State). agreed form (suc n) xs h.left) next-step ∙ stop-at line h.next isnt in
      let all = h.along.rest in
      omega (arith, all, none)

  told-at : (next : Option (Bor (List ℕ))) → Leaves h.left next rest → (before : List State) (y : State)
      → answer form limit n before (a ∷ more) y h.left ≡ otherwise_text form n before a next
  told-at None is before y = ap (answer form limit n before (a ∷ more) y) is.0
  told-at (Some text) is before y = ap (answer form limit n before (a ∷ more) y) is

  pub otherwise-text : IsOtherwise form (suc n) a line
      → otherwise_text form n (reverse (take n (steps_of limit x))) a line ≡ against_text form limit x told
  otherwise-text isnt =
      sym (
      ap (λ (k : ℕ). answer form limit k (reverse (take k (steps_of limit x))) (drop k (steps_of limit x)) (plain_end limit x) (drop k told))
      (agreed-at isnt)
      ∙ ap₂ (λ (xs : List State) (ls : List (List ℕ)). answer form limit n (reverse (take n (steps_of limit x))) xs (plain_end limit x) ls)
      dropped h.along.lines
      ∙ told-at line h.next (reverse (take n (steps_of limit x))) (plain_end limit x)
      )

  pub otherwise-told : IsOtherwise form (suc n) a line → false ≡ tells_run form limit x told
  otherwise-told isnt =
      sym (
      ap (λ (k : ℕ). is_whole form limit (drop k (steps_of limit x)) (plain_end limit x) (drop k told)) (agreed-at isnt)
      ∙ ap (λ (xs : List State). is_whole form limit xs (plain_end limit x) (drop n told)) dropped
      )

-- whether registers are told
none-goes : (p : Bool) → (p && false) ≡ true → ⊥
none-goes true e = absurd cc
none-goes false e = absurd cc

abbrev pub is_on : State → Option (Bor (List ℕ)) → Bool
is_on a line = not (has_ended a.status) && option_map_or (λ text. are_told a 0 (entries_of text.now)) line false

pub on-parts : (a : State) (line : Option (Bor (List ℕ))) → is_on a line ≡ true → has_ended a.status ≡ false
on-parts a line goes = not-true (has_ended a.status) (and_parts (not (has_ended a.status)) _ goes).0

pub Along-next : (limit : ℕ) (x : State) (told : List (List ℕ)) (a : State) (left rest : List (List ℕ)) (k : ℕ) (line : Option (Bor (List ℕ)))
    → Along form.Registers limit x told a left k → Leaves left line rest → k < limit → is_on a line ≡ true
    → Along form.Registers limit x told (next a) rest (k + 1)
Along-next limit x told a left rest k None g is low goes = absurd (none-goes (not (has_ended a.status)) goes)
Along-next limit x told a left rest k (Some text) g is low goes =
    Along-step form.Registers limit x told a left k g text.now rest is low (on-parts a (Some text) goes)
    (and_parts (not (has_ended a.status)) (are_told a 0 (entries_of text.now)) goes).1

stop-by : (limit k : ℕ) (a : State) (p : Bool) (line : Option (Bor (List ℕ))) → has_ended a.status ≡ p
    → (not p && option_map_or (λ text. are_told a 0 (entries_of text.now)) line false) ≡ false → Stops form.Registers limit k a line
stop-by limit k a true line e isnt = inl (inr e)
stop-by limit k a false None e isnt = inr tt
stop-by limit k a false (Some text) e isnt = inr isnt

pub stops : (limit k : ℕ) (a : State) (line : Option (Bor (List ℕ))) → is_on a line ≡ false → Stops form.Registers limit k a line
stops limit k a line isnt = stop-by limit k a (has_ended a.status) line refl isnt

-- a run is over, or its next step is told otherwise
pub otherwise-if : (limit k : ℕ) (a : State) (line : Option (Bor (List ℕ))) → Stops form.Registers limit k a line → k < limit
    → has_ended a.status ≡ false → IsOtherwise form.Registers (suc k) a line
otherwise-if limit k a line (inr other) low on = other
otherwise-if limit k a line (inl (inl all)) low on = absurd (omega (arith, all, low))
otherwise-if limit k a line (inl (inr ended)) low on = absurd (let e = sym on ∙ ended in cc)

-- whether a run is over
over-by : (limit n : ℕ) (a : State) (p : Bool) → has_ended a.status ≡ p → (p || (n == limit)) ≡ true → IsOver limit n a
over-by limit n a true e is = inr e
over-by limit n a false e is = let same : n ≡ limit = grind (arith, nat_tests, is) in inl same

pub over-is : (limit n : ℕ) (a : State) → (has_ended a.status || (n == limit)) ≡ true → IsOver limit n a
over-is limit n a is = over-by limit n a (has_ended a.status) refl is

goes-by : (limit n : ℕ) (a : State) (p : Bool) → has_ended a.status ≡ p → (p || (n == limit)) ≡ false → n ≤ limit
    → (n < limit) × (has_ended a.status ≡ false)
goes-by limit n a true e isnt most = absurd cc
goes-by limit n a false e isnt most = let less : n < limit = grind (arith, nat_tests, isnt, most) in (less, e)

pub goes-is : (limit n : ℕ) (a : State) → (has_ended a.status || (n == limit)) ≡ false → n ≤ limit
    → (n < limit) × (has_ended a.status ≡ false)
goes-is limit n a isnt most = goes-by limit n a (has_ended a.status) refl isnt most

-- the steps so far
tail : (x a : State) (n : ℕ) → Steps x a (suc n) → Steps (next x) a n
tail x a n s = record {
  state = s.state ∙ sym (shift n x);
  running = λ k low. ap (λ (w : State). has_ended w.status) (shift k x) ∙ s.running (suc k) (omega (arith, low));
}

taken-more : (n limit : ℕ) (x a : State) → Steps x a n → n < limit → has_ended a.status ≡ false
    → take (suc n) (steps_of limit x) ≡ take n (steps_of limit x) ++ a ∷ []
taken-more zero zero x a s low on = absurd (omega (arith, low))
taken-more zero (suc limit) x a s low on =
    let e : has_ended x.status ≡ false = ap (λ (z : State). has_ended z.status) (sym s.state) ∙ on in
    ap (take 1) (one_more_step (suc limit) limit x refl e) ∙ ap (λ (z : State). z ∷ []) (sym s.state)
taken-more (suc n) zero x a s low on = absurd (omega (arith, low))
taken-more (suc n) (suc limit) x a s low on =
    let e : has_ended x.status ≡ false = s.running 0 (omega arith) in
    let more = one_more_step (suc limit) limit x refl e in
    ap (take (suc (suc n))) more
    ∙ ap (λ (l : List State). x ∷ l) (taken-more n limit (next x) a (tail x a n s) (omega (arith, low)) on)
    ∙ ap (λ (l : List State). take (suc n) l ++ a ∷ []) (sym more)

counted : (n limit : ℕ) (x a : State) → Steps x a n → n ≤ limit → length (take n (steps_of limit x)) ≡ n
counted zero limit x a s within = refl
counted (suc n) zero x a s within = absurd (omega (arith, within))
counted (suc n) (suc limit) x a s within =
    let e : has_ended x.status ≡ false = s.running 0 (omega arith) in
    ap (λ (l : List State). length (take (suc n) l)) (one_more_step (suc limit) limit x refl e)
    ∙ ap suc (counted n limit (next x) a (tail x a n s) (omega (arith, within)))

module _ (limit k : ℕ) (x a : State) (s : Steps x a k) where
  pub behind-one : k < limit → has_ended a.status ≡ false
      → reverse (take (k + 1) (steps_of limit x)) ≡ a ∷ reverse (take k (steps_of limit x))
  behind-one low on =
      let f : k + 1 ≡ suc k = omega arith in
      ap (λ (n : ℕ). reverse (take n (steps_of limit x))) f
      ∙ ap reverse (taken-more k limit x a s low on)
      ∙ reverse-append (take k (steps_of limit x)) (a ∷ [])

  pub number-of : k < limit → (last_step (a ∷ reverse (take k (steps_of limit x)))).step ≡ k + 1
  number-of low =
      let e : length (reverse (take k (steps_of limit x))) ≡ k =
      length-reverse (take k (steps_of limit x)) ∙ counted k limit x a s (omega (arith, low)) in
      let f : suc k ≡ k + 1 = omega arith in
      ap suc e ∙ f

-- where a step that was taken stood
pub took-start : (x y : State) (taken : Taken) → Took x y taken → IsStart y.program taken.slot
took-start x y taken t = rw (t.next, next-program x, t.slot) t.is.start

-- steps as `trace` tells them
abbrev pub is_step : ℕ → State → Option (Bor (List ℕ)) → Bool
is_step number x line = option_map_or (λ text. is_line (step_line [] number x) (unplaced text.now)) line false

pub steps-otherwise : (k : ℕ) (a : State) (line : Option (Bor (List ℕ))) → is_step (k + 1) a line ≡ false → IsOtherwise form.Steps (suc k) a line
steps-otherwise k a None isnt = tt
steps-otherwise k a (Some text) isnt =
    let f : suc k ≡ k + 1 = omega arith in
    ap (λ (n : ℕ). is_line (step_line [] n a) (unplaced text.now)) f ∙ isnt

pub steps-next : (limit : ℕ) (x : State) (told : List (List ℕ)) (a : State) (left rest : List (List ℕ)) (k : ℕ) (line : Option (Bor (List ℕ)))
    → Along form.Steps limit x told a left k → Leaves left line rest → k < limit → has_ended a.status ≡ false → is_step (k + 1) a line ≡ true
    → Along form.Steps limit x told (next a) rest (k + 1)
steps-next limit x told a left rest k None g is low on does = absurd cc
steps-next limit x told a left rest k (Some text) g is low on does =
    let f : suc k ≡ k + 1 = omega arith in
    Along-step form.Steps limit x told a left k g text.now rest is low on (ap (λ (n : ℕ). is_line (step_line [] n a) (unplaced text.now)) f ∙ does)

-- at the end of a run, as `trace` tells it
pub none-text : (limit n : ℕ) (a : State) (left rest : List (List ℕ)) → Leaves left None rest
    → at_end form.Steps limit n a [] ≡ at_end form.Steps limit n a left
none-text limit n a left rest is = sym (ap (at_end form.Steps limit n a) is.0)

pub none-told : (limit : ℕ) (a : State) (left rest : List (List ℕ)) → Leaves left None rest
    → false ≡ (is_end_told form.Steps limit a left && has_ended a.status)
none-told limit a left rest is = sym (ap (λ (ls : List (List ℕ)). is_end_told form.Steps limit a ls && has_ended a.status) is.0)

-- the lines behind the one of the end
lines-of : (line : Option (Bor (List ℕ))) → (rest more : List (List ℕ)) → MatchOption line ((rest ≡ []) × (more ≡ [])) (λ text. rest ≡ text.now ∷ more)
    → (limit n : ℕ) (a : State) → behind_end limit n a (next_lines line) ≡ behind_end limit n a rest
lines-of None rest more is limit n a = sym (ap (behind_end limit n a) is.0)
lines-of (Some text) rest more is limit n a = sym (ap (behind_end limit n a) is)

told-behind : (line : Option (Bor (List ℕ))) → (text : List ℕ) (rest more : List (List ℕ))
    → MatchOption line ((rest ≡ []) × (more ≡ [])) (λ next. rest ≡ next.now ∷ more) → (limit : ℕ) (a : State) → is_line (end_line limit a) (unplaced text) ≡ true
    → is_end_told form.Registers limit a (next_lines line) ≡ is_end_told form.Steps limit a (text ∷ rest)
told-behind None text rest more is limit a does =
    sym (ap (λ (ls : List (List ℕ)). is_end_told form.Steps limit a (text ∷ ls)) is.0 ∙ does)
told-behind (Some second) text rest more is limit a does = sym (ap (λ (ls : List (List ℕ)). is_end_told form.Steps limit a (text ∷ ls)) is)

module _ (limit n : ℕ) (a : State) (text : Bor (List ℕ)) (left rest : List (List ℕ)) (is : Leaves left (Some text) rest) where
  pub told-text : (line : Option (Bor (List ℕ))) (more : List (List ℕ)) → MatchOption line ((rest ≡ []) × (more ≡ [])) (λ next. rest ≡ next.now ∷ more)
      → is_line (end_line limit a) (unplaced text.now) ≡ true → behind_end limit n a (next_lines line) ≡ at_end form.Steps limit n a left
  told-text line more next does =
      lines-of line rest more next limit n a
      ∙ sym (ap (λ (b : Bool). if b then behind_end limit n a rest
      else codes "the end is told otherwise\n" ++ end_here limit a ++ there text.now) does)
      ∙ sym (ap (at_end form.Steps limit n a) is)

  pub told-told : (line : Option (Bor (List ℕ))) (more : List (List ℕ)) → MatchOption line ((rest ≡ []) × (more ≡ [])) (λ next. rest ≡ next.now ∷ more)
      → is_line (end_line limit a) (unplaced text.now) ≡ true
      → (is_end_told form.Registers limit a (next_lines line) && has_ended a.status) ≡ (is_end_told form.Steps limit a left && has_ended a.status)
  told-told line more next does =
      ap (λ (b : Bool). b && has_ended a.status)
      (told-behind line text.now rest more next limit a does ∙ sym (ap (is_end_told form.Steps limit a) is))

  pub other-text : is_line (end_line limit a) (unplaced text.now) ≡ false
      → codes "the end is told otherwise\n" ++ end_here limit a ++ there text.now ≡ at_end form.Steps limit n a left
  other-text isnt =
      sym (ap (λ (b : Bool). if b then behind_end limit n a rest
      else codes "the end is told otherwise\n" ++ end_here limit a ++ there text.now) isnt)
      ∙ sym (ap (at_end form.Steps limit n a) is)

  other-by : (rest : List (List ℕ)) → is_line (end_line limit a) (unplaced text.now) ≡ false → false ≡ is_end_told form.Steps limit a (text.now ∷ rest)
  other-by [] isnt = sym isnt
  other-by (next ∷ more) isnt = refl

  pub other-told : is_line (end_line limit a) (unplaced text.now) ≡ false → false ≡ (is_end_told form.Steps limit a left && has_ended a.status)
  other-told isnt = ap (λ (b : Bool). b && has_ended a.status) (other-by rest isnt ∙ sym (ap (is_end_told form.Steps limit a) is))

-- what follows from what an answer is
pub map-ok : {A E : Type 0} (r : Result A E) (P Q : A → Type 0) → ((a : A) → P a → Q a) → IfOk r P → IfOk r Q
map-ok (Ok a) P Q f p = f a p
map-ok (Err e) P Q f p = tt
