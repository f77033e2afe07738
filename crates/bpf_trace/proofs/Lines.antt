-- Lines that are written one a turn.
use Rattle.std.proofs.Common.{◌≡◌, ◌+◌, ◌-◌, ◌<◌, ℕ, Bool, suc, min, true, false, List, [], ◌∷◌, ◌++◌, drop, take, Option, Result, Ok, Err, sym, ap, subst, ◌∙◌, refl, arith, append_assoc, inl, inr}
use Rattle.std.specs.Prelude.{OnOk}
use Rattle.std.proofs.lemmas.List.{append-nil}
use Rattle.std.proofs.lemmas.List.Concat.{flat_map-append}
use Rattle.counted_io.specs.Counted.{Tally}
use Rattle.counted_io.specs.Writing.{Writes, WritesAfter}
use Rattle.counted_io.proofs.Appending.{Writes-Err}
use Rattle.bpf_entries.specs.Status.{has_ended}
use Rattle.bpf_steps.specs.Next.{next}
use Rattle.bpf_steps.specs.Runs.{Advances}
use Rattle.bpf_steps.specs.State.{State}
use Rattle.bpfdb_script.specs.SlotTexts.{text_of_slot}
use Rattle.bpfdb_script.proofs.Telling.{Telling, Telling-start, Telling-step, Telling-end}
use Rattle.bpf_session.specs.Plain.{plain_end}
use Rattle.bpf_trace.specs.Runs.{steps_of}
use Rattle.bpf_trace.specs.Rows.{Row, row_of, row_text, rows_from, step_rows, text_of_rows, told_in, told_of, trace_text}
use Rattle.bpf_trace.specs.Rows.Row.{End}
use Rattle.bpf_trace.specs.SlotWords.{line_in}
use Rattle.bpf_trace.specs.declared.form.Form.{Form}
use Rattle.bpf_trace.specs.declared.trace.Shown.{Shown}
use Rattle.bpf_trace.proofs.Stepping.{none_ended, none_left, one_more_step, shown_steps}

-- the text of the rows of steps
abbrev lines_from : Shown → List ℕ → ℕ → List State → List ℕ
lines_from shown before k xs = text_of_rows shown (rows_from shown before k xs)

abbrev lines_text : ℕ → Shown → State → List ℕ
lines_text limit shown x = text_of_rows shown (step_rows limit shown x)

-- the row of one
pub row_is : (only_branches : Bool) (form : Form) (told : List ℕ) (k : ℕ) (x : State)
    → line_in only_branches form (told_in form told) k x ≡ row_text form (row_of only_branches told k x)
row_is true form told k x = refl
row_is false form told k x = refl

-- rows and one more
pub with_last : (shown : Shown) (rows : List Row) (last : Row) → text_of_rows shown rows ++ row_text shown.form last ≡ text_of_rows shown (rows ++ last ∷ [])
with_last shown rows last =
    ap (λ (t : List ℕ). text_of_rows shown rows ++ t) (sym (append-nil (row_text shown.form last)))
    ∙ sym (flat_map-append (row_text shown.form) rows (last ∷ []))

-- what was told before a write failed is a beginning of the whole
pub Telling-broken : {W A E : Type 0} (contents : W → Option (List ℕ)) (old : Tally W) (before : Result A E) (now : Tally W) (e : E) (rest whole : List ℕ)
    → Telling contents old before now (Err e) rest whole → WritesAfter contents old before now (Err e) whole
Telling-broken contents old before now e rest whole t = λ first front known.
    subst (Writes contents first now (Err e)) (append_assoc front t.told rest ∙ ap (λ (text : List ℕ). front ++ text) t.parts)
    (Writes-Err contents first now (Err e) e (front ++ t.told) rest refl (t.written first front known))

module _ {W A E : Type 0} (contents : W → Option (List ℕ)) (old : Tally W) (before : Result A E) (shown : Shown) (passed most : ℕ) (x : State) where
  -- so many lines are told, and the rest are those of the steps from here on, behind what was told of the slot before
  abbrev pub TellsLines : ℕ → State → List ℕ → Tally W → Result A E → Type 0
  TellsLines k y last now told = Telling contents old before now told
      (lines_from shown last (passed + k + 1) (steps_of (most - k) y)) (lines_from shown [] (passed + 1) (steps_of most x))

  -- and of its slot
  abbrev line_behind : ℕ → List ℕ → State → List ℕ
  line_behind k last y = row_text shown.form (row_of shown.only_branches (told_of shown last (text_of_slot shown.places y.pc)) (passed + k + 1) y)

  pub lines_start : TellsLines 0 x [] old before
  lines_start =
      let a : passed + 0 + 1 ≡ passed + 1 = omega arith in
      let b : most - 0 ≡ most = omega arith in
      rw (a, b) (Telling-start contents old before _)

  pub lines_step : (k : ℕ) (y : State) (last : List ℕ) (now new : Tally W) (told more : Result A E) → k < most → has_ended y.status ≡ false
      → TellsLines k y last now told → WritesAfter contents now told new more (line_behind k last y)
      → TellsLines (k + 1) (next y) (text_of_slot shown.places y.pc) new more
  lines_step k y last now new told more low on t w =
      let e : most - k ≡ suc (most - (k + 1)) = omega (arith, low) in
      let n : passed + k + 1 + 1 ≡ passed + (k + 1) + 1 = omega arith in
      Telling-step contents old before now new told more (line_behind k last y) _ _ _ t w
      (ap (lines_from shown last (passed + k + 1)) (one_more_step (most - k) (most - (k + 1)) y e on)
      ∙ ap (λ (m : ℕ). line_behind k last y ++ lines_from shown (text_of_slot shown.places y.pc) m (steps_of (most - (k + 1)) (next y))) n)

  pub lines_ended : (k : ℕ) (y : State) (last : List ℕ) (now : Tally W) (told : Result A E) → has_ended y.status ≡ true
      → TellsLines k y last now told → WritesAfter contents old before now told (lines_from shown [] (passed + 1) (steps_of most x))
  lines_ended k y last now told over t =
      Telling-end contents old before now told _ _ t (ap (lines_from shown last (passed + k + 1)) (none_ended (most - k) y over))

  pub lines_all : (k : ℕ) (y : State) (last : List ℕ) (now : Tally W) (told : Result A E) → k ≡ most
      → TellsLines k y last now told → WritesAfter contents old before now told (lines_from shown [] (passed + 1) (steps_of most x))
  lines_all k y last now told all t =
      let e : most - k ≡ 0 = omega (arith, all) in
      Telling-end contents old before now told _ _ t (ap (lines_from shown last (passed + k + 1)) (none_left (most - k) y e))

-- the lines of the steps that are shown
pub shown_lines : (shown : Shown) (limit s count passed : ℕ) (x y : State) → Advances (min limit s) x y passed
    → lines_from shown [] (passed + 1) (steps_of (min (limit - passed) count) y) ≡ lines_from shown [] (s + 1) (take count (drop s (steps_of limit x)))
shown_lines shown limit s count passed x y run = elim (shown_steps limit s count passed x y run) [
  | inl here ↦ ap (λ (n : ℕ). lines_from shown [] (n + 1) (steps_of (min (limit - passed) count) y)) here.0 ∙ ap (lines_from shown [] (s + 1)) (sym here.1)
  | inr none ↦ ap (lines_from shown [] (passed + 1)) none.1 ∙ ap (lines_from shown [] (s + 1)) (sym none.0)
]

-- all of them
pub shown_are : (limit most passed : ℕ) (shown : Shown) (x y : State) → Advances (min limit (shown.from - 1)) x y passed
    → most ≡ min (limit - passed) shown.count → lines_from shown [] (passed + 1) (steps_of most y) ≡ lines_text limit shown x
shown_are limit most passed shown x y run e =
    ap (λ (n : ℕ). lines_from shown [] (passed + 1) (steps_of n y)) e
    ∙ shown_lines shown limit (shown.from - 1) shown.count passed x y run

-- what was written before a write failed is a beginning of more
pub broken_more : {W A E : Type 0} (contents : W → Option (List ℕ)) (old : Tally W) (before : Result A E) (now : Tally W) (e : E) (text more whole : List ℕ)
    → WritesAfter contents old before now (Err e) text → text ++ more ≡ whole → WritesAfter contents old before now (Err e) whole
broken_more contents old before now e text more whole w is = λ first front known.
    subst (Writes contents first now (Err e)) (append_assoc front text more ∙ ap (λ (t : List ℕ). front ++ t) is)
    (Writes-Err contents first now (Err e) e (front ++ text) more refl (w first front known))

-- the whole trace
abbrev end_of : ℕ → Shown → State → List ℕ
end_of limit shown z = row_text shown.form (End (text_of_slot shown.places z.pc) limit z)

pub trace_is : (limit most passed : ℕ) (shown : Shown) (x y z : State) → Advances (min limit (shown.from - 1)) x y passed
    → most ≡ min (limit - passed) shown.count → z ≡ plain_end limit x
    → text_of_rows shown (rows_from shown [] (passed + 1) (steps_of most y)) ++ end_of limit shown z ≡ trace_text limit shown x
trace_is limit most passed shown x y z run e is =
    ap (λ (text : List ℕ). text ++ end_of limit shown z) (shown_are limit most passed shown x y run e)
    ∙ ap (λ (w : State). lines_text limit shown x ++ end_of limit shown w) is
    ∙ with_last shown (step_rows limit shown x) (End (text_of_slot shown.places (plain_end limit x).pc) limit (plain_end limit x))

-- what holds anyway
pub anyway : {A E : Type 0} {P : Type 0} (r : Result A E) → P → OnOk r P
anyway (Ok value) p = p
anyway (Err fault) p = tt {0}
