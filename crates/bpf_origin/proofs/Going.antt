-- The pass over a history, as far as it has come.
use Rattle.std.proofs.Common.{◌≡◌, ◌<◌, ◌≤◌, ℕ, ◌+◌, List, [], ◌∷◌, ◌++◌, length, Option, Some, None, refl, sym, ap, subst, ◌∙◌, arith}
use Rattle.std.proofs.lemmas.List.{append-nil}
use Rattle.counted_io.specs.Counted.{Tally}
use Rattle.counted_io.specs.Writing.{WritesAfter}
use Rattle.bpf_journal.specs.Histories.{Record}
use Rattle.bpf_journal.specs.Tracks.{Track}
use Rattle.bpfdb_script.proofs.Telling.{Telling, Telling-start, Telling-step, Telling-end}
use Rattle.bpf_machine.specs.Moves.{overwritten}
use Rattle.bpf_steps.specs.State.{State}
use Rattle.bpf_origin.specs.declared.place.Place.{Place}
use Rattle.bpf_origin.specs.declared.question.Question.{Question}
use Rattle.bpf_origin.specs.declared.question.Extent.{Extent}
use Rattle.bpf_origin.specs.declared.question.Extent.TheVariants.{Whole}
use Rattle.bpf_origin.specs.declared.origin.Turn.{Turn}
use Rattle.bpf_origin.specs.Texts.{left_text}
use Rattle.bpf_origin.specs.Answers.{Answer, answer, rows_from}
use Rattle.bpf_origin.specs.Pasts.{Stand, StandsThere, gone_from, stand}
use Rattle.bpf_origin.specs.Turns.{PassesOver, Written, TakesTurn}
use Rattle.bpf_origin.specs.Writes.{written}
use Rattle.bpf_origin.proofs.Backs.{back_more, back_on}
use Rattle.bpf_origin.proofs.Telling.{told_left}
use Rattle.bpf_origin.proofs.Turning.{turn_unhit}

module _ {P W : Type 0} (state : P → State) (follows : P → Track → Type 0) (contents : W → Option (List ℕ)) (q : Question) (old : Tally W) (before : Written) (whole : Answer) (start : Track) (y : State) (all : ℕ) where
  -- After k moves, with room for n lines.
  pub record Going (k n : ℕ) (wanted : List Place) (p : P) (now : Tally W) (told : Written) : Type 0 where
    pub history : List Record
    pub ahead : List Record
    pub stands : follows p (record { history = history; ahead = ahead })
    pub way : gone_from k start y ≡ stand history ahead (state p)
    pub count : length history + k ≡ all
    pub telling : Telling contents old before now told (answer q k n wanted history (state p)).text whole.text
    pub extent : (answer q k n wanted history (state p)).extent ≡ whole.extent

  -- What the turn after it is known to do.
  abbrev pub Turns : ℕ → ℕ → List Place → P → Tally W → Written → List Place → P → Tally W → Turn → Type 0
  Turns k n wanted p now told left new after turn =
      (r : Record) (h f : List Record) → follows p (record { history = r ∷ h; ahead = f })
      → TakesTurn state follows contents q k n wanted left r h f (state p) new now told after turn

  step_in : (k n : ℕ) (wanted left : List Place) (p new : P) (now after : Tally W) (told : Written) (turn : Turn) (hs f : List Record)
      → follows p (record { history = hs; ahead = f }) → gone_from k start y ≡ stand hs f (state p)
      → length hs + k ≡ all → Telling contents old before now told (answer q k n wanted hs (state p)).text whole.text
      → (answer q k n wanted hs (state p)).extent ≡ whole.extent → k < all → Turns k n wanted p now told left new after turn → turn.cut ≡ None
      → Going (k + 1) turn.lines left new after turn.written
  step_in k n wanted left p new now after told turn [] f stands way count telling extent low turns on = absurd (omega (arith, count, low))
  step_in k n wanted left p new now after told turn (r ∷ h) f stands way count telling extent low turns on =
      let step = (turns r h f stands).on on in
      let from : answer q k n wanted (r ∷ h) (state p) ≡ record { text = step.1.0 ++ (answer q (k + 1) turn.lines left h (state new)).text; extent = (answer q (k + 1) turn.lines left h (state new)).extent } =
      step.1.2 ∙ sym (ap (λ (z : State). record { text = step.1.0 ++ (answer q (k + 1) turn.lines left h z).text; extent = (answer q (k + 1) turn.lines left h z).extent }) step.0.at) in
      record {
        history = h;
        ahead = r ∷ f;
        stands = step.0.on;
        way = back_more k start.history start.ahead y r h f (state p) way ∙ ap (stand h (r ∷ f)) (sym step.0.at);
        count = omega (arith, count);
        telling = Telling-step contents old before now after told turn.written step.1.0 _ _ whole.text telling step.1.1 (ap (λ (a : Answer). a.text) from);
        extent = sym (ap (λ (a : Answer). a.extent) from) ∙ extent;
      }

  pub going_start : (n : ℕ) (wanted : List Place) (p : P) → follows p start → state p ≡ y → length start.history ≡ all → answer q 0 n wanted start.history y ≡ whole → Going 0 n wanted p old before
  going_start n wanted p stands at count e =
      let same : answer q 0 n wanted start.history (state p) ≡ whole = ap (answer q 0 n wanted start.history) at ∙ e in
      record {
        history = start.history;
        ahead = start.ahead;
        stands = stands;
        way = ap (stand start.history start.ahead) (sym at);
        count = omega (arith, count);
        telling = subst (λ (text : List ℕ). Telling contents old before old before text whole.text) (sym (ap (λ (a : Answer). a.text) same)) (Telling-start contents old before whole.text);
        extent = ap (λ (a : Answer). a.extent) same;
      }

  pub going_step : (k n : ℕ) (wanted left : List Place) (p new : P) (now after : Tally W) (told : Written) (turn : Turn)
      → Going k n wanted p now told → k < all → Turns k n wanted p now told left new after turn → turn.cut ≡ None → Going (k + 1) turn.lines left new after turn.written
  going_step k n wanted left p new now after told turn g low turns on =
      step_in k n wanted left p new now after told turn g.history g.ahead g.stands g.way g.count g.telling g.extent low turns on

  -- A move that is passed over writes nothing.
  pub going_past : (k n : ℕ) (wanted left : List Place) (p new : P) (now : Tally W) (told : Written)
      → Going k n wanted p now told → k < all
      → ((r : Record) (h f : List Record) → follows p (record { history = r ∷ h; ahead = f }) → PassesOver state follows wanted left r h f (state p) new)
      → Going (k + 1) n left new now told
  going_past k n wanted left p new now told g low passes =
      going_step k n wanted left p new now now told (record { written = told; lines = n; cut = None; taken = 1 }) g low
      (λ r h f stands.
      let over = passes r h f stands in
      turn_unhit state follows contents q r h f k n wanted left (state p) new now told _ (overwritten r.before r.move) (written (state p) (overwritten r.before r.move)) refl refl over.missed over.still over.back refl)
      refl

  -- It has come as far where nothing changed.
  pub going_stays : (k n : ℕ) (wanted left : List Place) (p new : P) (now : Tally W) (told : Written)
      → Going k n wanted p now told → new ≡ p → left ≡ wanted → Going k n left new now told
  going_stays k n wanted left p new now told g same also =
      subst (λ (ws : List Place). Going k n ws new now told) (sym also) (subst (λ (s : P). Going k n wanted s now told) (sym same) g)

  -- What is known where the answer ends, after so many moves.
  pub record Ends (new : P) (after : Tally W) (last : Written) (e : Extent) (moves : ℕ) : Type 0 where
    pub text : WritesAfter contents old before after last whole.text
    pub extent : e ≡ whole.extent
    pub back : StandsThere state follows new (gone_from moves start y)
    pub within : moves ≤ all

  cut_in : (k n : ℕ) (wanted left : List Place) (p new : P) (now after : Tally W) (told : Written) (turn : Turn) (e : Extent) (hs f : List Record)
      → follows p (record { history = hs; ahead = f }) → gone_from k start y ≡ stand hs f (state p)
      → length hs + k ≡ all → Telling contents old before now told (answer q k n wanted hs (state p)).text whole.text
      → (answer q k n wanted hs (state p)).extent ≡ whole.extent → k < all → Turns k n wanted p now told left new after turn → turn.cut ≡ Some e → turn.taken ≤ 1
      → Ends new after turn.written e (k + turn.taken)
  cut_in k n wanted left p new now after told turn e [] f stands way count telling extent low turns is one = absurd (omega (arith, count, low))
  cut_in k n wanted left p new now after told turn e (r ∷ h) f stands way count telling extent low turns is one =
      let t = turns r h f stands in
      let last = t.cut e is in
      record {
        text = Telling-end contents old before after turn.written [] whole.text
            (Telling-step contents old before now after told turn.written (answer q k n wanted (r ∷ h) (state p)).text _ [] whole.text telling last.1 (sym (append-nil _))) refl;
        extent = sym last.0 ∙ extent;
        back = subst (λ (s : Stand). StandsThere state follows new s) (sym (back_on k turn.taken start.history start.ahead y (r ∷ h) f (state p) way)) t.far;
        within = omega (arith, low, one);
      }

  pub going_cut : (k n : ℕ) (wanted left : List Place) (p new : P) (now after : Tally W) (told : Written) (turn : Turn) (e : Extent)
      → Going k n wanted p now told → k < all → Turns k n wanted p now told left new after turn → turn.cut ≡ Some e → turn.taken ≤ 1 → Ends new after turn.written e (k + turn.taken)
  going_cut k n wanted left p new now after told turn e g low turns is one =
      cut_in k n wanted left p new now after told turn e g.history g.ahead g.stands g.way g.count g.telling g.extent low turns is one

  end_in : (k n : ℕ) (wanted : List Place) (p : P) (now after : Tally W) (told last : Written) (hs f : List Record)
      → follows p (record { history = hs; ahead = f }) → gone_from k start y ≡ stand hs f (state p)
      → length hs + k ≡ all → Telling contents old before now told (answer q k n wanted hs (state p)).text whole.text
      → (answer q k n wanted hs (state p)).extent ≡ whole.extent → k ≡ all → WritesAfter contents now told after last (left_text q.opening (state p) wanted)
      → Ends p after last Whole all
  unfolding rows_from
  end_in k n wanted p now after told last (r ∷ h) f stands way count telling extent full left = absurd (omega (arith, count, full))
  end_in k n wanted p now after told last [] f stands way count telling extent full left = record {
    text = Telling-end contents old before after last [] whole.text
        (Telling-step contents old before now after told last (left_text q.opening (state p) wanted) _ [] whole.text telling left (told_left q.places q.opening (state p) wanted ∙ sym (append-nil _))) refl;
    extent = extent;
    back = subst (λ (m : ℕ). StandsThere state follows p (gone_from m start y)) full
        (subst (λ (s : Stand). StandsThere state follows p s) (sym way) (record { at = refl; on = stands }));
    within = omega arith;
  }

  pub going_end : (k n : ℕ) (wanted : List Place) (p : P) (now after : Tally W) (told last : Written)
      → Going k n wanted p now told → k ≡ all → WritesAfter contents now told after last (left_text q.opening (state p) wanted) → Ends p after last Whole all
  going_end k n wanted p now after told last g full left = end_in k n wanted p now after told last g.history g.ahead g.stands g.way g.count g.telling g.extent full left
