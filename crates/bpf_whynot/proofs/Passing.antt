-- The pass over a history, as far as it has come.
use Rattle.std.proofs.Common.{◌≡◌, ◌<◌, ◌≤◌, ℕ, ◌+◌, Bool, true, false, List, [], ◌∷◌, length, Option, Some, None, refl, sym, ap, subst, ◌∙◌, arith}
use Rattle.std.specs.Prelude.{if◌then◌else◌}
use Rattle.bpf_journal.specs.Histories.{Record, is_step}
use Rattle.bpf_journal.specs.TakingBack.{taken_of}
use Rattle.bpf_journal.specs.Tracks.{Track}
use Rattle.bpf_journal.specs.declared.taken.Taken.{Taken}
use Rattle.bpf_steps.specs.State.{State}
use Rattle.bpf_origin.specs.Pasts.{GoesBack, Stand, StandsThere, gone_from, stand}
use Rattle.bpf_origin.proofs.Backs.{back_more}
use Rattle.bpf_whynot.specs.Answers.{Query, left_after, left_by, never_text, only}
use Rattle.bpf_whynot.specs.Standings.{standing}
use Rattle.bpf_whynot.specs.Turns.{IsLeft, IsNeverLeft}
use Rattle.bpf_whynot.specs.declared.standing.Standing.{Standing}

pub left_there : (test : ℕ → State → Bool) (s : Query) (k : ℕ) (r : Record) (h : List Record) (y : State) → test (k + 1) r.before ≡ true
    → left_after test s k (r ∷ h) y ≡ left_by s (k + 1) r h y
unfolding left_after
left_there test s k r h y e = ap (λ (b : Bool). if b then left_by s (k + 1) r h y else left_after test s (k + 1) h r.before) e

pub left_earlier : (test : ℕ → State → Bool) (s : Query) (k : ℕ) (r : Record) (h : List Record) (y : State) → test (k + 1) r.before ≡ false
    → left_after test s k (r ∷ h) y ≡ left_after test s (k + 1) h r.before
unfolding left_after
left_earlier test s k r h y e = ap (λ (b : Bool). if b then left_by s (k + 1) r h y else left_after test s (k + 1) h r.before) e

pub left_never : (test : ℕ → State → Bool) (s : Query) (k : ℕ) (y : State) → left_after test s k [] y ≡ only (never_text s.question.opening)
unfolding left_after
left_never test s k y = refl

step_is : (o : Option Taken) (t : Taken) (r : Record) → o ≡ Some t → o ≡ Some (taken_of r) → t.is_step ≡ is_step r.move
step_is o t r e f = ap (λ (t : Taken). t.is_step) (same t (taken_of r) (sym e ∙ f))
  where
    same : (a b : Taken) → Some a ≡ Some b → a ≡ b
    same a b e = cc

module _ {P : Type 0} (state : P → State) (follows : P → Track → Type 0) (test : ℕ → State → Bool) (t : Track) (y : State) where
  -- After k moves.
  pub record Passed (k : ℕ) (p : P) : Type 0 where
    pub history : List Record
    pub ahead : List Record
    pub stands : follows p (record { history = history; ahead = ahead })
    pub way : gone_from k t y ≡ stand history ahead (state p)
    pub count : length history + k ≡ length t.history
    pub is : (s : Query) → left_after test s 0 t.history y ≡ left_after test s k history (state p)

  pub passed_none : (p : P) → follows p t → state p ≡ y → Passed 0 p
  passed_none p stands at = record {
    history = t.history;
    ahead = t.ahead;
    stands = stands;
    way = ap (stand t.history t.ahead) (sym at);
    count = omega arith;
    is = λ s. ap (left_after test s 0 t.history) (sym at);
  }

  more_in : (taken : Option Taken) (hs f : List Record) (p new : P) (k : ℕ)
      → gone_from k t y ≡ stand hs f (state p) → length hs + k ≡ length t.history → ((s : Query) → left_after test s 0 t.history y ≡ left_after test s k hs (state p))
      → k < length t.history → GoesBack state follows taken hs f p new → test (k + 1) (state new) ≡ false → Passed (k + 1) new
  more_in taken [] f p new k way count is low back none = absurd (omega (arith, count, low))
  more_in taken (r ∷ h) f p new k way count is low back none = record {
    history = h;
    ahead = r ∷ f;
    stands = back.1.on;
    way = back_more k t.history t.ahead y r h f (state p) way ∙ ap (stand h (r ∷ f)) (sym back.1.at);
    count = omega (arith, count);
    is = λ s. is s ∙ left_earlier test s k r h (state p) (ap (test (k + 1)) (sym back.1.at) ∙ none) ∙ ap (left_after test s (k + 1) h) (sym back.1.at);
  }

  pub passed_more : (taken : Option Taken) (p new : P) (k : ℕ) → Passed k p → k < length t.history
      → ((u : Track) → follows p u → GoesBack state follows taken u.history u.ahead p new) → test (k + 1) (state new) ≡ false → Passed (k + 1) new
  passed_more taken p new k g low back none =
      more_in taken g.history g.ahead p new k g.way g.count g.is low (back (record { history = g.history; ahead = g.ahead }) g.stands) none

  found_in : (taken : Option Taken) (one : Taken) (hs f : List Record) (p new : P) (k : ℕ) (after : Standing)
      → taken ≡ Some one → after ≡ standing (state p)
      → gone_from k t y ≡ stand hs f (state p) → length hs + k ≡ length t.history → ((s : Query) → left_after test s 0 t.history y ≡ left_after test s k hs (state p))
      → k < length t.history → GoesBack state follows taken hs f p new → test (k + 1) (state new) ≡ true
      → IsLeft state follows test t y new (record { moves = k + 1; after = after; is_step = one.is_step })
  found_in taken one [] f p new k after some stood way count is low back there = absurd (omega (arith, count, low))
  found_in taken one (r ∷ h) f p new k after some stood way count is low back there = record {
    record_left = r;
    older = h;
    ahead = r ∷ f;
    next = state p;
    way = back_more k t.history t.ahead y r h f (state p) way;
    stands = back.1;
    is = λ s. is s ∙ left_there test s k r h (state p) (ap (test (k + 1)) (sym back.1.at) ∙ there);
    step = step_is taken one r some back.0;
    after = stood;
    count = omega (arith, count);
  }

  pub found : (taken : Option Taken) (one : Taken) (p new : P) (k : ℕ) (after : Standing) → Passed k p → k < length t.history → taken ≡ Some one → after ≡ standing (state p)
      → ((u : Track) → follows p u → GoesBack state follows taken u.history u.ahead p new) → test (k + 1) (state new) ≡ true
      → IsLeft state follows test t y new (record { moves = k + 1; after = after; is_step = one.is_step })
  found taken one p new k after g low some stood back there =
      found_in taken one g.history g.ahead p new k after some stood g.way g.count g.is low (back (record { history = g.history; ahead = g.ahead }) g.stands) there

  never_in : (hs f : List Record) (p : P) (k : ℕ) → follows p (record { history = hs; ahead = f }) → gone_from k t y ≡ stand hs f (state p)
      → length hs + k ≡ length t.history → ((s : Query) → left_after test s 0 t.history y ≡ left_after test s k hs (state p)) → length t.history ≤ k
      → IsNeverLeft state follows test t y p
  never_in (r ∷ h) f p k stands way count is all = absurd (omega (arith, count, all))
  never_in [] f p k stands way count is all = record {
    stands = subst (λ (m : ℕ). StandsThere state follows p (gone_from m t y)) full (subst (λ (s : Stand). StandsThere state follows p s) (sym way) (record { at = refl; on = stands }));
    is = λ s. is s ∙ left_never test s k (state p);
  }
    where
      full : k ≡ length t.history
      full = omega (arith, count)

  pub never : (p : P) (k : ℕ) → Passed k p → length t.history ≤ k → IsNeverLeft state follows test t y p
  never p k g all = never_in g.history g.ahead p k g.stands g.way g.count g.is all

  none_in : {A : Type 0} (taken : Option Taken) (hs f : List Record) (p new : P) (k : ℕ) → taken ≡ None → length hs + k ≡ length t.history → k < length t.history
      → GoesBack state follows taken hs f p new → A
  none_in taken [] f p new k none count low back = absurd (omega (arith, count, low))
  none_in taken (r ∷ h) f p new k none count low back = absurd (let was = back.0 in cc)

  pub passed_stop : {A : Type 0} (taken : Option Taken) (p new : P) (k : ℕ) → Passed k p → k < length t.history → taken ≡ None
      → ((u : Track) → follows p u → GoesBack state follows taken u.history u.ahead p new) → A
  passed_stop taken p new k g low none back =
      none_in taken g.history g.ahead p new k none g.count low (back (record { history = g.history; ahead = g.ahead }) g.stands)
