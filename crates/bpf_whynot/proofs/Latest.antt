-- The answer is that of the latest move from whose state a goal can be come to.
use Rattle.std.proofs.Common.{◌≡◌, ◌<◌, ◌≤◌, ◌⊎◌, inl, inr, ℕ, zero, suc, ◌+◌, ◌-◌, Bool, true, false, List, [], ◌∷◌, length, refl, ap, ◌∙◌, arith}
use Rattle.bpf_journal.specs.Histories.{Record}
use Rattle.bpf_journal.specs.Lookups.{state_before}
use Rattle.bpf_steps.specs.State.{State}
use Rattle.bpf_whynot.specs.Answers.{Query, left_after, left_by, never_text, only, reaches}
use Rattle.bpf_whynot.specs.Laws.{AnswersAreOfTheLatest, IsOfMove, IsOfNone}
use Rattle.bpf_whynot.specs.Reach.{can_from}
use Rattle.bpf_whynot.proofs.Going.{lost_is}
use Rattle.bpf_whynot.proofs.Passing.{left_earlier, left_never, left_there}

module _ (can : ℕ → List ℕ → Bool) (s : Query) where
  -- after k moves
  record OfMove (k : ℕ) (h : List Record) (y : State) : Type 0 where
    pub moves : ℕ
    pub of : Record
    pub older : List Record
    pub within : suc moves ≤ length h
    pub before : state_before (suc moves) h y ≡ of.before
    pub could : can_from can of.before ≡ true
    pub since : (j : ℕ) → j < suc moves → can_from can (state_before j h y) ≡ false
    pub told : left_after (reaches can) s k h y ≡ left_by s (k + suc moves) of older (state_before moves h y)

  record OfNone (k : ℕ) (h : List Record) (y : State) : Type 0 where
    pub none : (j : ℕ) → can_from can (state_before j h y) ≡ false
    pub told : left_after (reaches can) s k h y ≡ only (never_text s.question.opening)

  none_older : (y : State) → can_from can y ≡ false → (j : ℕ) → can_from can (state_before j [] y) ≡ false
  none_older y gone zero = gone
  none_older y gone (suc j) = gone

  found_here : (k : ℕ) (r : Record) (h : List Record) (y : State) → can_from can y ≡ false → can_from can r.before ≡ true → OfMove k (r ∷ h) y
  found_here k r h y gone there = record {
    moves = 0;
    of = r;
    older = h;
    within = omega arith;
    before = refl;
    could = there;
    since = first;
    told = left_there (reaches can) s k r h y there;
  }
    where
      first : (j : ℕ) → j < 1 → can_from can (state_before j (r ∷ h) y) ≡ false
      first zero low = gone
      first (suc j) low = absurd (omega (arith, low))

  found_older : (k : ℕ) (r : Record) (h : List Record) (y : State) → can_from can y ≡ false → can_from can r.before ≡ false → OfMove (k + 1) h r.before → OfMove k (r ∷ h) y
  found_older k r h y gone missed m = record {
    moves = suc m.moves;
    of = m.of;
    older = m.older;
    within = let low = m.within in omega (arith, low);
    before = m.before;
    could = m.could;
    since = since;
    told = left_earlier (reaches can) s k r h y missed ∙ m.told ∙ ap (λ (n : ℕ). left_by s n m.of m.older (state_before m.moves h r.before)) sum;
  }
    where
      since : (j : ℕ) → j < suc (suc m.moves) → can_from can (state_before j (r ∷ h) y) ≡ false
      since zero low = gone
      since (suc j) low = m.since j (omega (arith, low))

      sum : k + 1 + suc m.moves ≡ k + suc (suc m.moves)
      sum = omega arith

  none_here : (k : ℕ) (r : Record) (h : List Record) (y : State) → can_from can y ≡ false → can_from can r.before ≡ false → OfNone (k + 1) h r.before → OfNone k (r ∷ h) y
  none_here k r h y gone missed n = record { none = none; told = left_earlier (reaches can) s k r h y missed ∙ n.told }
    where
      none : (j : ℕ) → can_from can (state_before j (r ∷ h) y) ≡ false
      none zero = gone
      none (suc j) = n.none j

  older : (k : ℕ) (r : Record) (h : List Record) (y : State) → can_from can y ≡ false → can_from can r.before ≡ false → OfMove (k + 1) h r.before ⊎ OfNone (k + 1) h r.before
      → OfMove k (r ∷ h) y ⊎ OfNone k (r ∷ h) y
  older k r h y gone missed (inl m) = inl (found_older k r h y gone missed m)
  older k r h y gone missed (inr n) = inr (none_here k r h y gone missed n)

  by_test : (k : ℕ) (r : Record) (h : List Record) (y : State) (b : Bool) → can_from can r.before ≡ b → can_from can y ≡ false
      → (can_from can r.before ≡ false → OfMove (k + 1) h r.before ⊎ OfNone (k + 1) h r.before) → OfMove k (r ∷ h) y ⊎ OfNone k (r ∷ h) y
  by_test k r h y true is gone more = inl (found_here k r h y gone is)
  by_test k r h y false is gone more = older k r h y gone is (more is)

  latest_after : (k : ℕ) (h : List Record) (y : State) → can_from can y ≡ false → OfMove k h y ⊎ OfNone k h y
  latest_after k [] y gone = inr (record { none = none_older y gone; told = left_never (reaches can) s k y })
  latest_after k (r ∷ h) y gone = by_test k r h y (can_from can r.before) refl gone (λ missed. latest_after (k + 1) h r.before missed)

  whole : (h : List Record) (y : State) → can_from can y ≡ false → OfMove 0 h y ⊎ OfNone 0 h y → IsOfMove can s h y ⊎ IsOfNone can s h y
  whole h y gone (inl m) = inl (record {
    moves = suc m.moves;
    of = m.of;
    older = m.older;
    some = omega arith;
    within = m.within;
    before = m.before;
    could = m.could;
    since = m.since;
    told = lost_is can s h y gone ∙ m.told ∙ ap (λ (n : ℕ). left_by s n m.of m.older (state_before m.moves h y)) sum
        ∙ ap (λ (n : ℕ). left_by s (suc m.moves) m.of m.older (state_before n h y)) back;
  })
    where
      sum : 0 + suc m.moves ≡ suc m.moves
      sum = omega arith

      back : m.moves ≡ suc m.moves - 1
      back = omega arith
  whole h y gone (inr n) = inr (record { none = n.none; told = lost_is can s h y gone ∙ n.told })

pub answers_are_latest : AnswersAreOfTheLatest
answers_are_latest can s h y gone = whole can s h y gone (latest_after can s 0 h y gone)
