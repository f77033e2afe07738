-- How a command is shown to obey its meaning.
use Rattle.std.proofs.Common.{◌≡◌, ℕ, List, [], Option, Result, sym, ap, subst, ◌∙◌}
use Rattle.bpf_entries.specs.Keeping.{Kept}
use Rattle.bpf_journal.specs.Tracks.{Track}
use Rattle.bpf_session.specs.Outcomes.{Outcome, unless_refused}
use Rattle.bpf_session.specs.Points.{Point}
use Rattle.bpf_session.specs.Sessions.{SessionValue, HasPast, StandsAt, Obeys, gap_of, bounds_of, point_of}
use Rattle.bpf_session.specs.declared.reply.Reply.{Reply}
use Rattle.bpfdb_script.specs.declared.refusal.Refusal.{Refusal}

-- What a session was opened with stays where its limit and its keeper's room do.
pub same-bounds : {K : Type 0} (room : K → ℕ) (old new : SessionValue K) → new.limit ≡ old.limit → room new.moment.keeper ≡ room old.moment.keeper → bounds_of room new ≡ bounds_of room old
same-bounds room old new l r = ap (λ (n : ℕ). record { limit = n; room = room new.moment.keeper }) l ∙ ap (λ (n : ℕ). record { limit = old.limit; room = n }) r

module _ {K : Type 0} (holds : K → List Kept → Type 0) (new : SessionValue K) where
  -- What a command comes to at a point: its answer, and where the session then stands.
  pub record Comes (meaning : Option ℕ → Point → Outcome) (answer : Result Reply Refusal) (p : Point) : Type 0 where
    pub answered : answer ≡ (meaning (gap_of answer) p).answer
    pub stands : StandsAt holds new (meaning (gap_of answer) p).point

  -- By the outcome that it comes to.
  pub comes_as : (meaning : Option ℕ → Point → Outcome) (answer : Result Reply Refusal) (p : Point) (gap : Option ℕ) (o : Outcome) → gap_of answer ≡ gap → meaning gap p ≡ o → answer ≡ o.answer → StandsAt holds new o.point → Comes meaning answer p
  comes_as meaning answer p gap o tells is said stands =
      let all : meaning (gap_of answer) p ≡ o = ap (λ (g : Option ℕ). meaning g p) tells ∙ is in record {
        answered = said ∙ ap (λ (v : Outcome). v.answer) (sym all);
        stands = subst (λ (v : Outcome). StandsAt holds new v.point) (sym all) stands;
      }

module _ {K : Type 0} (holds : K → List Kept → Type 0) (refusals room : K → ℕ) where
  -- A command that is not refused.
  pub unrefused : (old new : SessionValue K) (rs : Point → List Refusal) (meaning : Option ℕ → Point → Outcome) (answer : Result Reply Refusal) → ((h : Track) → HasPast holds old h → rs (point_of old h) ≡ []) → Obeys holds refusals room old new meaning answer → Obeys holds refusals room old new (λ gap p. unless_refused (rs p) p (meaning gap p)) answer
  unrefused old new rs meaning answer none o = record {
    answered = λ h past. o.answered h past ∙ ap (λ (v : List Refusal). (unless_refused v (point_of old h) (meaning (gap_of answer) (point_of old h))).answer) (sym (none h past));
    stands = λ h past. subst (λ (v : List Refusal). StandsAt holds new (unless_refused v (point_of old h) (meaning (gap_of answer) (point_of old h))).point) (sym (none h past)) (o.stands h past);
    counted = o.counted;
    bounds = o.bounds;
    there = o.there;
  }
