-- Where no push was refused there is no gap: no answer tells of want of memory, and nothing is missing of what is printed.
use Rattle.std.proofs.Common.{◌≡◌, ◌≢◌, ℕ, List, Option, Some, None, Result, Ok, Err, refl, sym, ap, subst, ◌∙◌, arith}
use Rattle.bpf_entries.specs.Keeping.{Kept}
use Rattle.counted_io.specs.Lines.{lines}
use Rattle.bpf_session.specs.Laws.{EachMoveIsKept, KeepersAnswerAlike, NoAnswerIsOfMemory, NothingRefusedAllPrinted}
use Rattle.bpf_session.specs.Output.{Walk}
use Rattle.bpf_session.specs.Runs.{Leaves, Wrote, come_to, whole_walk}
use Rattle.bpf_session.specs.Sessions.{SessionValue, StandsAt, gap_of, point_of, refusals_with, track_at}
use Rattle.bpf_session.specs.Outcomes.{Outcome}
use Rattle.bpf_session.specs.Points.{Point}
use Rattle.bpf_session.proofs.CommandLaws.{nothing-refused-nothing-missing}
use Rattle.bpf_session.specs.declared.reply.Reply.{Reply}
use Rattle.bpf_session.specs.declared.reply.Reply.TheVariants.{Forward, Redone}
use Rattle.bpfdb_script.specs.declared.refusal.Refusal.{Refusal}
use Rattle.bpfdb_script.specs.declared.refusal.Refusal.TheVariants.{OutOfMemory}
use Rattle.bpfdb_script.specs.declared.why.Why.TheVariants.{Memory}

-- a whole script
pub nothing-refused-all-printed : NothingRefusedAllPrinted
nothing-refused-all-printed from to x low still printed =
    let gaps = printed.0 in
    let same : come_to from gaps (lines x.script) ≡ whole_walk from x.script =
    nothing-refused-nothing-missing gaps from.refusals from.bounds (lines x.script) from.point low (sym printed.1.refusals ∙ still) in (
      printed.1.point ∙ ap (λ (w : Walk). w.final) same,
      subst (λ (w : Walk). Wrote x w.out) same printed.2,
      subst (λ (w : Walk). Leaves x w.unread) same printed.3,
    )

-- a gap is counted
uncounted : (gap : Option ℕ) → 0 ≡ refusals_with gap 0 → gap ≡ None
uncounted None e = refl
uncounted (Some m) e = absurd (omega (arith, e))

-- an answer that tells no gap
gapless : (answer : Result Reply Refusal) → gap_of answer ≡ None → (answer ≢ Err OutOfMemory) × ((k : ℕ) → (answer ≢ Ok (Forward k Memory)) × (answer ≢ Ok (Redone k Memory)))
gapless answer none = (λ is. let e : Some 0 ≡ None = sym (ap gap_of is) ∙ none in absurd cc, λ k. (λ is. let e : Some k ≡ None = sym (ap gap_of is) ∙ none in absurd cc, λ is. let e : Some k ≡ None = sym (ap gap_of is) ∙ none in absurd cc))

module _ {K : Type 0} (holds : K → List Kept → Type 0) (refused room : K → ℕ) where
  pub no-answer-is-of-memory : NoAnswerIsOfMemory holds refused room
  no-answer-is-of-memory never old new meaning answer o =
      gapless answer (uncounted (gap_of answer) (sym (never new.moment.keeper) ∙ o.counted ∙ ap (refusals_with (gap_of answer)) (never old.moment.keeper)))

  pub each-move-is-kept : EachMoveIsKept holds refused room
  each-move-is-kept never old new meaning answer o h past =
      let none = uncounted (gap_of answer) (sym (never new.moment.keeper) ∙ o.counted ∙ ap (refusals_with (gap_of answer)) (never old.moment.keeper)) in (
        o.answered h past ∙ ap (λ (gap : Option ℕ). (meaning gap (point_of old h)).answer) none,
        subst (λ (gap : Option ℕ). StandsAt holds new (meaning gap (point_of old h)).point) none (o.stands h past),
      )

module _ {K L : Type 0} (holds : K → List Kept → Type 0) (refused room : K → ℕ)
    (holds' : L → List Kept → Type 0) (refused' room' : L → ℕ) where
  -- what is meant at the point at which a session stands
  abbrev means-there : {S : Type 0} (hold : S → List Kept → Type 0) → SessionValue S → (Option ℕ → Point → Outcome) → Result Reply Refusal → Point → Type 0
  means-there hold new meaning answer p = (answer ≡ (meaning None p).answer) × StandsAt hold new (meaning None p).point

  pub keepers-answer-alike : KeepersAnswerAlike holds refused room holds' refused' room'
  keepers-answer-alike old new old' new' meaning answer answer' p stands obeys none stands' obeys' none' =
      let here : means-there holds new meaning answer p = (
        obeys.answered (track_at p) stands.1 ∙ ap (λ (gap : Option ℕ). (meaning gap (point_of old (track_at p))).answer) none ∙ ap (λ (q : Point). (meaning None q).answer) stands.0,
        subst (λ (q : Point). StandsAt holds new (meaning None q).point) stands.0 (subst (λ (gap : Option ℕ). StandsAt holds new (meaning gap (point_of old (track_at p))).point) none (obeys.stands (track_at p) stands.1)),
      ) in
      let there : means-there holds' new' meaning answer' p = (
        obeys'.answered (track_at p) stands'.1 ∙ ap (λ (gap : Option ℕ). (meaning gap (point_of old' (track_at p))).answer) none' ∙ ap (λ (q : Point). (meaning None q).answer) stands'.0,
        subst (λ (q : Point). StandsAt holds' new' (meaning None q).point) stands'.0 (subst (λ (gap : Option ℕ). StandsAt holds' new' (meaning gap (point_of old' (track_at p))).point) none' (obeys'.stands (track_at p) stands'.1)),
      ) in
      (here.0 ∙ sym there.0, ((meaning None p).point, here.1, there.1))
