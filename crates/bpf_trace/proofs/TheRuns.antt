-- The steps of a run are those of a run without history.
use Rattle.std.proofs.Common.{◌≡◌, ◌+◌, ◌<◌, ℕ, zero, suc, Bool, true, false, List, ◌∷◌, get_or, length, sym, ap, subst, ◌∙◌, refl, arith, inl, inr}
use Rattle.std.specs.Prelude.{◌⊎◌}
use Rattle.bpf_entries.specs.Status.{has_ended}
use Rattle.bpf_steps.specs.Next.{next}
use Rattle.bpf_steps.specs.Runs.{state_after, Steps, Advances}
use Rattle.bpf_steps.specs.State.{State}
use Rattle.bpf_session.proofs.Advancing.{plain_is, same_after}
use Rattle.bpf_trace.specs.Laws.{StepsAreTheRuns}
use Rattle.bpf_trace.specs.Runs.{steps_of}
use Rattle.bpf_trace.proofs.Stepping.{shift, Steps-none, Steps-Steps, Steps-one, none_ended, one_more_step}

-- a test of a machine is met or not
either : (b : Bool) → (b ≡ true) ⊎ (b ≡ false)
either true = inl refl
either false = inr refl

advances : (limit : ℕ) (x : State) → Advances limit x (state_after (length (steps_of limit x)) x) (length (steps_of limit x))
advances zero x = record {
  steps = Steps-none x;
  within = omega arith;
  all = λ less. absurd (omega (arith, less));
}
advances (suc limit) x = elim (either (has_ended x.status)) [
  | inl over ↦
      let none : length (steps_of (suc limit) x) ≡ 0 = ap length (none_ended (suc limit) x over) in
      rw none (record {
        steps = Steps-none x;
        within = omega arith;
        all = λ less. over;
      })
  | inr on ↦
      let n = length (steps_of limit (next x)) in
      let one : suc n ≡ 1 + n = omega arith in
      let some : length (steps_of (suc limit) x) ≡ 1 + n = ap length (one_more_step (suc limit) limit x refl on) ∙ one in
      let rest = advances limit (next x) in
      let at : state_after n (next x) ≡ state_after (1 + n) x = shift n x ∙ ap (λ (k : ℕ). state_after k x) one in
      rw some (record {
        steps = subst (λ (w : State). Steps x w (1 + n)) at (Steps-Steps x (next x) (state_after n (next x)) 1 n (Steps-one x on) rest.steps);
        within = omega (arith, rest.within);
        all = λ less. ap (λ (w : State). has_ended w.status) (sym at) ∙ rest.all (omega (arith, less));
      })
]

in_front : (limit : ℕ) (x : State) (k : ℕ) (d : State) → steps_of (suc limit) x ≡ x ∷ steps_of limit (next x)
    → ((j : ℕ) → j < length (steps_of limit (next x)) → get_or (steps_of limit (next x)) j d ≡ state_after j (next x))
    → k < length (steps_of (suc limit) x) → get_or (steps_of (suc limit) x) k d ≡ state_after k x
in_front limit x zero d is rest low = ap (λ (xs : List State). get_or xs 0 d) is
in_front limit x (suc k) d is rest low =
    ap (λ (xs : List State). get_or xs (suc k) d) is
    ∙ rest k (omega (arith, low, ap length is))
    ∙ shift k x

each : (limit : ℕ) (x : State) (k : ℕ) (d : State) → k < length (steps_of limit x) → get_or (steps_of limit x) k d ≡ state_after k x
each zero x k d low = absurd (omega (arith, low))
each (suc limit) x k d low = elim (either (has_ended x.status)) [
  | inl over ↦ absurd (omega (arith, low, ap length (none_ended (suc limit) x over)))
  | inr on ↦ in_front limit x k d (one_more_step (suc limit) limit x refl on) (λ j less. each limit (next x) j d less) low
]

pub law_steps : StepsAreTheRuns
law_steps limit x =
    let is = plain_is limit x (state_after (length (steps_of limit x)) x) (length (steps_of limit x)) (advances limit x) in
    record {
      count = is.0;
      each = λ k d low. each limit x k d (omega (arith, low, is.0)) ∙ same_after k x;
    }
