-- A machine that takes steps until it has ended, or as many as it may, stands where a run without history ends.
use Rattle.std.proofs.Common.{◌≡◌, ◌+◌, ◌<◌, ◌≤◌, ℕ, zero, suc, Bool, true, false, sym, ap, ◌∙◌, refl, arith, inl, inr}
use Rattle.std.proofs.lemmas.Bool.{cases_lt}
use Rattle.bpf_steps.specs.Next.{next}
use Rattle.bpf_steps.specs.Runs as machine
use Rattle.bpf_steps.specs.State.{State}
use Rattle.bpf_entries.specs.Status.{has_ended}
use Rattle.bpf_ring.specs.Runs.{state_after}
use Rattle.bpf_session.specs.Forward.{least}
use Rattle.bpf_session.specs.Plain.{plain_end, plain_steps}

-- the least number that passes, where each before it doesn't
least_is : (test : ℕ → Bool) (left k n : ℕ) → k ≤ n → n ≤ k + left → ((j : ℕ) → j < n → test j ≡ false) → (n < k + left → test n ≡ true) → least test k left ≡ n
least_is test zero k n low high before here = omega (arith, low, high)
least_is test (suc left) k n low high before here = elim (cases_lt k n) [
  | inl below ↦
      rw (before k below) (least_is test left (k + 1) n (omega (arith, below)) (omega (arith, high)) before (λ less. here (omega (arith, less))))
  | inr past ↦
      let same : n ≡ k = omega (arith, low, past) in
      let on : test k ≡ true = ap test (sym same) ∙ here (omega (arith, same)) in
      rw on (sym same)
]

-- the same state by either definition
pub same_after : (k : ℕ) (x : State) → machine.state_after k x ≡ state_after k x
same_after zero x = refl
same_after (suc k) x = ap next (same_after k x)

pub plain_is : (limit : ℕ) (x y : State) (n : ℕ) → machine.Advances limit x y n → (n ≡ plain_steps limit x) × (y ≡ plain_end limit x)
plain_is limit x y n run =
    let test : ℕ → Bool = λ k. has_ended (state_after k x).status in
    let here = run.steps.state ∙ same_after n x in
    let running = λ (k : ℕ) (low : k < n). ap (λ (y : State). has_ended y.status) (sym (same_after k x)) ∙ run.steps.running k low in
    let count = least_is test limit 0 n (omega arith) (omega (arith, run.within)) running (λ less. sym (ap (λ (y : State). has_ended y.status) here) ∙ run.all (omega (arith, less))) in
    (sym count, here ∙ ap (λ (n : ℕ). state_after n x) (sym count))
