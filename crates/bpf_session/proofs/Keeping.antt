-- A run over a ring that nothing stops but the machine's end and the limit.
use Rattle.std.proofs.Common.{◌≡◌, ◌+◌, ◌<◌, ◌≤◌, ℕ, List, zero, suc, Bool, true, false, if◌then◌else◌, [], refl, subst, sym, ◌∙◌, ap, arith, inl, inr}
use Rattle.std.specs.Prelude.{is_some}
use Rattle.std.proofs.lemmas.Bool.{cases_lt, le-ltb}
use Rattle.bpf_entries.specs.Past.{replaced}
use Rattle.bpf_entries.specs.Status.{has_ended}
use Rattle.bpf_journal.specs.Runs.{Ends, refusals_by_run}
use Rattle.bpf_steps.specs.Entries.{step_entry}
use Rattle.bpf_steps.specs.State.{State, depth}
use Rattle.bpf_ring.specs.Runs.{RunsTo, state_after, stops_after}
use Rattle.bpf_session.specs.Forward.{least}
use Rattle.bpf_session.specs.Halting.{halts}
use Rattle.bpf_session.specs.Plain.{plain_steps}
use Rattle.bpf_session.specs.Watched.{bytes_at}

-- the least number that passes, where each before it doesn't
least-is : (test : ℕ → Bool) (left k n : ℕ) → k ≤ n → n ≤ k + left → ((j : ℕ) → j < n → test j ≡ false) → (n < k + left → test n ≡ true) → least test k left ≡ n
least-is test zero k n low high before here = omega (arith, low, high)
least-is test (suc left) k n low high before here = elim (cases_lt k n) [
  | inl below ↦ rw (before k below) (least-is test left (k + 1) n (omega (arith, below)) (omega (arith, high)) before (λ less. here (omega (arith, less))))
  | inr past ↦
      let same : n ≡ k = omega (arith, low, past) in
      let on : test k ≡ true = ap test (sym same) ∙ here (omega (arith, same)) in
      rw on (sym same)
]

-- nothing that is set stops no step
none-halts : (bytes : Bool) (y : State) → halts [] [] [] 0 bytes y ≡ false
none-halts true y = rw (le-ltb (depth y) 0 (omega arith)) refl
none-halts false y = rw (le-ltb (depth y) 0 (omega arith)) refl

-- a run that no test stops has ended where it stops
same-bool : (b : Bool) → (if b then true else false) ≡ b
same-bool true = refl
same-bool false = refl

stops-ended : (x : State) (k : ℕ) → 1 ≤ k → stops_after (halts [] [] [] 0) x k ≡ has_ended (state_after k x).status
stops-ended x zero some = absurd (omega (arith, some))
stops-ended x (suc k) some = rw (none-halts (is_some (replaced 0 (step_entry (state_after k x)))) (state_after (suc k) x)) (same-bool (has_ended (state_after (suc k) x).status))

-- it takes as many steps as a run without history
pub runs-plain : (limit n : ℕ) (x y : State) → has_ended x.status ≡ false → RunsTo (halts [] [] [] 0) limit x y n → plain_steps limit x ≡ n
runs-plain limit n x y runs r = least-is (λ k. has_ended (state_after k x).status) limit 0 n (omega arith) (omega (arith, r.within)) before here where
  before : (j : ℕ) → j < n → has_ended (state_after j x).status ≡ false
  before zero less = runs
  before (suc j) less = sym (stops-ended x (suc j) (omega arith)) ∙ r.before (suc j) less

  here : n < 0 + limit → has_ended (state_after n x).status ≡ true
  here less = elim r.last [
    | inl stops ↦ sym (stops-ended x n r.some) ∙ stops
    | inr most ↦ absurd (omega (arith, less, most))
  ]

-- a ring, which refuses nothing, cuts no run short
pub not-cut : (b : Bool) → 0 ≡ refusals_by_run b 0 → b ≡ false
not-cut false e = refl
not-cut true e = absurd (omega (arith, e))

pub ran-freely : (bs ws ss : List ℕ) (x y z : State) (limit n : ℕ) (b : Bool) → bs ≡ [] → ws ≡ [] → ss ≡ bytes_at ws z → Ends (halts bs ws ss 0) limit x y n b → 0 ≡ refusals_by_run b 0 → RunsTo (halts [] [] [] 0) limit x y n
ran-freely bs ws ss x y z limit n b none unseen saw ends whole =
    let blind : ss ≡ [] = saw ∙ ap (λ (vs : List ℕ). bytes_at vs z) unseen in
    let first : Ends (halts bs ws [] 0) limit x y n b = subst (λ (vs : List ℕ). Ends (halts bs ws vs 0) limit x y n b) blind ends in
    let second : Ends (halts bs [] [] 0) limit x y n b = subst (λ (vs : List ℕ). Ends (halts bs vs [] 0) limit x y n b) unseen first in
    let third : Ends (halts [] [] [] 0) limit x y n b = subst (λ (vs : List ℕ). Ends (halts vs [] [] 0) limit x y n b) none second in
    subst (λ (b : Bool). Ends (halts [] [] [] 0) limit x y n b) (not-cut b whole) third
