-- Evaluations, instruction by instruction.
use Rattle.std.proofs.Common.{◌≡◌, ◌<◌, ◌+◌, ◌-◌, ℕ, suc, List, Option, Some, None, refl, ap, ◌∙◌, arith}
use Rattle.bpf_agent.specs.Expressions.{Went, step, value_from}
use Rattle.bpf_steps.specs.State.{State}
use Rattle.bpf_agent.specs.declared.expression.Next.TheVariants.{At, Value}

-- the value by the step that is taken first
abbrev by-step : List ℕ → State → ℕ → Went → Option ℕ
by-step code x k went = elim went [ None ↦ None | Some went ↦ elim went.0 [ At to ↦ value_from code x k to went.1 | Value v ↦ Some v ] ]

first : (code : List ℕ) (x : State) (k at : ℕ) (s : List ℕ) → value_from code x (suc k) at s ≡ by-step code x k (step code x at s)
unfolding value_from
first code x k at s = refl

left-of : (k n : ℕ) → k < n → n - k ≡ suc (n - (k + 1))
left-of k n h = omega arith

pub value-step : (code : List ℕ) (x : State) (n k at : ℕ) (s : List ℕ) (went : Went) → k < n → step code x at s ≡ went
    → value_from code x (n - k) at s ≡ by-step code x (n - (k + 1)) went
value-step code x n k at s went h e =
    ap (λ (m : ℕ). value_from code x m at s) (left-of k n h) ∙ first code x (n - (k + 1)) at s ∙ ap (by-step code x (n - (k + 1))) e

pub value-out : (code : List ℕ) (x : State) (n at : ℕ) (s : List ℕ) → n ≡ 0 → value_from code x n at s ≡ None
unfolding value_from
value-out code x n at s e = ap (λ (m : ℕ). value_from code x m at s) e
