-- The jumps that lead to a slot, one after another.
use Rattle.std.proofs.Common.{◌≡◌, ◌<◌, ◌≤◌, ℕ, zero, suc, ◌-◌, length, get_or, refl, sym, ap, subst, ◌∙◌, arith}
use Rattle.std.specs.Prelude.{Bool, ◌==◌, not}
use Rattle.bpf_isa.specs.Programs.{Checked}
use Rattle.bpf_whynot.specs.Flows.{AreSources, jump}
use Rattle.bpf_whynot.specs.Walks.{MarksIf}
use Rattle.bpf_whynot.specs.declared.sources.Sources.{Sources}
use Rattle.bpf_whynot.specs.declared.walk.Walk.{Walk}
use Rattle.bpf_whynot.proofs.Flowing.{jumps_within}
use Rattle.bpf_whynot.proofs.Walking.{Along, along_begins, along_on}

pub begins : (program : Checked) (sources : Sources) (but q at : ℕ) (walk : Walk) → AreSources program (length program.insns) sources
    → q < length program.insns → at ≡ get_or sources.first.items q 0 → (at ≤ length program.insns) × Along but (jump program) q at walk walk
begins program sources but q at walk a within is = (
  (let below = a.first_below q in omega (arith, below, is)),
  along_begins but (jump program) q at walk
      (λ p to. let low = a.first p q to (jumps_within program p q to) within in omega (arith, low, is))
      (λ p at_is. a.first_of p q (sym is ∙ at_is)),
)

steps : (program : Checked) (sources : Sources) (but q s next : ℕ) (test : Bool) (old now new : Walk) → AreSources program (length program.insns) sources
    → q < length program.insns → suc s ≤ length program.insns → next ≡ get_or sources.next.items s 0
    → Along but (jump program) q (suc s) old now → test ≡ not (s == but) → MarksIf test s now new
    → (next ≤ length program.insns) × Along but (jump program) q next old new
steps program sources but q s next test old now new a within low is along tests marks = (
  (let below = a.next_below s in omega (arith, below, is, low)),
  along_on but (jump program) q s next test old now new along tests marks
      (λ p to less. let more = a.next p s q to (along.leads s refl) within less (omega (arith, low)) in omega (arith, more, is))
      (λ p next_is. a.next_of p s q (sym is ∙ next_is) (along.leads s refl)),
)

pub goes_along : (program : Checked) (sources : Sources) (but q at next : ℕ) (test : Bool) (old now new : Walk) → AreSources program (length program.insns) sources
    → q < length program.insns → 0 < at → at ≤ length program.insns → next ≡ get_or sources.next.items (at - 1) 0
    → Along but (jump program) q at old now → test ≡ not (at - 1 == but) → MarksIf test (at - 1) now new
    → (next ≤ length program.insns) × Along but (jump program) q next old new
goes_along program sources but q zero next test old now new a within some low is along tests marks = absurd (omega (arith, some))
goes_along program sources but q (suc s) next test old now new a within some low is along tests marks =
    let same : suc s - 1 ≡ s = omega arith in
    steps program sources but q s next test old now new a within low (is ∙ ap (λ (i : ℕ). get_or sources.next.items i 0) same) along
    (tests ∙ ap (λ (i : ℕ). not (i == but)) same) (subst (λ (i : ℕ). MarksIf test i now new) same marks)
