use Rattle.std.proofs.Common.{◌≡◌, arith, ◌∙◌}
use Rattle.std.specs.Prelude.{count_by}
use Rattle.bpf_journal.specs.Histories.{Record, is_step}
use Rattle.bpf_journal.proofs.Histories.{steps_kept}
use Rattle.bpf_journal.proofs.timeline.Timeline.steps_up_to.Goals as goal

pub returns-then-steps-most : goal.returns-then-steps-most
returns-then-steps-most g c = λ h stands.
    let n : c.steps-steps.result ≡ count_by (λ (r : Record). is_step r.move) h = c.steps-steps.ensures _ (rw (← c.self.view_is) at stands.0) ∙ steps_kept h in
    omega (arith, n, c.if-steps-most.true)

pub returns-else-steps-most : goal.returns-else-steps-most
returns-else-steps-most g c = λ h stands.
    let n : c.steps-steps.result ≡ count_by (λ (r : Record). is_step r.move) h = c.steps-steps.ensures _ (rw (← c.self.view_is) at stands.0) ∙ steps_kept h in
    omega (arith, n, c.if-steps-most.false)
