use Rattle.std.proofs.Common.{subst, sym, ◌≤◌, ℕ}
use Rattle.bpf_steps.proofs.Spans.{are_few}
use Rattle.bpf_steps.proofs.map_layout.MapLayout.len.Goals as goal

pub returns-clause-fits : goal.returns-clause-fits
returns-clause-fits c = subst (λ (n : ℕ). n ≤ 1048576) (sym c.self.invariant.whole) (are_few _ c.self.invariant.tables)
