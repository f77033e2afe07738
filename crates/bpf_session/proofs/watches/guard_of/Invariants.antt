use Rattle.std.proofs.Common.{◌≤◌, ◌<◌, ℕ}
use Rattle.std.specs.Prelude.{slice_index}
use Rattle.bpf_session.proofs.watches.guard_of.Given as goal

abbrev pub invariant-loop-address : goal.invariant-loop-address
invariant-loop-address l = (i : ℕ) → i < l.address-index → (l.first ≤ slice_index l.addresses i) × (slice_index l.addresses i ≤ l.last)
