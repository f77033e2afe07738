use Rattle.std.proofs.Common.{◌≡◌, ◌<◌, ℕ, false}
use Rattle.bpf_whynot.specs.Tables.{is_in}
use Rattle.bpf_whynot.proofs.whynot.has_none.Given as goal

abbrev pub invariant-loop-slot : goal.invariant-loop-slot
invariant-loop-slot l = (p : ℕ) → p < l.slot → is_in l.flags p ≡ false
