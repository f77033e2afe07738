use Rattle.std.proofs.Common.{◌≡◌, ◌<◌, ℕ, Some, length, slice_get}
use Rattle.bpf_isa.specs.Checker.{is_start}
use Rattle.bpf_isa.proofs.checker.starts_of.Given as goal

abbrev pub invariant-loop-slot : goal.invariant-loop-slot
invariant-loop-slot l = record { next : l.is_start ≡ is_start l.bytes l.slot; slots : length l.starts.items ≡ l.slot; flags : (p : ℕ) → p < l.slot → slice_get l.starts.items p ≡ Some (is_start l.bytes p) }
