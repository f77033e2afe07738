use Rattle.std.proofs.Common.{ℕ, ◌≡◌, ◌<◌, length, take, Some, slice_get}
use Rattle.bpf_text.specs.Canonical.{is_target}
use Rattle.bpf_text.proofs.write.disassembler.targets.Given as goal

abbrev pub invariant-loop-slot : goal.invariant-loop-slot
invariant-loop-slot l = record {
  sized : length l.flags.items ≡ length l.program.insns;
  so_far : (t : ℕ) → t < length l.program.insns
      → slice_get l.flags.items t ≡ Some (is_target 0 (take l.slot l.program.insns) t);
}
