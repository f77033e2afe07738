use Rattle.std.proofs.Common.{◌≡◌, ◌-◌, length, take}
use Rattle.bpf_ring.proofs.block.fill_on.Given as goal

abbrev pub invariant-loop-buffer : goal.invariant-loop-buffer
invariant-loop-buffer l = record {
  capacity : l.buffer.capacity ≡ l.initial.buffer.capacity;
  kept : take (length l.initial.buffer.items) l.buffer.items ≡ l.initial.buffer.items;
}

abbrev pub decreases-loop-buffer : goal.decreases-loop-buffer
decreases-loop-buffer l = l.end - length l.buffer.items
