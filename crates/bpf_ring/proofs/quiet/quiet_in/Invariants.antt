use Rattle.std.proofs.Common.{◌≤◌, ◌++◌, ℕ, List, length}
use Rattle.bpf_entries.specs.Keeping.{Kept}
use Rattle.bpf_ring.specs.Quiet.{IsQuietTo}
use Rattle.bpf_ring.specs.Ways.{HasText}
use Rattle.bpf_ring.proofs.quiet.quiet_in.Given as goal

abbrev pub invariant-loop-count : goal.invariant-loop-count
invariant-loop-count l = record {
  within : l.place ≤ length l.text;
  quiet : (front : List ℕ) (ks : List Kept) → HasText (front ++ l.text) ks →
      IsQuietTo l.address l.value l.depth front l.text ks (record { count = l.count; place = l.place; depth = l.deep });
}
