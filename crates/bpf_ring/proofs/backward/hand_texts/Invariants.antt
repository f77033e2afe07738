use Rattle.std.proofs.Common.{◌≡◌, ◌≤◌, ◌-◌, ◌++◌, ℕ, List, length, map, take}
use Rattle.bpf_entries.specs.Keeping.{Kept}
use Rattle.bpf_ring.specs.Ways.{HandsBack, HasText, IsWay, Made, kept_by}
use Rattle.bpf_ring.proofs.backward.hand_texts.Given as goal

abbrev pub invariant-loop-k : goal.invariant-loop-k
invariant-loop-k l = record {
  within : l.at ≤ l.limit;
  len : length l.room ≡ length l.fn.room;
  handed : (ws : List Made) (ls : List Kept) (front behind : List ℕ) → IsWay ws l.fn.cpu → HasText (front ++ l.text) (map kept_by ws) →
      HandsBack l.marks l.stays l.cpu (HasText (front ++ take (length l.text - l.at) l.text)) (λ ms. HasText behind ls → HasText (behind ++ take l.at l.room) ms) l.k ws ls l.fn.cpu;
}
