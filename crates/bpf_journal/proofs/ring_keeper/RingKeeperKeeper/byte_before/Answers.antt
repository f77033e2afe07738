use Rattle.std.proofs.Common.{◌≡◌, ℕ, List, [], ◌∷◌, ◌++◌, Option, Some, None, sym}
use Rattle.std.specs.Prelude.{sum_by}
use Rattle.bpf_entries.specs.Before.{byte_before, depth_before}
use Rattle.bpf_entries.specs.Keeping.{Kept, kept_weight}
use Rattle.bpf_ring.specs.Blocks.{Content}
use Rattle.bpf_ring.specs.Held.{IsHeld}
use Rattle.bpf_ring.specs.declared.counts.Counts.{Counts}
use Rattle.bpf_journal.specs.Keepers.{told_before}
use Rattle.bpf_journal.proofs.ring_keeper.RingKeeperKeeper.byte_before.Goals as goal

-- What is told of a place is told of the front there.
tells : (content : Content) (counts : Counts) (at depth address after : ℕ) (result : Option (ℕ × ℕ × ℕ)) (newer front : List Kept)
    → (at ≡ 0 → result ≡ None)
    → ((newer front : List Kept) (k : Kept) → IsHeld content counts (newer ++ k ∷ front) → at ≡ sum_by kept_weight (k ∷ front) → result ≡ Some (byte_before depth k.0 address after, depth_before depth k.0, sum_by kept_weight front))
    → IsHeld content counts (newer ++ front) → sum_by kept_weight front ≡ at → result ≡ told_before (λ ks. sum_by kept_weight ks) depth address after front
tells content counts at depth address after result newer [] none some held here = none (sym here)
tells content counts at depth address after result newer (k ∷ front) none some held here = some newer front k held (sym here)

pub returns : goal.returns
returns c = λ newer front held here.
    let entries = c.args.self.now in
    tells entries.ring entries.counts c.args.at c.args.depth c.args.address c.args.after c.byte_before.result newer front c.byte_before.ensures.none c.byte_before.ensures.some held here
