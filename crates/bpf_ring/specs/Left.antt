-- Scaffolding: what is left of a list while its oldest entries are dropped.
use Rattle.std.specs.Prelude.{◌≡◌, ℕ, List}
use Rattle.bpf_entries.specs.Keeping.{Kept, fit, kept_weight}
use Rattle.bpf_ring.specs.Blocks.{Content}
use Rattle.bpf_ring.specs.Held.{IsHeld}
use Rattle.bpf_ring.specs.declared.counts.Counts.{Counts}

-- A ring holds a list of which as much fits the room as of another.
pub record Left (content : Content) (counts : Counts) (room : ℕ) (ks : List Kept) : Type 0 where
  pub front : List Kept
  pub held : IsHeld content counts front
  pub same : fit kept_weight room front ≡ fit kept_weight room ks
