-- What is counted of entries and marks.
use Rattle.std.specs.Prelude.{◌≡◌, List, length, count_by, not}
use Rattle.bpf_entries.specs.Keeping.{Kept}
use Rattle.bpf_entries.specs.Past.{is_of_step}
use Rattle.bpf_ring.specs.declared.counts.Counts.{Counts}

-- How many there are, how many are marked, and how many are of edits.
pub record Counted (counts : Counts) (ks : List Kept) : Type 0 where
  pub entries : counts.entries ≡ length ks
  pub marks : counts.marks ≡ count_by (λ k. k.1) ks
  pub edits : counts.edits ≡ count_by (λ k. not (is_of_step k.0)) ks
