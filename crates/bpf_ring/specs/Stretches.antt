-- The newest entries of a list that are of steps and have no mark.
use Rattle.std.specs.Prelude.{◌≡◌, ◌≤◌, ◌-◌, ℕ, true, false, List, All, length, take, drop, sum_by}
use Rattle.bpf_entries.specs.Keeping.{Kept, kept_weight}
use Rattle.bpf_entries.specs.Past.{is_of_step}
use Rattle.bpf_entries.specs.Texts.{text}
use Rattle.bpf_entries.specs.Weights.{weight}
use Rattle.bpf_ring.specs.declared.stretches.Stretch.{Stretch}

-- An entry of a step, without a mark.
abbrev pub IsUnmarked : Kept → Type 0
IsUnmarked k = (is_of_step k.0 ≡ true) × (k.1 ≡ false)

-- The newest n are such.
pub record AreUnmarked (n : ℕ) (ks : List Kept) : Type 0 where
  pub there : n ≤ length ks
  pub plain : All IsUnmarked (take n ks)

-- A stretch is of the newest of a list: so many are such, and they have so many bytes.
pub record IsStretch (s : Stretch) (ks : List Kept) : Type 0 where
  pub unmarked : AreUnmarked s.count ks
  pub weighs : s.len ≡ sum_by kept_weight (take s.count ks)

-- Scaffolding: so many of the newest bytes are the text of such an entry.
pub record EndsStep (bytes : List ℕ) (n : ℕ) (k : Kept) : Type 0 where
  pub unmarked : IsUnmarked k
  pub weighs : n ≡ weight k.0
  pub newest : drop (length bytes - n) bytes ≡ text k.0 k.1
