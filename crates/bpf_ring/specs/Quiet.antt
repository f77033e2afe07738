-- Moves that left the byte at an address as it was.
use Rattle.std.specs.Prelude.{◌≡◌, ◌≤◌, ◌-◌, ◌++◌, ℕ, zero, suc, List, [], ◌∷◌, length, take, drop, sum_by}
use Rattle.bpf_entries.specs.Before.{byte_before, depth_before}
use Rattle.bpf_entries.specs.Keeping.{Kept, kept_weight}
use Rattle.bpf_entries.specs.Texts.{text}
use Rattle.bpf_entries.specs.Weights.{weight}
use Rattle.bpf_ring.specs.Ways.{HasText}
use Rattle.bpf_ring.specs.declared.quiet.PassedOver.{PassedOver}

-- The newest n of the moves of a list led to depth d and to this byte at address a: each left the byte as it was, and before them the depth is e.
abbrev pub AreQuiet : ℕ → ℕ → ℕ → ℕ → ℕ → List Kept → Type 0
AreQuiet a byte d e zero ks = e ≡ d
AreQuiet a byte d e (suc n) [] = ⊥
AreQuiet a byte d e (suc n) (k ∷ ks) = (byte_before d k.0 a byte ≡ byte) × AreQuiet a byte (depth_before d k.0) e n ks

-- So many of the newest of a list are of such moves, and the place is that of the others.
pub record PassesOver (a byte d : ℕ) (ks : List Kept) (passed : PassedOver) : Type 0 where
  pub quiet : AreQuiet a byte d passed.depth passed.count ks
  pub rest : passed.place ≡ sum_by kept_weight (drop passed.count ks)

-- Scaffolding: the same of a list whose text some bytes end. The others have the bytes in front of the place.
pub record IsQuietTo (a byte d : ℕ) (front bytes : List ℕ) (ks : List Kept) (passed : PassedOver) : Type 0 where
  pub quiet : AreQuiet a byte d passed.depth passed.count ks
  pub left : HasText (front ++ take passed.place bytes) (drop passed.count ks)

-- Scaffolding: so many of the newest bytes are the text of the entry of such a move.
pub record IsQuietEnd (a byte d : ℕ) (bytes : List ℕ) (n before : ℕ) (k : Kept) : Type 0 where
  pub quiet : byte_before d k.0 a byte ≡ byte
  pub depth : before ≡ depth_before d k.0
  pub weighs : n ≡ weight k.0
  pub newest : drop (length bytes - n) bytes ≡ text k.0 k.1

-- Scaffolding: they are so of each list whose text the bytes end.
pub record EndsQuiet (a byte d : ℕ) (bytes : List ℕ) (n before : ℕ) : Type 0 where
  pub some : 5 ≤ n
  pub within : n ≤ length bytes
  pub is : (front : List ℕ) (k : Kept) (ks : List Kept) → HasText (front ++ bytes) (k ∷ ks) → IsQuietEnd a byte d bytes n before k
