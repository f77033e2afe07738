-- Scaffolding: how a list keeper keeps its entries. No public contract cites this.
use Rattle.std.specs.Prelude.{◌≡◌, ℕ, ◌%◌, nat_le, List, [], ◌∷◌, ◌++◌, if◌then◌else◌, length, reverse, slice_index, sum_by, count_by}
use Rattle.bpf_entries.specs.Fields.{FitsFields}
use Rattle.bpf_entries.specs.Keeping.{Kept, kept_weight}
use Rattle.bpf_entries.specs.Reading.{entry_of}
use Rattle.bpf_entries.specs.Texts.{text}

-- What bytes are read as: an entry and its mark.
abbrev pub read_as : List ℕ → Kept
read_as bytes = (entry_of (slice_index bytes 2 % 128) (length bytes) bytes, nat_le 128 (slice_index bytes 2))

-- Bytes are the text of what they are read as.
pub record IsText (bytes : List ℕ) : Type 0 where
  pub fits : FitsFields (read_as bytes).0
  pub is : bytes ≡ text (read_as bytes).0 (read_as bytes).1

-- What items keep, which lie with the oldest first.
unfoldable pub held : List Kept → List Kept
held items = reverse items

-- How many marks one has.
abbrev pub mark_count : Kept → ℕ
mark_count k = if k.1 then 1 else 0

-- How many are marked.
abbrev pub marks : List Kept → ℕ
marks es = count_by (λ k. k.1) es

-- The counters of a list of entries.
pub record IsCounted (es : List Kept) (weight marked : ℕ) : Type 0 where
  pub weighs : weight ≡ sum_by kept_weight es
  pub counts : marked ≡ marks es

-- The oldest is dropped.
pub record LosesOldest (old new : List Kept) : Type 0 where
  pub oldest : Kept
  pub is : old ≡ new ++ oldest ∷ []
