-- The text of a journal: the bytes of its entries, one entry after another. In a list of entries and marks the newest comes first, in
-- the text the oldest.
use Rattle.std.specs.Prelude.{◌≡◌, ℕ, ◌-◌, Bool, List, [], ◌∷◌, ◌++◌, All, length, drop}
use Rattle.byteorder.specs.Endian.{little_number}
use Rattle.bpf_entries.specs.declared.entry.Entry.{Entry}
use Rattle.bpf_entries.specs.Fields.{FitsFields}
use Rattle.bpf_entries.specs.Texts.{text}
use Rattle.bpf_entries.specs.Weights.{weight}

abbrev pub ring : List (Entry × Bool) → List ℕ
ring [] = []
ring (k ∷ ks) = ring ks ++ text k.0 k.1

-- All of them fit their fields.
abbrev pub AllFit : List (Entry × Bool) → Type 0
AllFit ks = All (λ k. FitsFields k.0) ks

-- A text is of one entry and mark alone.
abbrev pub OneEntry : Type 0
OneEntry = (e f : Entry) (m n : Bool) → FitsFields e → FitsFields f → text e m ≡ text f n → (e ≡ f) × (m ≡ n)

-- An entry weighs as many bytes as its text has.
abbrev pub WeighsItsText : Type 0
WeighsItsText = (e : Entry) (m : Bool) → FitsFields e → length (text e m) ≡ weight e

-- A ring is of one list alone.
abbrev pub OneList : Type 0
OneList = (ks ls : List (Entry × Bool)) → AllFit ks → AllFit ls → ring ks ≡ ring ls → ks ≡ ls

-- The last two bytes of a ring say how many bytes its newest entry has.
abbrev pub EndsInWeight : Type 0
EndsInWeight =
    (ks : List (Entry × Bool)) (e : Entry) (m : Bool) → FitsFields e
    → little_number 2 (drop (length (ring ((e, m) ∷ ks)) - 2) (ring ((e, m) ∷ ks))) ≡ weight e

-- So many bytes at its end are the newest entry's.
abbrev pub EndsInText : Type 0
EndsInText =
    (ks : List (Entry × Bool)) (e : Entry) (m : Bool) → FitsFields e
    → drop (length (ring ((e, m) ∷ ks)) - weight e) (ring ((e, m) ∷ ks)) ≡ text e m

-- The oldest entry's text stands in front.
abbrev pub BeginsWithOldest : Type 0
BeginsWithOldest = (ks : List (Entry × Bool)) (e : Entry) (m : Bool) → ring (ks ++ (e, m) ∷ []) ≡ text e m ++ ring ks
