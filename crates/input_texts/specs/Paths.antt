-- Where files lie that sections of tests name. bpfdb's own choice.
use Rattle.std.specs.Prelude.{ℕ, Bool, ◌==◌, ◌&&◌, not, if◌then◌else◌, List, [], ◌∷◌, codes}
use Rattle.std.specs.List.{list_all, slice_split, starts_with}
use Rattle.std.specs.Str.{bytes_eq}

-- The folder of a path: without what stands behind its last slash (47).
abbrev pub is_part : ℕ → Bool
is_part b = not (b == 47)

abbrev pub onto_folder : ℕ → List ℕ → List ℕ
onto_folder b [] = if is_part b then [] else b ∷ []
onto_folder b (c ∷ s) = b ∷ c ∷ s

abbrev pub folder_of : List ℕ → List ℕ
folder_of [] = []
folder_of (b ∷ s) = onto_folder b (folder_of s)

-- A path that begins with a slash.
abbrev pub is_absolute : List ℕ → Bool
is_absolute path = starts_with (λ a b. a == b) path (codes "/")

-- No part of it is the folder above.
abbrev pub is_inner : List ℕ → Bool
is_inner part = not (bytes_eq part (codes ".."))

-- It doesn't lead out of the folder in which it begins, as it is written.
abbrev pub is_below : List ℕ → Bool
is_below path = not (is_absolute path) && list_all is_inner (slice_split (λ b. b == 47) path)
