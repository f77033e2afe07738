-- What FILE is, where nobody says so: by its name and its bytes. bpfdb's own choice.
use Rattle.std.specs.Prelude.{ℕ, ◌==◌, ◌&&◌, Bool, not, if◌then◌else◌, List, [], ◌∷◌, codes}
use Rattle.std.specs.List.{ends_with, list_any, starts_with}
use Rattle.bpf_load.specs.declared.target.SourceKind.{SourceKind}
use Rattle.bpf_load.specs.declared.target.SourceKind.TheVariants.{Listing, Object, Words}

-- An object begins with the four bytes of ELF's magic number (System V ABI, "ELF Identification").
abbrev pub is_object : List ℕ → Bool
is_object file = starts_with (λ a b. a == b) file (127 ∷ 69 ∷ 76 ∷ 70 ∷ [])

-- The name of a listing ends with `.s`, and no byte of it is zero: each program's words have one that is.
abbrev pub is_listing : List ℕ → List ℕ → Bool
is_listing name file = ends_with (λ a b. a == b) name (codes ".s") && not (list_any (λ b. b == 0) file)

abbrev pub kind_of : List ℕ → List ℕ → SourceKind
kind_of name file = if is_object file then Object else if is_listing name file then Listing else Words
