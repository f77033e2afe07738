-- Linux's library of helpers is joined to an object by itself where functions lack without it, unless something that is called answers otherwise there than
-- in Linux: so what a test shows is never of such a helper, unless its library is named.
use Rattle.std.specs.Prelude.{ℕ, ◌≡◌, Bool, true, false, not, if◌then◌else◌, List, [], ◌∷◌, ◌++◌, Option, Some, None}
use Rattle.bpf_load.specs.Faults.{LacksFunctions}
use Rattle.bpf_load.specs.Notes.{AreNotes, differs}
use Rattle.bpf_load.specs.declared.notes.Notes.{Notes}
use Rattle.bpf_load.specs.declared.target.Target.{Target}
use Rattle.suite_files.specs.Links.{IsTargetOf}
use Rattle.suite_files.specs.declared.asked.Asked.{Asked}

-- What is said of its notes: nothing is otherwise.
abbrev pub is_like : Notes → Bool
is_like notes = not (differs notes)

-- Whether it is joined to an object, which others are joined to already.
pub data Suits (asked : Asked) (object : List ℕ) (with : List (List ℕ)) (library : List ℕ) (suits : Bool) : Type 0 where
  Whole : (target : Target) → IsTargetOf asked object with target → LacksFunctions target object false → suits ≡ false
      → Suits asked object with library suits
  Lacking : (target : Target) → IsTargetOf asked object with target → LacksFunctions target object true → (notes : Notes)
      → AreNotes target object library notes → suits ≡ is_like notes → Suits asked object with library suits

-- It stands behind these.
abbrev pub joined_if : Bool → List (List ℕ) → List ℕ → List (List ℕ)
joined_if suits with library = if suits then with ++ library ∷ [] else with

abbrev pub Completes : Option (List ℕ) → Asked → List ℕ → List (List ℕ) → List (List ℕ) → Type 0
Completes None asked object with all = all ≡ with
Completes (Some library) asked object with all = (suits : Bool) × Suits asked object with library suits × (all ≡ joined_if suits with library)
