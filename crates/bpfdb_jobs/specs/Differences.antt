-- What is told of the program of an object that answers otherwise than in Linux. bpfdb's own choice.
use Rattle.std.specs.Prelude.{ℕ, ◌/◌, List, [], ◌++◌, Option, Some, None, codes, length}
use Rattle.bpf_link.specs.Names.{built}
use Rattle.bpf_load.specs.Notes.{difference}
use Rattle.bpf_load.specs.declared.notes.Notes.{Notes}
use Rattle.bpfdb_script.specs.Shown.{shown}

abbrev pub difference_line : Option (List ℕ) → List ℕ
difference_line None = []
difference_line (Some text) = codes "other than Linux: " ++ shown text ++ codes "\n"

abbrev pub with_difference : Notes → ℕ → List ℕ → List ℕ
with_difference notes k text = text ++ difference_line (difference notes k)

abbrev pub differences : Notes → List ℕ
differences notes = built (with_difference notes) (length notes.rows.now / 64)
