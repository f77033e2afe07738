-- Where the labels of a listing stand.
use Rattle.std.specs.Prelude.{ℕ, if◌then◌else◌, List, Option, Some, None}
use Rattle.std.specs.Str.{bytes_eq}
use Rattle.bpf_text.specs.declared.read.labels.Definition.{Definition}

-- The line and the slot of a name, if a line has it as its label.
abbrev pub Labels : Type 0
Labels = List ℕ → Option Definition

abbrev pub no_label : Labels
no_label name = None

-- The labels before, and one more.
abbrev pub labels_with : Labels → Definition → Option (List ℕ) → Labels
labels_with labels definition None = labels
labels_with labels definition (Some name) = λ q. if bytes_eq name q then Some definition else labels q

-- Where a line's label stands already.
abbrev pub definition_of : Labels → Option (List ℕ) → Option Definition
definition_of labels None = None
definition_of labels (Some name) = labels name
