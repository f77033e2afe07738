-- Scaffolding: the labels and statements that an outline of a listing holds.
use Rattle.std.specs.Prelude.{ℕ, List}
use Rattle.std.specs.Str.{bytes_eq}
use Rattle.indexmap.specs.IndexMap.{IndexMap, get_by}
use Rattle.std.specs.Borrow.{Bor}
use Rattle.bpf_text.specs.declared.read.first_round.Outline.{Outline}
use Rattle.bpf_text.specs.declared.read.labels.Definition.{Definition}
use Rattle.bpf_text.specs.declared.read.first_round.Placed.{Placed}
use Rattle.bpf_text.specs.Scaffolding.Rounds.{Labels}

abbrev pub labels_in : {S : Type 0} → IndexMap (Bor (List ℕ)) Definition S → Labels
labels_in map = λ q. get_by (λ name. bytes_eq q name.now) map

-- The labels and the statements of an outline.
abbrev pub labels_of : Outline → Labels
labels_of outline = labels_in outline.labels

abbrev pub placed_of : Outline → List Placed
placed_of outline = outline.placed.items
