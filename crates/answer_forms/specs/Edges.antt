-- The edges of a graph, as text: from a line to those that tell what it read.
use Rattle.std.specs.Prelude.{ℕ, ◌+◌, Bool, false, ◌==◌, if◌then◌else◌, List, [], ◌∷◌, ◌++◌, Option, Some, None, codes, decimal, map}
use Rattle.std.specs.Option.{option_map_or}
use Rattle.answer_forms.specs.Lines.{read_text, tells}
use Rattle.answer_forms.specs.Parts.{part_in, places}
use Rattle.answer_forms.specs.declared.graph_part.Part.{Part}

-- The first of some lines that tells a place, counted from k on.
abbrev pub teller : ℕ → List (List ℕ) → ℕ → Option ℕ
teller k [] p = None
teller k (line ∷ older) p = if tells line p then Some k else teller (k + 1) older p

-- An edge to the line of each place, but where it is that of the place before.
unfoldable pub edge : ℕ → ℕ → List ℕ
edge k j = codes "  n" ++ decimal k ++ codes " -> n" ++ decimal j ++ codes ";\n"

abbrev pub is_at : Option ℕ → ℕ → Bool
is_at before j = option_map_or (λ i. i == j) before false

abbrev pub edge_to : ℕ → Option ℕ → Option ℕ → List ℕ
edge_to k before (Some j) = if is_at before j then [] else edge k j
edge_to k before None = []

abbrev pub edges_to : ℕ → Option ℕ → List (Option ℕ) → List ℕ
edges_to k before [] = []
edges_to k before (j ∷ js) = edge_to k before j ++ edges_to k j js

-- Those of the places of a part; of the parts whose names stand behind blanks (32).
abbrev pub part_edges : (ℕ → Option ℕ) → ℕ → Part → List ℕ
part_edges line_of k p = edges_to k None (map line_of (places p.first p.read))

unfoldable pub edges_behind : (ℕ → Option ℕ) → ℕ → ℕ → List ℕ → List ℕ
edges_behind line_of k b s = if b == 32 then option_map_or (part_edges line_of k) (part_in s) [] else []

abbrev pub edges_in : (ℕ → Option ℕ) → ℕ → List ℕ → List ℕ
edges_in line_of k [] = []
edges_in line_of k (b ∷ s) = edges_behind line_of k b s ++ edges_in line_of k s

-- Those of lines, counted from k on: what a line read is told by one behind it.
abbrev pub edges : ℕ → List (List ℕ) → List ℕ
edges k [] = []
edges k (line ∷ older) = edges (k + 1) older ++ edges_in (teller (k + 1) older) k (read_text line)
