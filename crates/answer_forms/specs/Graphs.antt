-- An answer as a graph in DOT, the language of graphviz.
use Rattle.std.specs.Prelude.{ℕ, ◌+◌, ◌==◌, ◌||◌, if◌then◌else◌, List, [], ◌∷◌, ◌++◌, codes, decimal, flat_map, length}
use Rattle.answer_forms.specs.Cuts.{pieces}
use Rattle.answer_forms.specs.Edges.{edges}

-- A label: quotation marks (34) and reverse solidi (92) stand behind a reverse solidus.
unfoldable pub escaped : ℕ → List ℕ
escaped b = if b == 34 || b == 92 then 92 ∷ b ∷ [] else b ∷ []

-- A node a line, counted from k on.
unfoldable pub node : ℕ → List ℕ → List ℕ
node k line = codes "  n" ++ decimal k ++ codes " [label=\"" ++ flat_map escaped line ++ codes "\"];\n"

abbrev pub nodes : ℕ → List (List ℕ) → List ℕ
nodes k [] = []
nodes k (line ∷ older) = node k line ++ nodes (k + 1) older

abbrev pub graph : List (List ℕ) → List ℕ
graph lines = codes "strict digraph origin {\n  node [shape=box];\n" ++ nodes 0 lines ++ edges 0 lines ++ codes "}\n"

-- Lines end with line feeds (10). Where there is no answer there is no graph.
unfoldable pub dot_of : List ℕ → List ℕ
dot_of text = if length text == 0 then [] else graph (pieces 10 text)
