-- Edges that are appended, one after another.
use Rattle.std.proofs.Common.{◌≡◌, ◌+◌, ◌-◌, ◌%◌, ◌^◌, ◌<◌, ℕ, List, [], ◌∷◌, ◌++◌, Option, Some, None, Bor, drop, take, get_or, length, map, refl, sym, ap, ap₂, ◌∙◌, append_assoc, arith}
use Rattle.std.specs.Prelude.{if◌then◌else◌, ◌==◌}
use Rattle.std.specs.Option.{option_map_or}
use Rattle.std.proofs.lemmas.List.{drop-map, drop_more, take_rest}
use Rattle.answer_forms.specs.Edges.{edge_to, edges, edges_behind, edges_in, edges_to, part_edges, teller}
use Rattle.answer_forms.specs.Graphs.{node, nodes}
use Rattle.answer_forms.specs.Lines.{read_text, tells}
use Rattle.answer_forms.specs.Parts.{part_in, places}
use Rattle.answer_forms.specs.declared.graph_part.Part.{Part}
use Rattle.answer_forms.proofs.Places.{places-more}

-- what is told is told of the first, and the rest of the others
appended : (now new first rest whole : List ℕ) → new ≡ now ++ first → now ++ (first ++ rest) ≡ whole → new ++ rest ≡ whole
appended now new first rest whole e h = ap (λ (xs : List ℕ). xs ++ rest) e ∙ append_assoc now first rest ∙ h

-- of the next place
pub next-place : (line_of : ℕ → Option ℕ) (k p n i : ℕ) (before line : Option ℕ) (now new whole : List ℕ) → i < n → line ≡ line_of p
    → new ≡ now ++ edge_to k before line → now ++ edges_to k before (map line_of (places p (n - i))) ≡ whole
    → new ++ edges_to k line (map line_of (places ((p + 1) % 2 ^ 64) (n - (i + 1)))) ≡ whole
next-place line_of k p n i before line now new whole inside is e h =
    ap (λ (o : Option ℕ). new ++ edges_to k o (map line_of (places ((p + 1) % 2 ^ 64) (n - (i + 1))))) is
    ∙ appended now new (edge_to k before (line_of p)) (edges_to k (line_of p) (map line_of (places ((p + 1) % 2 ^ 64) (n - (i + 1))))) whole
    (e ∙ ap (λ (o : Option ℕ). now ++ edge_to k before o) is)
    (ap (λ (ps : List ℕ). now ++ edges_to k before (map line_of ps)) (sym (places-more p n i inside)) ∙ h)

-- of the next byte
pub next-byte : (line_of : ℕ → Option ℕ) (k : ℕ) (xs : List ℕ) (i d : ℕ) (now new whole : List ℕ) → i < length xs
    → new ≡ now ++ edges_behind line_of k (get_or xs i d) (take (length xs - (i + 1)) (drop (i + 1) xs))
    → now ++ edges_in line_of k (drop i xs) ≡ whole → new ++ edges_in line_of k (drop (i + 1) xs) ≡ whole
next-byte line_of k xs i d now new whole inside e h =
    appended now new (edges_behind line_of k (get_or xs i d) (drop (i + 1) xs)) (edges_in line_of k (drop (i + 1) xs)) whole
    (e ∙ ap (λ (s : List ℕ). now ++ edges_behind line_of k (get_or xs i d) s) (take_rest xs (i + 1)))
    (ap (λ (t : List ℕ). now ++ t) (sym (ap (edges_in line_of k) (drop_more xs i d inside))) ∙ h)

-- lines that are told alike have the same edges
map-alike : (f g : ℕ → Option ℕ) → ((p : ℕ) → f p ≡ g p) → (ps : List ℕ) → map f ps ≡ map g ps
map-alike f g alike [] = refl
map-alike f g alike (p ∷ ps) = ap₂ (λ (o : Option ℕ) (os : List (Option ℕ)). o ∷ os) (alike p) (map-alike f g alike ps)

part-alike : (f g : ℕ → Option ℕ) → ((p : ℕ) → f p ≡ g p) → (k : ℕ) (found : Option Part)
    → option_map_or (part_edges f k) found [] ≡ option_map_or (part_edges g k) found []
part-alike f g alike k None = refl
part-alike f g alike k (Some part) = ap (λ (os : List (Option ℕ)). edges_to k None os) (map-alike f g alike (places part.first part.read))

behind-alike : (f g : ℕ → Option ℕ) → ((p : ℕ) → f p ≡ g p) → (k b : ℕ) (s : List ℕ) → edges_behind f k b s ≡ edges_behind g k b s
unfolding edges_behind
behind-alike f g alike k b s = ap (λ (t : List ℕ). if b == 32 then t else []) (part-alike f g alike k (part_in s))

edges-alike : (f g : ℕ → Option ℕ) → ((p : ℕ) → f p ≡ g p) → (k : ℕ) (s : List ℕ) → edges_in f k s ≡ edges_in g k s
edges-alike f g alike k [] = refl
edges-alike f g alike k (b ∷ s) = ap₂ (λ (t u : List ℕ). t ++ u) (behind-alike f g alike k b s) (edges-alike f g alike k s)

-- the lines from one on, where there is one
lines-more : (ls : List (Bor (List ℕ))) (k : ℕ) (d : Bor (List ℕ)) → k < length ls
    → drop k (map (λ s. s.now) ls) ≡ (get_or ls k d).now ∷ drop (k + 1) (map (λ s. s.now) ls)
lines-more ls k d inside =
    drop-map (λ (s : Bor (List ℕ)). s.now) k ls ∙ ap (map (λ (s : Bor (List ℕ)). s.now)) (drop_more ls k d inside)
    ∙ ap (λ (t : List (List ℕ)). (get_or ls k d).now ∷ t) (sym (drop-map (λ (s : Bor (List ℕ)). s.now) (k + 1) ls))

-- of the next node
pub next-node : (ls : List (Bor (List ℕ))) (k : ℕ) (d : Bor (List ℕ)) (now new whole : List ℕ) → k < length ls → new ≡ now ++ node k (get_or ls k d).now
    → now ++ nodes k (drop k (map (λ s. s.now) ls)) ≡ whole → new ++ nodes (k + 1) (drop (k + 1) (map (λ s. s.now) ls)) ≡ whole
next-node ls k d now new whole inside e h =
    appended now new (node k (get_or ls k d).now) (nodes (k + 1) (drop (k + 1) (map (λ (s : Bor (List ℕ)). s.now) ls))) whole e
    (ap (λ (t : List (List ℕ)). now ++ nodes k t) (sym (lines-more ls k d inside)) ∙ h)

-- of the line before those that have been gone through
line-before : (ls : List (Bor (List ℕ))) (i : ℕ) (d : Bor (List ℕ)) → i < length ls
    → drop (length ls - (i + 1)) (map (λ s. s.now) ls) ≡ (get_or ls (length ls - 1 - i) d).now ∷ drop (length ls - i) (map (λ s. s.now) ls)
line-before ls i d inside =
    let at : length ls - (i + 1) ≡ length ls - 1 - i = omega (arith, inside) in
    let next : length ls - 1 - i + 1 ≡ length ls - i = omega (arith, inside) in
    let within : length ls - 1 - i < length ls = omega (arith, inside) in
    ap (λ (m : ℕ). drop m (map (λ (s : Bor (List ℕ)). s.now) ls)) at ∙ lines-more ls (length ls - 1 - i) d within
    ∙ ap (λ (m : ℕ). (get_or ls (length ls - 1 - i) d).now ∷ drop m (map (λ (s : Bor (List ℕ)). s.now) ls)) next

pub edges-before : (ls : List (Bor (List ℕ))) (i : ℕ) (d : Bor (List ℕ)) (f : ℕ → Option ℕ) (now new first text : List ℕ) → i < length ls
    → ((p : ℕ) → f p ≡ teller (length ls - i) (drop (length ls - i) (map (λ s. s.now) ls)) p)
    → now ≡ first ++ edges (length ls - i) (drop (length ls - i) (map (λ s. s.now) ls))
    → text ≡ read_text (get_or ls (length ls - 1 - i) d).now → new ≡ now ++ edges_in f (length ls - 1 - i) text
    → new ≡ first ++ edges (length ls - (i + 1)) (drop (length ls - (i + 1)) (map (λ s. s.now) ls))
edges-before ls i d f now new first text inside alike so_far read e =
    let at : length ls - (i + 1) ≡ length ls - 1 - i = omega (arith, inside) in
    let next : length ls - 1 - i + 1 ≡ length ls - i = omega (arith, inside) in
    let older : List (List ℕ) = drop (length ls - i) (map (λ (s : Bor (List ℕ)). s.now) ls) in
    let line : List ℕ = (get_or ls (length ls - 1 - i) d).now in
    e
    ∙ ap₂ (λ (s t : List ℕ). s ++ t) so_far
    (ap (edges_in f (length ls - 1 - i)) read ∙ edges-alike f (teller (length ls - i) older) alike (length ls - 1 - i) (read_text line))
    ∙ append_assoc first (edges (length ls - i) older) (edges_in (teller (length ls - i) older) (length ls - 1 - i) (read_text line))
    ∙ ap (λ (m : ℕ). first ++ (edges m older ++ edges_in (teller m older) (length ls - 1 - i) (read_text line))) (sym next)
    ∙ ap (λ (t : List (List ℕ)). first ++ edges (length ls - 1 - i) t) (sym (line-before ls i d inside))
    ∙ ap (λ (m : ℕ). first ++ edges m (drop (length ls - (i + 1)) (map (λ (s : Bor (List ℕ)). s.now) ls))) (sym at)

-- of a line more that tells places
pub teller-before : (ls : List (Bor (List ℕ))) (i p : ℕ) (d : Bor (List ℕ)) (old new : Option ℕ) → i < length ls
    → old ≡ teller (length ls - i) (drop (length ls - i) (map (λ s. s.now) ls)) p
    → new ≡ (if tells (get_or ls (length ls - 1 - i) d).now p then Some (length ls - 1 - i) else old)
    → new ≡ teller (length ls - (i + 1)) (drop (length ls - (i + 1)) (map (λ s. s.now) ls)) p
teller-before ls i p d old new inside so_far e =
    let at : length ls - (i + 1) ≡ length ls - 1 - i = omega (arith, inside) in
    let next : length ls - 1 - i + 1 ≡ length ls - i = omega (arith, inside) in
    let older : List (List ℕ) = drop (length ls - i) (map (λ (s : Bor (List ℕ)). s.now) ls) in
    let line : List ℕ = (get_or ls (length ls - 1 - i) d).now in
    e
    ∙ ap (λ (o : Option ℕ). if tells line p then Some (length ls - 1 - i) else o) so_far
    ∙ ap (λ (m : ℕ). if tells line p then Some (length ls - 1 - i) else teller m older p) (sym next)
    ∙ ap (λ (t : List (List ℕ)). teller (length ls - 1 - i) t p) (sym (line-before ls i d inside))
    ∙ ap (λ (m : ℕ). teller m (drop (length ls - (i + 1)) (map (λ (s : Bor (List ℕ)). s.now) ls)) p) (sym at)
