use Rattle.std.proofs.Common.{◌≡◌, ◌++◌, List, ℕ, append_assoc, ap, codes, decimal, flat_map, sym, ◌∙◌}
use Rattle.counted_io.proofs.Appending.{Writes-text}
use Rattle.suite_files.specs.Maps.{maps_text, shape_text}
use Rattle.suite_files.proofs.maps.put_maps.Goals as goal

-- the parts of the text, one behind the other
in_text : (front size by entries more : List ℕ)
    → (front ++ (size ++ by ++ entries)) ++ more ≡ front ++ ((size ++ by ++ entries) ++ more)
in_text front size by entries more = append_assoc front (size ++ by ++ entries) more

pub returns-in-Some : goal.returns-in-Some
returns-in-Some g c = λ first front known.
    let begun = rw (c.from-size.ensures, c.from-entries.ensures) at (c.put_all-begun.ensures first front known) in
    let shape = c.in-Some.first.now in
    Writes-text g.W.Write.contents _ _ _ _ _ (c.put_further.ensures first _ begun)
    (in_text front (decimal shape.value_size) (codes "x") (decimal shape.entries) (flat_map (λ shape. codes "," ++ shape_text shape) c.in-Some.rest.now)
    ∙ ap (λ shapes. front ++ maps_text shapes) (sym c.in-Some.ensures.cases.0))
