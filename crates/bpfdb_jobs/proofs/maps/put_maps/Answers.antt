use Rattle.std.proofs.Common.{◌≡◌, ◌++◌, List, ℕ, append_assoc, ap, codes, decimal, flat_map, refl, sym, ◌∙◌}
use Rattle.counted_io.proofs.Appending.{Writes-text}
use Rattle.bpfdb_jobs.specs.MapLines.{maps_line, shape_text}
use Rattle.bpfdb_jobs.proofs.maps.put_maps.Goals as goal

-- the parts of the line, one behind the other
in_line : (front word size by entries more end : List ℕ)
    → ((front ++ (word ++ size ++ by ++ entries)) ++ more) ++ end ≡ front ++ (word ++ ((size ++ by ++ entries) ++ more) ++ end)
in_line front word size by entries more end = simp append_assoc refl

pub returns-in-Some : goal.returns-in-Some
returns-in-Some g c = λ first front known.
    let begun = rw (c.from-size.ensures, c.from-entries.ensures) at (c.put_all-begun.ensures first front known) in
    let told = c.put_further-told.ensures first _ begun in
    let shape = c.in-Some.first.now in
    Writes-text g.E.Write.contents _ _ _ _ _ (c.put.ensures first _ told)
    (in_line front (codes "--maps ") (decimal shape.value_size) (codes "x") (decimal shape.entries) (flat_map (λ shape. codes "," ++ shape_text shape) c.in-Some.rest.now) (codes "\n")
    ∙ ap (λ shapes. front ++ maps_line shapes) (sym c.in-Some.ensures.cases.0))
