use Rattle.std.proofs.Common.{ℕ, ◌≡◌, ◌<◌, List, [], ◌∷◌, length, refl, arith}
use Rattle.counted_io.proofs.Appending.{WritesAfter-text}
use Rattle.bpf_isa.specs.declared.maps.MapShape.{MapShape}
use Rattle.bpfdb_jobs.specs.MapLines.{name_lines, names_behind}
use Rattle.bpfdb_jobs.proofs.maps.put_names_behind.Goals as goal

-- shapes that aren't none
some : (shapes : List MapShape) (object places : List ℕ) → 0 < length shapes → name_lines object places ≡ names_behind shapes object places
some [] object places h = absurd (omega (arith, h))
some (first ∷ rest) object places h = refl

pub returns-in_default : goal.returns-in_default
returns-in_default g c =
    WritesAfter-text g.E.Write.contents _ _ _ _ _ _ c.put_names.ensures
    (some c.args.shapes.now c.args.object.now c.args.places.now (omega (arith, c.in_default.len_at_least)))
