use Rattle.std.proofs.Common.{ℕ, ◌≡◌, ◌++◌, List, append_assoc, codes, decimal, refl}
use Rattle.counted_io.proofs.Appending.{Writes-text}
use Rattle.counted_io.specs.Writing.{hexadecimal}
use Rattle.bpf_steps.specs.Platform.{map_address}
use Rattle.bpfdb_jobs.specs.Programs.{behind_address}
use Rattle.bpfdb_jobs.proofs.load.put_map.Goals as goal

-- the parts of the line, one behind the other
in_line : (front word number by size x entries at address name end : List ℕ)
    → ((front ++ (word ++ number ++ by ++ size ++ x ++ entries ++ at ++ address)) ++ name) ++ end
    ≡ front ++ (word ++ number ++ by ++ (size ++ x ++ entries) ++ at ++ address ++ name ++ end)
in_line front word number by size x entries at address name end = simp append_assoc refl

pub returns : goal.returns
returns g c = λ first front known.
    let begun = rw (c.from-size.ensures, c.from-entries.ensures) at (c.put_all-begun.ensures first front known) in
    let named = c.put_named-named.ensures first _ begun in
    Writes-text g.W.Write.contents _ _ _ _ _ (c.put.ensures first _ named)
    (in_line front (codes "map ") (decimal c.args.number) (codes ": ") (decimal c.args.shape.value_size) (codes "x") (decimal c.args.shape.entries)
    (codes " at ") (hexadecimal (map_address c.args.number)) (behind_address c.args.name.now) (codes "\n"))
