use Rattle.std.proofs.Common.{◌≡◌, ◌<◌, List, [], ◌∷◌, ◌++◌, flat_map, length, refl, arith}
use Rattle.std.specs.Prelude.{codes}
use Rattle.std.proofs.lemmas.Bool.Decides.{nat_tests}
use Rattle.counted_io.proofs.Appending.{WritesAfter-text, WritesAfter-WritesAfter}
use Rattle.bpf_origin.specs.declared.place.Part.{Part}
use Rattle.bpf_origin.specs.Texts.{read_text, reads_text}
use Rattle.bpf_origin.proofs.line.put_reads.Goals as goal

some_reads : (ps : List Part) → 0 < length ps → codes "; from" ++ flat_map read_text ps ≡ reads_text ps
some_reads [] some = absurd (omega (arith, some))
some_reads (p ∷ ps) some = refl

pub returns : goal.returns
returns g c =
    let some : 0 < length c.args.parts.now = grind (arith, nat_tests, c.is_empty.ensures, c.if-is_empty.false) in
    WritesAfter-text g.W.Write.contents _ _ _ _ _ _
    (WritesAfter-WritesAfter g.W.Write.contents _ _ _ _ _ _ _ _ _ c.put-begun.ensures c.put_some_reads.ensures refl)
    (some_reads c.args.parts.now some)
