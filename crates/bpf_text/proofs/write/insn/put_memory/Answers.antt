-- A plus stands before a number that isn't below zero.
use Rattle.std.proofs.Common.{codes, ap, ◌∙◌, ◌++◌, decimal, append_assoc, w16}
use Rattle.std.proofs.lemmas.Int.{to_z-of_z}
use Rattle.bpf_text.specs.Operands.{offset_text}
use Rattle.bpf_text.proofs.Offsets.{offset_text-pos}
use Rattle.counted_io.proofs.Appending.{WritesAfter-text}
use Rattle.bpf_text.proofs.write.insn.put_memory.Goals as goal

pub returns-else-offset-lt0 : goal.returns-else-offset-lt0
returns-else-offset-lt0 g c =
    let offset = c.args.offset in
    let begun = codes "[r" ++ decimal c.from-number.result in
    let moved = offset_text-pos offset c.from-distance.result c.if-offset-lt0.false c.ranges.offset (c.from-distance.ensures ∙ to_z-of_z w16 offset c.ranges.offset) in
    WritesAfter-text g.W.Write.contents _ _ _ _ _ _ c.put_all-else-offset-lt0.ensures
    (ap (λ s. s ++ codes "]") (append_assoc begun (codes "+") _ ∙ ap (λ s. begun ++ s) moved)
    ∙ ap (λ n. (codes "[r" ++ decimal n) ++ offset_text offset ++ codes "]") (c.from-number.ensures ∙ c.number.ensures.value))
