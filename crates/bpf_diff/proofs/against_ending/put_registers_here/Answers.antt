use Rattle.std.proofs.Common.{◌++◌, ◌∙◌, ℕ, ap, codes, decimal, refl}
use Rattle.counted_io.proofs.Appending.{WritesAfter-WritesAfter}
use Rattle.bpf_diff.proofs.against_ending.put_registers_here.Goals as goal

pub returns : goal.returns
returns g c = λ k.
    let begun = WritesAfter-WritesAfter g.W.Write.contents _ _ _ _ _ _ _ _ _ c.put-marked.ensures c.put_decimal-begun.ensures
    (ap (λ (n : ℕ). codes "< " ++ decimal n) (c.from.ensures ∙ c.pc.ensures)) in
    WritesAfter-WritesAfter g.W.Write.contents _ _ _ _ _ _ _ _ _ begun c.put_registers.ensures refl
