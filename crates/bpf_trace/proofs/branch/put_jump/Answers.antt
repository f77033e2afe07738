use Rattle.std.proofs.Common.{◌++◌, ◌∙◌, List, ℕ, ap, codes}
use Rattle.counted_io.proofs.Appending.{WritesAfter-WritesAfter}
use Rattle.bpf_trace.proofs.Branching.{joined, way_is}
use Rattle.bpf_trace.proofs.branch.put_jump.Goals as goal

pub returns-clause-text : goal.returns-clause-text
returns-clause-text g c =
    let held = c.put_head-told.ensures.text in
    let went = rw (c.add_operands.ensures.text, c.pc-from.ensures, c.pc.ensures) at c.add_way.ensures.text in
    let way = rw (way_is c.args.cpu.now c.step_on.new.cpu c.step_on.ensures) at went in
    WritesAfter-WritesAfter g.W.Write.contents _ _ _ _ _ _ _ _ _ held.written c.put_ended.ensures
    (ap (λ (t : List ℕ). held.told ++ (t ++ c.args.place.now ++ codes "\n")) way
    ∙ joined held.told _ _ _ _ _ held.parts)
