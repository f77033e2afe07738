-- The slot, and then the instruction.
use Rattle.std.proofs.Common.{append_assoc, sym}
use Rattle.bpfdb_script.proofs.instructions.put_at.Goals as goal

pub returns : goal.returns
returns g c = λ first front known.
    let placed = c.put_all-placed.ensures first front known in
    rw (sym c.in-Some.ensures) (simp append_assoc (simp append_assoc at (c.put_insn.ensures first _ placed)))
