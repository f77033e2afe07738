-- The instruction to run stands behind its words, and what is answered behind its slot.
use Rattle.std.proofs.Common.{sym, ◌∙◌, append_assoc}
use Rattle.bpfdb_script.specs.Texts.{place}
use Rattle.bpfdb_script.proofs.place.put_place.Goals as goal

pub returns-in-Running : goal.returns-in-Running
unfolding place
returns-in-Running g c = λ first front known.
    let begun = c.put-begun.ensures first front known in
    rw (sym c.status.ensures ∙ c.in-Running.is) (simp append_assoc (simp append_assoc at (rw (c.program.ensures, c.from.ensures, c.pc-pc.ensures) at (c.put_at.ensures first _ begun))))

pub returns-in-Exited : goal.returns-in-Exited
unfolding place
returns-in-Exited g c = λ first front known.
    rw (sym c.status.ensures ∙ c.in-Exited.is) (rw (c.from-slot.ensures, c.pc-pc.ensures, c.number_in-answer.ensures) at (c.put_all.ensures first front known))
