use Rattle.bpf_whynot.specs.Asked.{Goals}
use Rattle.bpf_whynot.proofs.aim.flag_left.Goals as goal

pub returns-clause-ok : goal.returns-clause-ok
returns-clause-ok g c =
    let asked = rw c.program.ensures at c.in-Ok.ensures.ok in
    let goals : Goals = record { slots = asked.0; by_value = c.in-Ok.by_value } in (
      goals,
      asked.1,
      λ h stands. (c.made_last.ensures.left h _ asked.0 stands asked.2, c.made_last.ensures.newest h _ asked.0 stands asked.2),
    )
