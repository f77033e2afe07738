-- How far and why, and then where.
use Rattle.std.proofs.Common.{append_assoc}
use Rattle.bpfdb_script.proofs.moves.put_move.Goals as goal

pub returns : goal.returns
returns g c = λ first front known.
    let stopped = rw (c.as_bytes-why.ensures.value, c.text.ensures) at (c.put_all-stopped.ensures first front known) in
    let placed = c.put_place-placed.ensures first _ stopped in
    simp append_assoc (simp append_assoc at (c.put.ensures first _ placed))
