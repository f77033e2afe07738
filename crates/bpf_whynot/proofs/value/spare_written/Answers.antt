use Rattle.std.proofs.Common.{◌≡◌, ◌∷◌}
use Rattle.bpf_machine.specs.Moves.{overwritten}
use Rattle.bpf_origin.proofs.Turning.{entry_of_last}
use Rattle.bpf_whynot.proofs.value.spare_written.Goals as goal

pub returns-in_default-clause-hit : goal.returns-in_default-clause-hit
returns-in_default-clause-hit g c = λ r h f stands.
    let was = c.newest.ensures (record { history = r ∷ h; ahead = f }) stands in
    let none = c.in_default.is in
    cc

pub returns-in_default-clause-still : goal.returns-in_default-clause-still
returns-in_default-clause-still g c = λ r h f stands.
    let was = c.newest.ensures (record { history = r ∷ h; ahead = f }) stands in
    let none = c.in_default.is in
    cc

pub returns-clause-hit : goal.returns-clause-hit
returns-clause-hit g c = λ r h f stands.
    let is = entry_of_last _ _ r h c.in-Some.is (c.newest.ensures (record { history = r ∷ h; ahead = f }) stands) in
    let same : c.in-Some.entry ≡ overwritten r.before r.move = (let d = c.in-Some.entry-is in cc) in
    rw (c.as_slice.ensures.value, c.written-wrote.ensures.items, c.cpu-cpu.ensures, same) at c.are_hit-hit.ensures

pub returns-clause-still : goal.returns-clause-still
returns-clause-still g c = λ r h f stands.
    let is = entry_of_last _ _ r h c.in-Some.is (c.newest.ensures (record { history = r ∷ h; ahead = f }) stands) in
    let same : c.in-Some.entry ≡ overwritten r.before r.move = (let d = c.in-Some.entry-is in cc) in
    rw (c.depth.ensures, c.spare.ensures, c.as_slice-2.ensures.value, c.written-wrote.ensures.items, c.cpu-cpu.ensures, same) at c.carry.ensures
