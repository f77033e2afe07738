use Rattle.std.proofs.Common.{refl}
use Rattle.bpfdb_jobs.specs.Hints.{Accepted, Stands, Untold}
use Rattle.bpfdb_jobs.proofs.hint.hint_of_listing.Goals as goal

pub returns-in_default : goal.returns-in_default
returns-in_default c = Accepted c.in_default.ensures.none.0 c.in_default.ensures.none.1 refl

pub returns-in-Ok : goal.returns-in-Ok
returns-in-Ok c =
    Stands c.in-Some.fault c.in-Ok.table.items c.requires.checks c.requires.listing c.in-Some.ensures.some c.in-Ok.ensures.ok
    (rw c.as_slice.ensures.value at c.place_after.ensures)

pub returns-in-Err : goal.returns-in-Err
returns-in-Err c = Untold c.in-Err.field-0 c.requires.listing c.in-Err.ensures.err refl
