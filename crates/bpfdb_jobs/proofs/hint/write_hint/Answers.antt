use Rattle.counted_io.proofs.Appending.{Writes-none}
use Rattle.bpfdb_jobs.proofs.hint.write_hint.Goals as goal

pub returns-in-Object : goal.returns-in-Object
returns-in-Object g c =
    let named = rw c.as_bytes.ensures.value at (c.put_shown-named.ensures _ _ (Writes-none g.E.Write.contents c.args.errors.now _)) in
    rw c.in-Object.is (c.put.ensures _ _ named)

pub returns-in-Listing : goal.returns-in-Listing
returns-in-Listing g c =
    let named = rw c.as_bytes-in-Listing.ensures.value at (c.put_shown-named-in-Listing.ensures _ _ (Writes-none g.E.Write.contents c.args.errors.now _)) in
    rw c.in-Listing.is (c.put-in-Listing.ensures _ _ named)

pub returns-in-Line : goal.returns-in-Line
returns-in-Line g c =
    let begun = c.put_all-begun.ensures _ _ (Writes-none g.E.Write.contents c.args.errors.now _) in
    let named = rw c.as_bytes-in-Line.ensures.value at (c.put_shown-named-in-Line.ensures _ _ begun) in
    rw c.in-Line.is (c.put-in-Line.ensures _ _ named)

pub returns-in-Helper : goal.returns-in-Helper
returns-in-Helper g c = rw c.in-Helper.is c.write_helper.ensures
