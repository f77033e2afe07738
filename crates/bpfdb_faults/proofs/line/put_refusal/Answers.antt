use Rattle.std.proofs.Common.{ℕ, List, ◌++◌, subst}
use Rattle.bpf_lines.specs.DebugInfos.{no_place_line}
use Rattle.counted_io.specs.Writing.{Writes}
use Rattle.bpfdb_faults.proofs.line.put_refusal.Goals as goal

pub returns-in-Object : goal.returns-in-Object
returns-in-Object g c = rw c.in-Object.is (c.put_object.ensures)

pub returns-in-Functions : goal.returns-in-Functions
returns-in-Functions g c = rw c.in-Functions.is c.put_functions.ensures

pub returns-in-NoTest : goal.returns-in-NoTest
returns-in-NoTest g c = rw c.in-NoTest.is c.put_no_such.ensures

pub returns-in-NoPlace : goal.returns-in-NoPlace
returns-in-NoPlace g c = λ first front known.
    rw c.in-NoPlace.is
    (subst (λ (n : List ℕ). Writes g.E.Write.contents first c.put_no_place.new.writer c.put_no_place.result (front ++ no_place_line n))
    c.as_bytes.ensures.value (c.put_no_place.ensures first front known))

pub returns-in-Tests : goal.returns-in-Tests
returns-in-Tests g c = λ first front known.
    rw c.in-Tests.is
    (rw (c.number-number-in-Tests.ensures, c.text-text-in-Tests.ensures) at (c.put_refused-in-Tests.ensures first front known))

pub returns-in-TraceLine : goal.returns-in-TraceLine
returns-in-TraceLine g c = λ first front known.
    rw c.in-TraceLine.is
    (rw (c.number-number.ensures, c.text-text.ensures) at (c.put_refused.ensures first front known))

pub returns-in-OtherObject : goal.returns-in-OtherObject
returns-in-OtherObject g c = rw c.in-OtherObject.is c.put_object-in-OtherObject.ensures
