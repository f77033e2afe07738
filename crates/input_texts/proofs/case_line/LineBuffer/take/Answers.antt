use Rattle.input_texts.proofs.CaseLines.{takes-all, takes-cut}
use Rattle.input_texts.proofs.case_line.LineBuffer.take.Goals as goal

pub returns-in_ok-append-in-Some : goal.returns-in_ok-append-in-Some
returns-in_ok-append-in-Some c =
    takes-cut _ _ _ _ _ c.as_slice-bytes.ensures _ (rw c.in-Some.is at c.memchr.ensures) c.consume.ensures (rw c.in_ok-append-in-Some.was at c.append.ensures)

pub returns-in_ok-append-in-None : goal.returns-in_ok-append-in-None
returns-in_ok-append-in-None c =
    takes-all _ _ _ _ _ c.as_slice-bytes.ensures (rw c.in-None.is at c.memchr.ensures) c.consume-in-None.ensures
    (rw c.in_ok-append-in-None.was at c.append-in-None.ensures)
