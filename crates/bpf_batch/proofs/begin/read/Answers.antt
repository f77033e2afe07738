use Rattle.std.specs.Prelude.{length}
use Rattle.std.proofs.lemmas.Bool.{le-ltb}
use Rattle.input_texts.specs.Cases.{longest_line}
use Rattle.bpf_batch.proofs.begin.read.Goals as goal

pub returns-in-Some : goal.returns-in-Some
returns-in-Some c = λ text held.
    let b = rw c.in-Some.is at (c.bytes.ensures text held) in
    rw (le-ltb longest_line (length text) b.1) (rw b.0 at c.case_of.ensures)
