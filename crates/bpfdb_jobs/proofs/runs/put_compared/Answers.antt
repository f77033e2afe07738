use Rattle.std.proofs.Common.{ℕ, List, [], Option, Result, Ok, Err}
use Rattle.std.specs.Prelude.{IfOk}
use Rattle.bpf_diff.specs.declared.diff.Compared.{Compared}
use Rattle.counted_io.proofs.Appending.{Writes-none}
use Rattle.counted_io.specs.Counted.{Tally}
use Rattle.counted_io.specs.Writing.{Writes, WritesAfter}
use Rattle.bpfdb_jobs.proofs.runs.put_compared.Goals as goal

-- nothing was written before
first : {T E : Type 0} (contents : T → Option (List ℕ)) (old new : Tally T) (text : List ℕ) (r : Result Compared E)
    → IfOk r (λ compared. WritesAfter contents old (Ok tt) new compared.written text) → IfOk r (λ compared. Writes contents old new compared.written text)
first contents old new text (Ok compared) after = after old [] (Writes-none contents old tt)
first contents old new text (Err e) after = tt

pub returns-then-diff-clause-text : goal.returns-then-diff-clause-text
returns-then-diff-clause-text g c = rw c.if-diff.true (first _ _ _ _ _ c.put_writes.ensures.text)

pub returns-else-diff-clause-text : goal.returns-else-diff-clause-text
returns-else-diff-clause-text g c = rw c.if-diff.false (c.put_diff.ensures.text _ _ (Writes-none _ _ _))
