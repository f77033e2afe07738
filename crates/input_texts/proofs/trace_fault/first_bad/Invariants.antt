use Rattle.std.proofs.Common.{◌≡◌, ◌+◌, ◌≤◌, suc, length}
use Rattle.counted_io.specs.Lines.{lines}
use Rattle.input_texts.specs.TraceFaults.{first_bad}
use Rattle.input_texts.proofs.trace_fault.first_bad.Given as goal

abbrev pub invariant-loop-k : goal.invariant-loop-k
invariant-loop-k l = (first_bad l.form (suc l.k) l.lines ≡ first_bad l.form 1 (lines l.file)) × (l.k + length l.lines ≤ length l.file)
