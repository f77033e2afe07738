use Rattle.std.proofs.Common.{◌-◌, ◌^◌}
use Rattle.input_texts.proofs.CaseReadings.{Reading}
use Rattle.input_texts.proofs.case_line.next_line.Given as goal

abbrev pub invariant-parts : goal.invariant-parts
invariant-parts g l = Reading g.R.Read.remaining l.fn.reader l.fn.ahead l.reader l.ahead l.line

-- the reads that are left
abbrev pub decreases-parts : goal.decreases-parts
decreases-parts g l = 2 ^ 64 - 1 - l.reader.reads
