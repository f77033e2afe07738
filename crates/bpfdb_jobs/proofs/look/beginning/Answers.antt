use Rattle.std.proofs.Common.{arith, sym}
use Rattle.std.proofs.lemmas.List.{length-take-le, take_all}
use Rattle.bpfdb_jobs.proofs.look.beginning.Goals as goal

pub slice_bounds-result-end : goal.slice_bounds-result-end
slice_bounds-result-end c = sym (length-take-le 4096 c.args.file.now (omega (arith, c.if-file-gt-BEGINNING_BYTES.true)))

pub returns-else-file-gt-BEGINNING_BYTES : goal.returns-else-file-gt-BEGINNING_BYTES
returns-else-file-gt-BEGINNING_BYTES c = sym (take_all 4096 c.args.file.now c.if-file-gt-BEGINNING_BYTES.false)
