use Rattle.std.proofs.Common.{ap, arith, length}
use Rattle.input_texts.specs.TraceFaults.{first_bad}
use Rattle.input_texts.proofs.TraceReading.{lines-short}
use Rattle.input_texts.proofs.trace_fault.first_bad.Goals as goal

pub loop-k-init : goal.loop-k-init
loop-k-init c =
    let short = lines-short c.args.file.now in
    let same = ap length c.of-lines.ensures in
    (ap (first_bad c.args.form 1) c.of-lines.ensures, omega (arith, short, same))
