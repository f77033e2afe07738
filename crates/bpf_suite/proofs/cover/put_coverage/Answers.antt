use Rattle.bpf_cover.specs.Coverage.{table_text}
use Rattle.std.proofs.Common.{refl}
use Rattle.bpf_suite.specs.Tests.{program_line}
use Rattle.bpf_suite.proofs.cover.put_coverage.Goals as goal

pub returns-in-Tables : goal.returns-in-Tables
returns-in-Tables g c =
    rw c.in-Tables.is
    (table_text (program_line c.args.test.now) c.args.coverage.now, refl, rw c.program_line.ensures at c.put.ensures)
