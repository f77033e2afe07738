use Rattle.std.proofs.Common.{drop}
use Rattle.bpfdb_script.proofs.Telling.{Telling}
use Rattle.bpf_cover.specs.Coverage.{miss_lines, table_text}
use Rattle.bpf_cover.proofs.coverage.Coverage.put.Given as goal

abbrev pub invariant-loop-slot : goal.invariant-loop-slot
invariant-loop-slot g l =
    Telling g.W.Write.contents l.fn.writer l.fn.so_far l.writer l.told (miss_lines (drop l.slot l.fn.self.texts) (drop l.slot l.fn.self.marks)) (table_text l.fn.line l.fn.self)
