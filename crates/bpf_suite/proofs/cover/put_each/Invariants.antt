use Rattle.std.proofs.Common.{◌≡◌, ℕ, List, take}
use Rattle.std.specs.Prelude.{filter}
use Rattle.counted_io.specs.Writing.{WritesAfter}
use Rattle.bpf_suite.specs.Covers.{CoversEach, has_program}
use Rattle.bpf_suite.proofs.cover.put_each.Given as goal

abbrev pub invariant-loop-sections : goal.invariant-loop-sections
invariant-loop-sections g l = record {
  shared : l.bench.sections ≡ l.fn.bench.sections;
  covers : (text : List ℕ) × CoversEach l.fn.form l.fn.bench.sections (filter has_program (take l.sections-index l.own)) text
      × WritesAfter g.W.Write.contents l.fn.writer l.fn.so_far l.writer l.told text;
}
