use Rattle.std.proofs.Common.{codes, ◌++◌, decimal, drop, flat_map, length}
use Rattle.bpfdb_script.proofs.Telling.{Telling}
use Rattle.bpfdb_script.specs.Texts.{word_text}
use Rattle.bpfdb_script.proofs.trace.put_trace.Given as goal

abbrev pub invariant-loop-word : goal.invariant-loop-word
invariant-loop-word g l =
    Telling g.W.Write.contents l.fn.writer l.fn.so_far l.writer l.told (flat_map word_text (drop l.word-index l.words))
    (codes "trace " ++ decimal (length l.words) ++ flat_map word_text l.words)
