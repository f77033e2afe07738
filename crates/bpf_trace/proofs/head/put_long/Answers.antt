use Rattle.std.proofs.Common.{◌++◌, refl}
use Rattle.std.proofs.lemmas.List.{append-nil}
use Rattle.counted_io.proofs.Appending.{WritesAfter-WritesAfter}
use Rattle.bpf_trace.proofs.head.put_long.Goals as goal

pub returns-else-len-text-le256-clause-text : goal.returns-else-len-text-le256-clause-text
returns-else-len-text-le256-clause-text g c = record {
  told = c.args.line.now ++ c.args.text.now;
  written = WritesAfter-WritesAfter g.W.Write.contents _ _ _ _ _ _ _ _ _ (rw c.as_slice.ensures at c.put-begun.ensures) c.put.ensures refl;
  parts = rw c.clear.ensures (append-nil _);
}
