use Rattle.std.proofs.Common.{refl}
use Rattle.counted_io.proofs.Appending.{WritesAfter-WritesAfter}
use Rattle.bpf_trace.specs.Traces.{end_line}
use Rattle.bpf_diff.proofs.Telling.{apart-text}
use Rattle.bpf_diff.proofs.lines.put_ends.Goals as goal

pub returns-then-same : goal.returns-then-same
returns-then-same g c = rw c.if-same.true (c.put_same.ensures (end_line c.args.limit c.args.second.now))

pub returns-else-same : goal.returns-else-same
returns-else-same g c =
    let two = WritesAfter-WritesAfter g.W.Write.contents _ _ _ _ _ _ _ _ _ c.put-marked.ensures c.put_end-half.ensures refl in
    let three = WritesAfter-WritesAfter g.W.Write.contents _ _ _ _ _ _ _ _ _ two c.put-parted.ensures refl in
    rw c.if-same.false
    (WritesAfter-WritesAfter g.W.Write.contents _ _ _ _ _ _ _ _ _ three c.put_end.ensures
    (apart-text c.args.steps (end_line c.args.limit c.args.first.now) (end_line c.args.limit c.args.second.now)))
