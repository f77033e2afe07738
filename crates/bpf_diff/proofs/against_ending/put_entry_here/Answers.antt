use Rattle.std.proofs.Common.{refl}
use Rattle.counted_io.proofs.Appending.{WritesAfter-WritesAfter}
use Rattle.bpf_diff.proofs.TraceLines.{register-text}
use Rattle.bpf_diff.proofs.against_ending.put_entry_here.Goals as goal

pub returns-then-entry-eq0 : goal.returns-then-entry-eq0
returns-then-entry-eq0 g c =
    rw c.if-entry-eq0.true
    (WritesAfter-WritesAfter g.W.Write.contents _ _ _ _ _ _ _ _ _ c.put-named.ensures c.put_decimal.ensures refl)

pub returns-else-entry-eq0 : goal.returns-else-entry-eq0
returns-else-entry-eq0 g c =
    let two = WritesAfter-WritesAfter g.W.Write.contents _ _ _ _ _ _ _ _ _ c.put-begun.ensures c.put_decimal-named.ensures refl in
    let three = WritesAfter-WritesAfter g.W.Write.contents _ _ _ _ _ _ _ _ _ two c.put-parted.ensures refl in
    WritesAfter-WritesAfter g.W.Write.contents _ _ _ _ _ _ _ _ _ three c.put_hexadecimal.ensures
    (register-text c.args.entry c.args.value c.from.result c.from.ensures c.if-entry-eq0.false)
