-- A byte is spelled out each turn.
use Rattle.std.proofs.Common.{arith}
use Rattle.bpfdb_script.specs.Shown.{spelled}
use Rattle.bpfdb_script.proofs.Telling.{Telling-start, Telling-step, Telling-end, pieces-next, pieces-end}
use Rattle.bpfdb_script.proofs.shown.put_char.Goals as goal

pub loop-byte-init : goal.loop-byte-init
loop-byte-init g c = Telling-start _ _ _ _

pub loop-byte-preserved : goal.loop-byte-preserved
loop-byte-preserved g c =
    Telling-step _ _ _ _ _ _ _ _ _ _ _ c.loop-byte.invariant (rw (c.hex_digit.ensures, c.hex_digit-in-loop-byte.ensures) at c.put-told.ensures)
    (pieces-next spelled c.args.bytes.now c.loop-byte.byte-index 0 (omega arith))

pub returns : goal.returns
returns g c = rw c.if-as_is.false (Telling-end _ _ _ _ _ _ _ c.loop-byte.invariant (pieces-end spelled c.args.bytes.now c.loop-byte.byte-index (omega arith)))
