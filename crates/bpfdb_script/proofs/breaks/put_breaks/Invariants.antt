use Rattle.std.proofs.Common.{◌++◌, drop, flat_map}
use Rattle.bpfdb_script.proofs.Telling.{Telling}
use Rattle.bpfdb_script.specs.Texts.{break_text, watch_text}
use Rattle.bpfdb_script.proofs.breaks.put_breaks.Given as goal

abbrev pub invariant-loop-slot : goal.invariant-loop-slot
invariant-loop-slot g l =
    Telling g.W.Write.contents l.fn.writer l.fn.so_far l.writer l.told (flat_map break_text (drop l.slot-index l.breaks) ++ flat_map watch_text l.watches)
    (flat_map break_text l.breaks ++ flat_map watch_text l.watches)

abbrev pub invariant-loop-address : goal.invariant-loop-address
invariant-loop-address g l =
    Telling g.W.Write.contents l.fn.writer l.fn.so_far l.writer l.told (flat_map watch_text (drop l.address-index l.watches))
    (flat_map break_text l.breaks ++ flat_map watch_text l.watches)
