use Rattle.std.proofs.Common.{List, ℕ, sym, subst}
use Rattle.input_texts.specs.Captures.{AreStarts}
use Rattle.capture_packets.proofs.packet.packet_of.Goals as goal

pub returns-then-not-is_capture-clause-err : goal.returns-then-not-is_capture-clause-err
returns-then-not-is_capture-clause-err c = c.no_capture.ensures c.args.number

pub packet_from-requires-clause-starts : goal.packet_from-requires-clause-starts
packet_from-requires-clause-starts c = subst (λ (starts : List ℕ). AreStarts c.args.file.now starts) (sym c.as_slice.ensures.value) c.in-Ok.ensures
