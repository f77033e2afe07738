use Rattle.std.proofs.Common.{ap, ◌∙◌}
use Rattle.counted_io.proofs.Appending.{WritesAfter-text}
use Rattle.bpf_remote.specs.Packets.{framed}
use Rattle.bpf_remote.proofs.Turns.{of-some, sent-short}
use Rattle.bpf_remote.proofs.serving.put_sent.Goals as goal

pub returns-in-Some : goal.returns-in-Some
returns-in-Some g c = λ text held.
    let v = of-some _ _ _ _ c.in-Some.is (c.bytes.ensures.value text held) in
    WritesAfter-text _ _ _ _ _ _ _ c.put_packet.ensures (ap framed (v.0 ∙ sent-short text v.1))
