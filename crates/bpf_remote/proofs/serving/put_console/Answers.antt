use Rattle.std.proofs.Common.{[], ap, sym, ◌∙◌}
use Rattle.bpf_remote.specs.Remarks.{console_text, remark_text}
use Rattle.bpf_remote.specs.Packets.{framed}
use Rattle.bpf_remote.proofs.Consoles.{no-console, a-console, no-text}
use Rattle.bpf_remote.proofs.Turns.{of-some}
use Rattle.bpf_remote.proofs.serving.put_console.Goals as goal

pub returns-then-not-is_told : goal.returns-then-not-is_told
returns-then-not-is_told g c = ([], no-console _ _, no-text _ _ _)

pub returns-then-not-append_remark : goal.returns-then-not-append_remark
returns-then-not-append_remark g c = ([], no-console _ _, no-text _ _ _)

pub returns-in-None : goal.returns-in-None
returns-in-None g c = ([], no-console _ _, no-text _ _ _)

pub returns-in-Some : goal.returns-in-Some
returns-in-Some g c =
    let v = of-some _ _ _ _ c.in-Some.is (c.bytes.ensures.value (console_text (remark_text c.args.remark c.args.cpu.now)) (c.append_remark.ensures c.if-not-append_remark.false)) in
    (_, a-console _ _ _ (sym c.is_told.ensures ∙ c.if-not-is_told.false) (ap framed v.0), c.put_packet.ensures)
