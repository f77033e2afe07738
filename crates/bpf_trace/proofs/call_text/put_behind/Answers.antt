use Rattle.std.proofs.Common.{◌∙◌, sym}
use Rattle.counted_io.proofs.Appending.{WritesAfter-text}
use Rattle.bpf_trace.proofs.Calling.{behind-eight, behind-four}
use Rattle.bpf_trace.proofs.call_text.put_behind.Goals as goal

pub returns-in-Some : goal.returns-in-Some
returns-in-Some g c =
    WritesAfter-text g.W.Write.contents _ _ _ _ _ _ c.put_run.ensures
    (behind-eight c.args.cpu.now c.args.address _ (sym c.is_of_stack.ensures ∙ c.if-not-is_of_stack.false) (sym c.in-Some.ensures.value))

pub returns-in-Some-peek : goal.returns-in-Some-peek
returns-in-Some-peek g c =
    WritesAfter-text g.W.Write.contents _ _ _ _ _ _ c.put_run-in-Some-peek.ensures
    (behind-four c.args.cpu.now c.args.address _ (sym c.is_of_stack.ensures ∙ c.if-not-is_of_stack.false) (sym c.in-None.ensures.value) (sym c.in-Some-peek.ensures.value))
