use Rattle.std.proofs.Common.{◌∙◌, sym}
use Rattle.counted_io.proofs.Appending.{WritesAfter-text}
use Rattle.bpf_trace.proofs.Calling.{turn-begins}
use Rattle.bpf_trace.proofs.calls.put_turn.Goals as goal

pub returns-in-Some-callee_of-clause-text : goal.returns-in-Some-callee_of-clause-text
returns-in-Some-callee_of-clause-text g c =
    rw c.in-None.is (
    WritesAfter-text g.W.Write.contents _ _ _ _ _ _ c.put_made.ensures.text
    (turn-begins c.args.called.now c.args.number c.args.cpu.now c.in-Some-callee_of.callee (sym c.callee_of.ensures ∙ c.in-Some-callee_of.is))
    )
