use Rattle.std.proofs.Common.{refl}
use Rattle.counted_io.proofs.Appending.{WritesAfter-WritesAfter}
use Rattle.bpf_trace.specs.Turns.{made_text}
use Rattle.bpf_trace.proofs.calls.put_made.Goals as goal

pub returns-clause-text : goal.returns-clause-text
unfolding made_text
returns-clause-text g c =
    WritesAfter-WritesAfter g.W.Write.contents _ _ _ _ _ _ _ _ _ c.put_call-begun.ensures
    (rw (c.step.ensures, c.depth-level.ensures, c.from-slot.ensures, c.pc.ensures) at c.put_ending.ensures.text) refl
