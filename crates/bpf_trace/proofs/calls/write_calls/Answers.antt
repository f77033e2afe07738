use Rattle.std.proofs.Common.{◌++◌, None, ap, refl}
use Rattle.counted_io.proofs.Appending.{WritesAfter-WritesAfter}
use Rattle.bpf_steps.specs.State.{State}
use Rattle.bpf_trace.specs.Calls.{calls_from}
use Rattle.bpf_trace.specs.Traces.{told_end_line}
use Rattle.bpf_trace.proofs.Lines.{anyway, broken_more}
use Rattle.bpf_trace.proofs.calls.write_calls.Goals as goal

pub returns-in-Ok-clause-text : goal.returns-in-Ok-clause-text
returns-in-Ok-clause-text g c =
    let whole = rw c.in-Ok.is at c.put_calls-told.ensures.next in
    WritesAfter-WritesAfter g.W.Write.contents _ _ _ _ _ _ _ _ _ c.put_calls-told.ensures.text c.put_told_end.ensures
    (ap (λ (y : State). calls_from c.args.called.now None 1 c.args.limit c.args.cpu.now ++ told_end_line c.args.called.now.places c.args.limit y) whole)

pub returns-in-Ok-clause-next : goal.returns-in-Ok-clause-next
returns-in-Ok-clause-next g c = anyway c.put_told_end.result (rw c.in-Ok.is at c.put_calls-told.ensures.next)

pub returns-in-Err-clause-text : goal.returns-in-Err-clause-text
returns-in-Err-clause-text g c =
    broken_more g.W.Write.contents _ _ _ _ _ _ _ (rw c.in-Err.is at c.put_calls-told.ensures.text) refl
