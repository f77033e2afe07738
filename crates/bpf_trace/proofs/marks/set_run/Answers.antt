use Rattle.bpf_trace.proofs.Marking.{run-set}
use Rattle.bpf_trace.proofs.marks.set_run.Goals as goal

pub returns : goal.returns
returns c = run-set c.args.run.address c.args.run.len _ _ c.args.run.written c.args.marks.now _ c.span_of-span.ensures.from c.span_of-span.ensures.to c.set_span.ensures
