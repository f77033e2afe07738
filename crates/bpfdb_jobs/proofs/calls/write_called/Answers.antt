use Rattle.std.proofs.Common.{ap}
use Rattle.bpf_trace.proofs.Telling.{told-ok, told-lost}
use Rattle.bpf_trace.specs.Calls.{calls_text}
use Rattle.bpf_trace.specs.declared.calls.Called.{Called}
use Rattle.counted_io.proofs.Appending.{Writes-none}
use Rattle.bpfdb_jobs.proofs.calls.write_called.Goals as goal

pub returns-in-Ok-clause-told : goal.returns-in-Ok-clause-told
returns-in-Ok-clause-told g c =
    told-ok g.W.Write.contents _ _ _ _ _ _ _ (c.write_calls.ensures.text _ _ (Writes-none g.W.Write.contents c.args.writer.now _)) c.in-Ok.is
    (ap (λ (x : Called). calls_text c.args.limit x c.args.cpu.now) c.called_of-called.ensures)

pub returns-in-Err-clause-told : goal.returns-in-Err-clause-told
returns-in-Err-clause-told g c =
    told-lost g.W.Write.contents _ _ _ _ _ _ (c.write_calls.ensures.text _ _ (Writes-none g.W.Write.contents c.args.writer.now _)) c.in-Err.is
    (ap (λ (x : Called). calls_text c.args.limit x c.args.cpu.now) c.called_of-called.ensures)
