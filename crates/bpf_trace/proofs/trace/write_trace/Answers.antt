use Rattle.std.proofs.Common.{arith, refl}
use Rattle.counted_io.proofs.Appending.{Writes-none}
use Rattle.bpf_trace.proofs.Stepping.{Steps-none}
use Rattle.bpf_trace.proofs.Telling.{told-ok, told-lost}
use Rattle.bpf_trace.proofs.trace.write_trace.Goals as goal

pub returns-in-Err-clause-way : goal.returns-in-Err-clause-way
returns-in-Err-clause-way g c = (0, omega arith, Steps-none c.args.cpu.now)

pub returns-in-Ok-put_trace-clause-text : goal.returns-in-Ok-put_trace-clause-text
returns-in-Ok-put_trace-clause-text g c =
    told-ok g.W.Write.contents _ _ _ _ _ _ _ (c.put_trace.ensures.text _ _ (Writes-none g.W.Write.contents c.args.writer.now _)) c.in-Ok-put_trace.is refl

pub returns-clause-text : goal.returns-clause-text
returns-clause-text g c =
    told-lost g.W.Write.contents _ _ _ _ _ _ (c.put_trace.ensures.text _ _ (Writes-none g.W.Write.contents c.args.writer.now _)) c.in-Err-put_trace.is refl
