use Rattle.std.proofs.Common.{◌∙◌, sym}
use Rattle.bpfdb_jobs.specs.Jobs.{tells_calls}
use Rattle.bpfdb_jobs.proofs.Knowing.{calls-told, no-calls-told}
use Rattle.bpfdb_jobs.proofs.known.functions_in.Goals as goal

pub returns-then-not-tells_calls : goal.returns-then-not-tells_calls
returns-then-not-tells_calls c =
    no-calls-told c.args.job.now c.args.object.now (tells_calls c.args.job.now.ask) (sym c.tells_calls.ensures ∙ c.if-not-tells_calls.true)

pub returns-in-Ok : goal.returns-in-Ok
returns-in-Ok c =
    calls-told c.args.job.now c.args.object.now c.args.lines.now c.in-Ok.functions (tells_calls c.args.job.now.ask) (sym c.tells_calls.ensures ∙ c.if-not-tells_calls.false)
    c.requires.0 (rw c.as_slice-words.ensures.value at c.in-Ok.ensures)
