use Rattle.std.proofs.Common.{◌∙◌, sym}
use Rattle.bpf_trace.proofs.Lines.{anyway}
use Rattle.bpfdb_jobs.proofs.Knowing.{has-lines, needs-none}
use Rattle.bpfdb_jobs.proofs.known.places_of.Goals as goal

pub returns-in-Err-clause-err : goal.returns-in-Err-clause-err
returns-in-Err-clause-err c = (
  sym c.tells_places.ensures ∙ c.if-not-tells_places.false,
  record {
    why = c.in-Err.told;
    is_why = rw c.as_slice-own.ensures.value at c.in-Err.ensures.err;
    tells = c.lines_fault.ensures;
  },
)

pub returns-then-not-tells_places-clause-lines : goal.returns-then-not-tells_places-clause-lines
returns-then-not-tells_places-clause-lines c =
    needs-none c.args.job.now c.args.object.now (sym c.tells_places.ensures ∙ c.if-not-tells_places.true)

pub returns-in-Ok-clause-lines : goal.returns-in-Ok-clause-lines
returns-in-Ok-clause-lines c =
    anyway c.places_in.result
    (has-lines c.args.job.now c.args.object.now _ (sym c.tells_places.ensures ∙ c.if-not-tells_places.false) (rw c.as_slice-own.ensures.value at c.in-Ok.ensures.ok))
