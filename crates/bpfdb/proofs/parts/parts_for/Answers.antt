use Rattle.std.proofs.Common.{◌∙◌, sym}
use Rattle.std.proofs.lemmas.Option.{IfSome_then}
use Rattle.bpfdb.proofs.parts.parts_for.Goals as goal

pub returns-in-Some : goal.returns-in-Some
returns-in-Some g c =
    IfSome_then c.read_parts.result c.read_parts.ensures (λ parts gives. record {
      job = c.job_of-job.result;
      is_job = c.job_of-job.ensures;
      one = sym c.runs_two.ensures ∙ c.if-runs_two.false;
      calls = c.in-Some.calls.items;
      of_job = c.in-Some.ensures;
      gives = rw c.as_slice.ensures.value at gives;
    })
