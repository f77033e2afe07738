use Rattle.std.proofs.Common.{refl, true}
use Rattle.bpfdb_jobs.specs.Endings.{Refused}
use Rattle.bpf_load.specs.Targets.{object_of}
use Rattle.bpfdb_jobs.proofs.Printing.{out-printed}
use Rattle.bpfdb_options.specs.declared.ask.Ask.TheVariants.{Link}
use Rattle.bpfdb_jobs.proofs.object.put_object.Goals as goal

pub returns-in-Ok-clause-does : goal.returns-in-Ok-clause-does
returns-in-Ok-clause-does g c =
    let object = object_of c.in-Ok.sources in
    out-printed (Link true) c.args.job.now object c.write_out-written.result c.ended.result
    (c.in-Ok.sources, c.in-Ok.ensures.ok, refl)
    (rw c.object.ensures at c.write_out-written.ensures) c.ended.ensures.ok c.ended.ensures.err

pub returns-in-Err-clause-does : goal.returns-in-Err-clause-does
returns-in-Err-clause-does g c =
    let told = c.refuse_object.ensures.told in
    Refused told.0 (c.in-Err.fault, c.in-Err.ensures.err, told.1) refl told.2
    c.refuse_object.ensures.value
