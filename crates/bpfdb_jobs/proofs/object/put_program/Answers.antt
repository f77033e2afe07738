use Rattle.std.proofs.Common.{false, refl}
use Rattle.bpf_load.specs.Targets.{LinksTo}
use Rattle.bpf_load.specs.declared.loading.LinkedObject.{LinkedObject}
use Rattle.bpfdb_jobs.specs.Endings.{OutLost}
use Rattle.bpfdb_jobs.specs.Jobs.{Prints, link_print}
use Rattle.bpfdb_jobs.specs.declared.job.Job.{Job}
use Rattle.bpfdb_jobs.proofs.Printing.{err-printed}
use Rattle.bpfdb_options.specs.declared.ask.Ask.TheVariants.{Link}
use Rattle.bpfdb_jobs.proofs.object.put_program.Goals as goal

linked-prints : (job : Job) (linked : LinkedObject) → LinksTo job.target job.file.now linked → Prints (Link false) job (link_print job linked)
linked-prints job linked links = (linked, links, refl)

pub returns-in-Ok-clause-does : goal.returns-in-Ok-clause-does
returns-in-Ok-clause-does g c =
    let w = rw c.in-Ok.is at (rw c.as_slice.ensures.value at c.write_out.ensures) in
    err-printed (Link false) c.args.job.now (link_print c.args.job.now c.args.object.now) c.tell_linked.result c.told_as.result
    (linked-prints c.args.job.now c.args.object.now c.requires)
    (w.ok, w.same)
    (rw (c.object.ensures, c.as_slice-in-Ok.ensures.value, c.as_slice-in-Ok-2.ensures.value, c.answered_if-answered.ensures, c.fields_if-fields.ensures, c.fields.ensures) at c.tell_linked.ensures.ok)
    (rw (c.object.ensures, c.as_slice-in-Ok.ensures.value, c.as_slice-in-Ok-2.ensures.value, c.answered_if-answered.ensures, c.fields_if-fields.ensures, c.fields.ensures) at c.tell_linked.ensures.err)
    c.told_as.ensures.ok c.told_as.ensures.err

pub returns-in-Err-clause-does : goal.returns-in-Err-clause-does
returns-in-Err-clause-does g c =
    let w = rw c.in-Err.is at (rw c.as_slice.ensures.value at c.write_out.ensures) in
    OutLost (link_print c.args.job.now c.args.object.now)
    (linked-prints c.args.job.now c.args.object.now c.requires)
    (w.err, w.fault) c.give_up.ensures.told c.give_up.ensures.value
