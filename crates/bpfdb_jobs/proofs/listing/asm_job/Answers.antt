use Rattle.std.proofs.Common.{refl}
use Rattle.bpfdb_jobs.specs.Endings.{Refused}
use Rattle.bpfdb_faults.specs.declared.refusal.JobRefusal.TheVariants.{Listing}
use Rattle.bpfdb_jobs.proofs.Printing.{out-printed}
use Rattle.bpfdb_options.specs.declared.ask.Ask.TheVariants.{Asm}
use Rattle.bpfdb_jobs.proofs.listing.asm_job.Goals as goal

pub returns-in-Ok-clause-does : goal.returns-in-Ok-clause-does
returns-in-Ok-clause-does g c =
    out-printed Asm c.args.job.now c.in-Ok.words.items c.write_out-written.result c.ended.result (c.in-Ok.words.items, c.in-Ok.ensures.ok, refl)
    (rw c.as_slice.ensures.value at c.write_out-written.ensures)
    c.ended.ensures.ok c.ended.ensures.err

pub returns-in-Err-clause-does : goal.returns-in-Err-clause-does
returns-in-Err-clause-does g c = Refused (Listing c.in-Err.fault) c.in-Err.ensures.err refl c.give_up.ensures.told c.give_up.ensures.value
