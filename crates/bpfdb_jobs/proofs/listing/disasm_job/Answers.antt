use Rattle.std.proofs.Common.{refl, ◌∙◌}
use Rattle.bpf_text.specs.Canonical.{canon}
use Rattle.bpfdb_jobs.specs.Endings.{Exhausted}
use Rattle.bpfdb_jobs.specs.Jobs.{printed}
use Rattle.bpfdb_jobs.proofs.Printing.{out-printed}
use Rattle.bpfdb_options.specs.declared.ask.Ask.TheVariants.{Disasm}
use Rattle.bpfdb_jobs.proofs.listing.disasm_job.Goals as goal

pub returns-in-Ok-clause-does : goal.returns-in-Ok-clause-does
returns-in-Ok-clause-does g c =
    out-printed Disasm c.args.job.now (canon c.args.loaded.now.program) c.write_out-written.result c.ended.result (c.args.loaded.now, c.requires.loaded, refl)
    (rw (c.as_slice.ensures.value ∙ c.in-Ok.ensures) at c.write_out-written.ensures)
    c.ended.ensures.ok c.ended.ensures.err

pub returns-in-Err-clause-does : goal.returns-in-Err-clause-does
returns-in-Err-clause-does g c =
    Exhausted (printed (canon c.args.loaded.now.program)) (c.args.loaded.now, c.requires.loaded, refl) tt refl c.give_up.ensures.told c.give_up.ensures.value
