use Rattle.bpfdb_jobs.proofs.load.write_program.Goals as goal

pub returns : goal.returns
returns g c = c.put_maps.ensures _ _ c.put_size-sized.ensures
