use Rattle.bpf_load.specs.Faults.{Uncounted}
use Rattle.bpf_load.proofs.loading.counted_file.Goals as goal

pub returns-in-Err-clause-err : goal.returns-in-Err-clause-err
returns-in-Err-clause-err c = Uncounted c.in-Err.why c.in-Err.ensures.err c.of_count.ensures
