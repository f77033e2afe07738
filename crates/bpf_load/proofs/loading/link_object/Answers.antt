use Rattle.bpf_load.specs.Faults.{Ungathered, Unlinked}
use Rattle.bpf_load.proofs.loading.link_object.Goals as goal

pub returns-in-Err-clause-err : goal.returns-in-Err-clause-err
returns-in-Err-clause-err c = Ungathered c.in-Err.ensures.err

pub returns-clause-err : goal.returns-clause-err
returns-clause-err c =
    Unlinked c.in-Ok.sources c.in-Ok.ensures.ok c.in-Err-linked.fault c.in-Err-linked.ensures.err (rw c.object.ensures at c.in_object.ensures)
