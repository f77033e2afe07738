use Rattle.bpf_load.specs.Faults.{OfOthers, OfOwn, OfStubs}
use Rattle.bpf_load.proofs.loading.gathered.Goals as goal

pub returns-in-Err-clause-err : goal.returns-in-Err-clause-err
returns-in-Err-clause-err c = OfOwn c.in-Err.ensures.err

pub returns-in-Err-stubs_of-clause-err : goal.returns-in-Err-stubs_of-clause-err
returns-in-Err-stubs_of-clause-err c =
    OfStubs c.in-Ok.own.items c.in-Ok.ensures.ok c.in-Err-stubs_of.fault c.in-Err-stubs_of.ensures.err
    (rw c.as_slice.ensures.value at c.in_object.ensures)

pub returns-clause-err : goal.returns-clause-err
returns-clause-err c =
    OfOthers c.in-Ok.own.items c.in-Ok.ensures.ok c.in-Ok-stubs_of.stubs.items c.in-Ok-stubs_of.ensures.ok c.in-Err-joined_with.told
    (rw c.as_slice-2.ensures.value at c.in-Err-joined_with.ensures.err) c.of_others.ensures
