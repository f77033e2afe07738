use Rattle.bpfdb.specs.Files.{OfFile, OfWith, OfOther, OfPath}
use Rattle.bpfdb.proofs.files.read_all.Goals as goal

pub returns-in-Err-clause-err : goal.returns-in-Err-clause-err
returns-in-Err-clause-err g c = OfFile c.in-Err.ensures.err

pub returns-in-Err-read_context-clause-err : goal.returns-in-Err-read_context-clause-err
returns-in-Err-read_context-clause-err g c = OfPath c.in-Ok.file.items c.in-Ok.ensures.ok c.in-Err-read_context.ensures.err

pub returns-in-Err-read_given-clause-err : goal.returns-in-Err-read_given-clause-err
returns-in-Err-read_given-clause-err g c =
    OfOther c.in-Ok.file.items c.in-Ok-read_context.context.items c.in-Ok.ensures.ok c.in-Ok-read_context.ensures.ok c.in-Err-read_given.ensures.err

pub returns-in-Err-read_each-clause-err : goal.returns-in-Err-read_each-clause-err
returns-in-Err-read_each-clause-err g c =
    OfWith c.in-Ok.file.items c.in-Ok-read_context.context.items c.in-Ok-read_given.other.items c.in-Ok.ensures.ok c.in-Ok-read_context.ensures.ok
    c.in-Ok-read_given.ensures.ok (rw c.as_slice.ensures.value at c.in-Err-read_each.ensures.err)
