use Rattle.std.proofs.Common.{refl, sym, subst}
use Rattle.bpf_load.specs.Notes.{IsCodeFor, IsFieldCount, Known, Unknown}
use Rattle.bpf_load.proofs.notes.notes_of.Goals as goal

pub returns-in-Ok : goal.returns-in-Ok
returns-in-Ok c =
    Known c.in-Ok.own.items c.in-Ok.ensures.ok (rw c.as_slice.ensures.value at c.fields_in.ensures)
    (rw (c.named_bytes-rows.ensures, c.as_slice-in-Ok.ensures.value) at c.code_for.ensures)
    (rw (c.named_bytes-rows.ensures, c.as_slice-in-Ok-2.ensures.value) at c.records_for.ensures) c.named_bytes-rows.ensures

pub returns-in-Err : goal.returns-in-Err
returns-in-Err c = Unknown c.in-Err.field-0 c.in-Err.ensures.err refl c.new.ensures.items c.new-in-Err.ensures.items c.named_bytes-rows.ensures
