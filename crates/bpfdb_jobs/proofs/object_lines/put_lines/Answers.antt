use Rattle.std.proofs.Common.{refl}
use Rattle.std.proofs.lemmas.List.{append-nil}
use Rattle.counted_io.proofs.Appending.{Writes-text}
use Rattle.bpfdb_jobs.specs.Endings.{Refused}
use Rattle.bpfdb_jobs.specs.Jobs.{table_by}
use Rattle.bpfdb_jobs.proofs.Printing.{out-printed}
use Rattle.bpfdb_jobs.proofs.Tables.{prints-table, refuses-table}
use Rattle.bpfdb_options.specs.declared.ask.Ask.TheVariants.{Lines}
use Rattle.bpfdb_jobs.proofs.object_lines.put_lines.Goals as goal

pub returns-in-Err-clause-does : goal.returns-in-Err-clause-does
returns-in-Err-clause-does g c =
    let told = c.refuse_object.ensures.told in
    Refused told.0
    (refuses-table c.args.job.now told.0 c.requires.object (record {
      linked = c.args.linked.now;
      links = c.requires.linked;
      it = c.lines_fault.result;
      lacks = record {
        why = c.in-Err.told;
        is_why = rw c.as_slice-own.ensures.value at c.in-Err.ensures.err;
        tells = c.lines_fault.ensures;
      };
      tells = told.1;
    })) refl told.2 c.refuse_object.ensures.value

pub returns-in-Ok-clause-does : goal.returns-in-Ok-clause-does
returns-in-Ok-clause-does g c =
    let job = c.args.job.now in
    let linked = c.args.linked.now in
    let all = c.in-Ok.all.items in
    let written = rw (c.as_slice-words.ensures.value, c.as_slice.ensures.value) at c.write_table-written.ensures in
    let lines = rw c.as_slice-own.ensures.value at c.in-Ok.ensures.ok in
    out-printed Lines job (table_by job linked all) c.flush_after-flushed.result c.ended.result
    (prints-table job linked all c.requires.object c.requires.linked lines)
    (Writes-text g.W.Write.contents _ _ _ _ _ (c.flush_after-flushed.ensures _ _ written) (append-nil _))
    c.ended.ensures.ok c.ended.ensures.err
