use Rattle.std.proofs.Common.{◌++◌, refl}
use Rattle.std.proofs.lemmas.List.{append-nil}
use Rattle.counted_io.proofs.Appending.{Writes-text}
use Rattle.bpfdb_jobs.specs.Differences.{differences}
use Rattle.bpfdb_jobs.specs.Endings.{Refused}
use Rattle.bpfdb_jobs.specs.Jobs.{table_by}
use Rattle.bpfdb_jobs.specs.Programs.{program_text}
use Rattle.bpfdb_jobs.proofs.Loading.{of-object, prints-object, refuses-object}
use Rattle.bpfdb_jobs.proofs.Printing.{out-printed}
use Rattle.bpfdb_options.specs.declared.ask.Ask.TheVariants.{Load}
use Rattle.bpfdb_jobs.proofs.load.tell_object.Goals as goal

pub returns-clause-does : goal.returns-clause-does
returns-clause-does g c =
    let told = c.refuse_object.ensures.told in
    let of = of-object c.args.job.now c.args.loaded.now c.args.object.now c.requires.loaded c.requires.object in
    Refused told.0
    (refuses-object c.args.job.now told.0 of.0 (record {
      linked = c.args.object.now;
      links = of.1;
      it = c.lines_fault.result;
      lacks = record {
        why = c.in-Err.told;
        is_why = rw c.as_slice-own.ensures.value at c.in-Err.ensures.err;
        tells = c.lines_fault.ensures;
      };
      tells = told.1;
    })) refl told.2 c.refuse_object.ensures.value

pub returns-in-Ok-clause-does : goal.returns-in-Ok-clause-does
returns-in-Ok-clause-does g c =
    let job = c.args.job.now in
    let loaded = c.args.loaded.now in
    let linked = c.args.object.now in
    let all = c.in-Ok.all.items in
    let written = rw (c.as_slice-words.ensures.value, c.as_slice.ensures.value) at c.write_object-written.ensures in
    let lines = rw c.as_slice-own.ensures.value at c.in-Ok.ensures.ok in
    let notes = c.notes_of-notes.result in
    out-printed Load job (program_text loaded ++ (differences notes ++ table_by job linked all)) c.flush_after-flushed.result c.ended.result
    (prints-object job loaded linked notes all c.requires.loaded c.requires.object c.notes_of-notes.ensures lines)
    (Writes-text g.W.Write.contents _ _ _ _ _ (c.flush_after-flushed.ensures _ _ written) (append-nil _))
    c.ended.ensures.ok c.ended.ensures.err
