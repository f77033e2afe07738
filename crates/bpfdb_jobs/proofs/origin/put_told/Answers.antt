use Rattle.std.proofs.Common.{◌∙◌, ap}
use Rattle.std.proofs.lemmas.List.{append-nil}
use Rattle.bpf_lines.specs.NamedTexts.{named_text}
use Rattle.counted_io.proofs.Appending.{Writes-none, Writes-text}
use Rattle.bpfdb_jobs.proofs.origin.put_told.Goals as goal

pub returns-in-None-clause-text : goal.returns-in-None-clause-text
returns-in-None-clause-text g c = λ h stands. rw c.in-None.is (c.put_found.ensures.text h stands)

pub returns-clause-text : goal.returns-clause-text
returns-clause-text g c = λ h stands.
    let found = c.in-Ok.ensures.text h stands in
    let named = c.put_named-named.ensures _ _ (Writes-none _ c.args.writer.now _) in
    let all = c.flush_after.ensures _ _ named in
    rw c.in-Some.is (Writes-text g.W.Write.contents _ _ _ _ _ all (append-nil _ ∙ ap (named_text c.in-Some.names.now) (c.as_slice.ensures.value ∙ found)))

pub returns-clause-extent : goal.returns-clause-extent
returns-clause-extent g c = λ h stands. c.in-Ok.ensures.extent h stands
