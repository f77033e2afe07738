use Rattle.std.proofs.Common.{◌≡◌, ◌∙◌, Option, Some, ap, inr, refl, subst, sym}
use Rattle.std.specs.Prelude.{IsOk}
use Rattle.bpf_load.specs.Targets.{lent}
use Rattle.bpf_load.specs.declared.loading.LinkedObject.{LinkedObject}
use Rattle.bpfdb_jobs.specs.Endings.{Refused}
use Rattle.bpfdb_jobs.specs.declared.diff.OtherFault.TheVariants.{Object}
use Rattle.bpfdb_jobs.specs.Jobs.{AreTold, HasPlaces, opening_asked, tells_places}
use Rattle.bpfdb_jobs.specs.Openings.{OpensOf, beside}
use Rattle.bpfdb_options.specs.Asks.{is_context}
use Rattle.bpfdb_options.specs.declared.options.Options.{Options}
use Rattle.bpfdb_jobs.proofs.Diffing.{machine-diff, opens-as, other-refuses, runs-refuse, same-options}
use Rattle.bpfdb_jobs.proofs.Tables.{object-of}
use Rattle.bpfdb_jobs.proofs.diff.runs_job.Goals as goal

pub returns-in-Err-clause-does : goal.returns-in-Err-clause-does
returns-in-Err-clause-does g c =
    Refused c.in-Err.refusal
    (runs-refuse c.args.diff.now c.args.job.now c.in-Err.refusal c.requires.runs (machine-diff c.args.diff.now c.args.job.now c.in-Err.refusal c.in-Err.ensures.err)) refl c.give_up.ensures.told c.give_up.ensures.value

pub returns-in-Err-other_machine-clause-does : goal.returns-in-Err-other_machine-clause-does
returns-in-Err-other_machine-clause-does g c =
    let opened = opens-as c.args.job.now c.args.loaded c.in-Ok.cpu c.requires.loaded c.in-Ok.ensures.ok in
    let told = c.refuse_other.ensures.told in
    Refused told.0
    (other-refuses c.args.diff.now c.args.job.now told.0 c.requires.runs
    (opened.0, c.other_run-other.result, c.in-Err-other_machine.fault, opened.1, c.other_run-other.ensures, c.in-Err-other_machine.ensures.err, told.1)) refl
    told.2 c.refuse_other.ensures.value

pub other_machine-requires-clause-object : goal.other_machine-requires-clause-object
other_machine-requires-clause-object g c = rw (sym c.as_ref-file.ensures.value) at (object-of c.args.job.now c.args.loaded c.requires.loaded)

pub other_machine-requires-clause-asked : goal.other_machine-requires-clause-asked
other_machine-requires-clause-asked g c =
    subst (λ (options : Options). IsOk (opening_asked options)) (sym (same-options c.args.diff.now c.args.job.now c.other_run-other.result c.other_run-other.ensures))
    c.in-Ok.ensures.ok.0

pub sides_job-requires-clause-first : goal.sides_job-requires-clause-first
sides_job-requires-clause-first g c =
    let opened = opens-as c.args.job.now c.args.loaded c.in-Ok.cpu c.requires.loaded c.in-Ok.ensures.ok in
    (opened.0, opened.1, opened.2, sym c.as_ref-file.ensures.value)

pub sides_job-requires-clause-second : goal.sides_job-requires-clause-second
sides_job-requires-clause-second g c =
    let context = is_context c.args.diff.now.other in
    subst (λ (o : Option LinkedObject). OpensOf c.other_run-other.result o c.in-Ok-other_machine.machine.cpu)
    (sym (c.object_beside-beside.ensures ∙ ap (λ (o : Option LinkedObject). beside context (lent c.as_ref-file.result) o) c.as_ref.ensures.value))
    c.in-Ok-other_machine.ensures.ok

pub sides_job-requires-clause-told : goal.sides_job-requires-clause-told
sides_job-requires-clause-told g c =
    let other = c.other_run-other.result in (
      subst (λ (o : Option LinkedObject). AreTold c.args.job.now o c.args.places) (sym c.as_ref-file.ensures.value) c.requires.places,
      subst (HasPlaces (tells_places other.ask) other (lent c.object_beside-beside.result)) (sym c.known.ensures.places) c.in-Ok-other_places.ensures.ok,
    )

pub returns-in-Err-other_places-clause-does : goal.returns-in-Err-other_places-clause-does
returns-in-Err-other_places-clause-does g c =
    let opened = opens-as c.args.job.now c.args.loaded c.in-Ok.cpu c.requires.loaded c.in-Ok.ensures.ok in
    let second = c.in-Ok-other_machine.ensures.ok in
    let lacks = c.in-Err-other_places.ensures.err in
    let told = c.refuse_other-in-Err-other_places.ensures.told in
    let context = is_context c.args.diff.now.other in
    let own : second.0.object ≡ Some lacks.0 =
    second.3 ∙ sym (c.object_beside-beside.ensures ∙ ap (λ (o : Option LinkedObject). beside context (lent c.as_ref-file.result) o) c.as_ref.ensures.value) ∙ lacks.1 in
    Refused told.0
    (other-refuses c.args.diff.now c.args.job.now told.0 c.requires.runs (
      opened.0,
      c.other_run-other.result,
      Object c.in-Err-other_places.fault,
      opened.1,
      c.other_run-other.ensures,
      inr (second.0, lacks.0, second.1.loads, own, lacks.2, lacks.3),
      told.1,
    )) refl
    told.2 c.refuse_other-in-Err-other_places.ensures.value
