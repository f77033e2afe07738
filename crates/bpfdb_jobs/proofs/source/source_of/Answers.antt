use Rattle.std.proofs.Common.{◌≡◌, ◌∙◌, [], refl, sym}
use Rattle.std.specs.Prelude.{option_map}
use Rattle.bpf_diff.specs.Values.{value_of}
use Rattle.bpfdb_jobs.proofs.Sourcing.{nothing-told, something-told}
use Rattle.bpfdb_jobs.specs.Jobs.{begun_for}
use Rattle.bpfdb_jobs.specs.Openings.{asked_text}
use Rattle.bpfdb_jobs.specs.Origins.{named_by}
use Rattle.bpfdb_jobs.specs.Sources.{behind}
use Rattle.bpfdb_jobs.proofs.source.source_of.Goals as goal

pub returns-then-is_empty-clause-ok : goal.returns-then-is_empty-clause-ok
returns-then-is_empty-clause-ok c =
    let asked = rw c.cpu.ensures at c.asked_at-asked.ensures in
    c.new.ensures.items
    ∙ nothing-told _ c.args.run.places c.args.scope.now c.args.job.now.options (value_of c.args.values) _ c.in-Ok.arrived.timeline c.in-Ok.arrived.moves c.in-Ok.ensures.ok _ refl _ asked
    (sym c.is_empty.ensures ∙ c.if-is_empty.true)

pub returns-in-Ok-written-clause-ok : goal.returns-in-Ok-written-clause-ok
returns-in-Ok-written-clause-ok c =
    let ran = c.in-Ok.ensures.ok in
    let asked = rw c.cpu.ensures at c.asked_at-asked.ensures in
    let written = rw (c.in-Ok-written.is, c.as_slice.ensures.value) at c.in-Ok-put_told.ensures.text _ ran.held in
    let history = (behind c.args.job.now.options c.args.values.steps (begun_for c.args.job.now.options c.args.run.cpu.program c.args.run.context.now)).point.history in
    let text : c.into_inner.result.items
    ≡ named_by (option_map (λ n. n.now) c.args.run.names)
    (asked_text [] c.question_of-question.result c.asked_at-asked.result.items history c.in-Ok.arrived.timeline.state []) =
    rw c.into_inner.ensures (rw (c.new-writer.ensures, c.new-2.ensures.items) at written.ok) in
    text
    ∙ something-told _ c.args.run.places c.args.scope.now c.args.job.now.options (value_of c.args.values) _ c.in-Ok.arrived.timeline c.in-Ok.arrived.moves ran
    c.question_of-question.result (c.question_of-question.ensures _ ran.held) _ asked (sym c.is_empty.ensures ∙ c.if-is_empty.false)
