use Rattle.std.proofs.Common.{◌≡◌, ◌∙◌, ap, refl, sym}
use Rattle.std.specs.Prelude.{is_some}
use Rattle.bpf_isa.specs.Programs.{Checked}
use Rattle.bpfdb_faults.specs.declared.refusal.JobRefusal.TheVariants.{Journal}
use Rattle.bpfdb_jobs.specs.Endings.{Refused}
use Rattle.bpfdb_jobs.specs.Jobs.{begun_for}
use Rattle.bpfdb_options.specs.declared.options.Options.{Options}
use Rattle.bpfdb_jobs.proofs.Diffing.{found-prints, journal-refused, opened-initial, same-options}
use Rattle.bpfdb_jobs.proofs.diff.tell_runs.Goals as goal

pub put_runs-requires : goal.put_runs-requires
put_runs-requires g c =
    let w = c.requires in
    let job = c.args.job.now in
    let other = c.args.other.now in
    let one : begun_for job.options c.args.runs.first.program job.context.now ≡ w.x =
    ap (λ (p : Checked). begun_for job.options p job.context.now) w.are.first ∙ sym (opened-initial job w.x w.opens.first) in
    let another : begun_for job.options c.args.runs.second.program other.context.now ≡ w.y =
    ap (λ (o : Options). begun_for o c.args.runs.second.program other.context.now) (sym (same-options c.args.diff.now job other w.opens.is_other))
    ∙ ap (λ (p : Checked). begun_for other.options p other.context.now) w.are.second ∙ sym (opened-initial other w.y w.opens.second) in
    let found = rw (one, another, w.are.values) at c.in-Ok.ensures.ok in
    found-prints c.args.diff.now job other w.x w.y _ _ _ w.opens _ _ _ _ (c.as_slice-told.ensures.value ∙ w.are.text) w.are.same found.first found.second

pub returns-clause-does : goal.returns-clause-does
returns-clause-does g c =
    let w = c.requires in
    let asked = c.in-Err.ensures.asked in
    Refused (Journal c.in-Err.fault)
    (journal-refused c.args.diff.now c.args.job.now c.args.other.now w.x w.y _ _ _ w.opens c.in-Err.fault asked.0
    (ap (λ (values : _). is_some values) (sym w.are.values) ∙ asked.1) c.in-Err.ensures.err)
    refl c.give_up.ensures.told c.give_up.ensures.value
