-- The answer is printed, or a beginning of it; or memory runs out before; or what is asked about is refused, or nothing is known of the names in maps.
use Rattle.std.proofs.Common.{◌==◌, ◌∙◌, Bool, List, Option, ap, length, refl, subst, sym, ℕ}
use Rattle.bpf_ring.specs.declared.fault.JournalFault.TheVariants.{OutOfMemory}
use Rattle.bpf_whynot.specs.Answers.{Query, why_not}
use Rattle.bpf_whynot.specs.Makings.{goals_left}
use Rattle.bpf_whynot.specs.Tables.{AreGoals, told_by}
use Rattle.bpf_whynot.specs.declared.made.Made.{Made}
use Rattle.bpfdb_faults.specs.declared.refusal.JobRefusal.TheVariants.{Journal, Object}
use Rattle.bpfdb_jobs.specs.Endings.{OutLost, Printed, Refused}
use Rattle.bpfdb_jobs.specs.Jobs.{named_print}
use Rattle.bpfdb_jobs.specs.Origins.{status_of_extent}
use Rattle.bpfdb_jobs.proofs.Reaching.{names-lack, whynot-prints, whynot-refuses}
use Rattle.bpfdb_jobs.proofs.Refusing.{arrival-whynot, no-places, session-arrival}
use Rattle.bpfdb_jobs.proofs.whynot.ask_why.Goals as goal

pub returns-in-Err-clause-does : goal.returns-in-Err-clause-does
returns-in-Err-clause-does g c =
    Refused c.in-Err.refusal
    (whynot-refuses c.args.why.now c.args.job.now c.args.known c.args.reached c.requires c.in-Err.refusal c.in-Err.ensures.err)
    refl c.give_up.ensures.told c.give_up.ensures.value

pub returns-in-Err-names_of-clause-does : goal.returns-in-Err-names_of-clause-does
returns-in-Err-names_of-clause-does g c =
    let asked = c.in-Ok.ensures.ok in
    let told = c.refuse.ensures.told in
    Refused (Object c.in-Err-names_of.fault told.0)
    (names-lack c.args.why.now c.args.job.now c.args.known c.args.reached c.requires asked.2.0 (asked.0, asked.1, asked.2.1) c.in-Err-names_of.fault told.0
    (rw (c.bytes_of.ensures, c.as_ref-source.ensures.value) at told.1, rw c.as_ref-source.ensures.value at c.in-Err-names_of.ensures.err))
    refl told.2 c.refuse.ensures.value

pub returns-in-Ok-written-clause-does : goal.returns-in-Ok-written-clause-does
returns-in-Ok-written-clause-does g c =
    let job = c.args.job.now in
    let at = c.args.reached.arrived in
    let x = at.timeline.state in
    let h = c.requires.at.point.history in
    let asked = c.in-Ok.ensures.ok in
    let goals = asked.2.0 in
    let left = goals_left goals h in
    let p = asked.2.2 h c.requires.held in
    let can = told_by c.in-Ok.aim.reach in
    let q : Query = record {
      goals = left;
      made = c.in-Ok.aim.made;
      question = record { addresses = c.args.why.now.scope.addresses; lines = c.args.why.now.scope.lines; opening = c.len.result == at.moves; places = c.args.known.places };
      alone = c.args.why.now.alone;
    } in
    let as-asked =
    ap (λ (m : ℕ). record q { question = record q.question { opening = m == at.moves } }) (c.len.ensures h c.requires.held)
    ∙ ap (λ (m : Option Made). record q { made = m; question = record q.question { opening = length h == at.moves } }) p.made in
    let flags = subst (λ (flags : List Bool). AreGoals x.program left flags) (sym c.as_slice.ensures.value) p.flags in
    let line = c.as_slice-stop.ensures.value ∙ c.requires.line in
    let w = rw (c.in-Ok-written.is, c.as_ref.ensures.value, line) at c.in-Ok-put_told.ensures.text x.program left h flags c.requires.held in
    let extent = c.in-Ok-put_told.ensures.extent x.program left h flags c.requires.held in
    Printed (named_print c.in-Ok-names_of.names c.args.reached.read c.args.known.places x (why_not can q h x))
    (whynot-prints c.args.why.now job c.args.known c.args.reached c.requires q goals can as-asked (asked.0, asked.1, asked.2.1) p.tells c.in-Ok-names_of.names
    (rw c.as_ref-source.ensures.value at c.in-Ok-names_of.ensures.ok))
    (w.ok, w.same) refl (c.status_of.ensures ∙ ap status_of_extent extent)

pub returns-in-Ok-put_told-clause-does : goal.returns-in-Ok-put_told-clause-does
returns-in-Ok-put_told-clause-does g c =
    let job = c.args.job.now in
    let at = c.args.reached.arrived in
    let x = at.timeline.state in
    let h = c.requires.at.point.history in
    let asked = c.in-Ok.ensures.ok in
    let goals = asked.2.0 in
    let left = goals_left goals h in
    let p = asked.2.2 h c.requires.held in
    let can = told_by c.in-Ok.aim.reach in
    let q : Query = record {
      goals = left;
      made = c.in-Ok.aim.made;
      question = record { addresses = c.args.why.now.scope.addresses; lines = c.args.why.now.scope.lines; opening = c.len.result == at.moves; places = c.args.known.places };
      alone = c.args.why.now.alone;
    } in
    let as-asked =
    ap (λ (m : ℕ). record q { question = record q.question { opening = m == at.moves } }) (c.len.ensures h c.requires.held)
    ∙ ap (λ (m : Option Made). record q { made = m; question = record q.question { opening = length h == at.moves } }) p.made in
    let flags = subst (λ (flags : List Bool). AreGoals x.program left flags) (sym c.as_slice.ensures.value) p.flags in
    let line = c.as_slice-stop.ensures.value ∙ c.requires.line in
    let w = rw (c.in-Err-written.is, c.as_ref.ensures.value, line) at c.in-Ok-put_told.ensures.text x.program left h flags c.requires.held in
    OutLost (named_print c.in-Ok-names_of.names c.args.reached.read c.args.known.places x (why_not can q h x))
    (whynot-prints c.args.why.now job c.args.known c.args.reached c.requires q goals can as-asked (asked.0, asked.1, asked.2.1) p.tells c.in-Ok-names_of.names
    (rw c.as_ref-source.ensures.value at c.in-Ok-names_of.ensures.ok))
    (w.err, w.fault) c.give_up-in-Err-written.ensures.told c.give_up-in-Err-written.ensures.value

pub returns-clause-does : goal.returns-clause-does
returns-clause-does g c =
    let job = c.args.job.now in
    let a = c.requires in
    Refused (Journal OutOfMemory) (arrival-whynot c.args.why.now job (Journal OutOfMemory) (session-arrival job (Journal OutOfMemory) (no-places job (Journal OutOfMemory) a.opens.opens.short a.opens.sized refl)))
    c.in-Err-put_told.ensures.same c.give_up-in-Err-put_told.ensures.told c.give_up-in-Err-put_told.ensures.value
