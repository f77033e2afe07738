-- The answer is printed, or a beginning of it; or memory runs out before, or nothing is known of the names in maps.
use Rattle.std.proofs.Common.{◌∙◌, ap, refl}
use Rattle.bpf_origin.specs.Answers.{Answer}
use Rattle.bpf_origin.specs.Asked.{answer_about}
use Rattle.bpf_origin.specs.declared.question.Extent.{Extent}
use Rattle.bpf_ring.specs.declared.fault.JournalFault.TheVariants.{OutOfMemory}
use Rattle.bpfdb_faults.specs.declared.refusal.JobRefusal.TheVariants.{Journal, Object}
use Rattle.bpfdb_jobs.specs.Endings.{OutLost, Printed, Refused}
use Rattle.bpfdb_jobs.specs.Jobs.{named_print}
use Rattle.bpfdb_jobs.specs.Origins.{both_extents, followed_by, status_of_extent}
use Rattle.bpfdb_jobs.proofs.Originating.{line-told, names-refuse, origin-prints}
use Rattle.bpfdb_jobs.proofs.Refusing.{arrival-origin, no-places, session-arrival}
use Rattle.bpfdb_jobs.proofs.origin.tell.Goals as goal

pub returns-in-Err-clause-does : goal.returns-in-Err-clause-does
returns-in-Err-clause-does g c =
    let told = c.refuse.ensures.told in
    Refused (Object c.in-Err.why told.0)
    (names-refuse c.args.origin.now c.args.job.now c.args.reached c.args.asked.parts.now c.args.asked.question c.requires.asked c.in-Err.why told.0
    (rw (c.bytes_of.ensures, c.as_ref-source.ensures.value) at told.1, rw c.as_ref-source.ensures.value at c.in-Err.ensures.err))
    refl told.2 c.refuse.ensures.value

pub returns-in-Ok-written-clause-does : goal.returns-in-Ok-written-clause-does
returns-in-Ok-written-clause-does g c =
    let job = c.args.job.now in
    let reached = c.args.reached in
    let x = reached.arrived.timeline.state in
    let s = c.requires.asked in
    let h = s.arrived.at.point.history in
    let q = c.args.asked.question in
    let tail : Answer = record { text = c.args.tail.text.now; extent = c.args.tail.extent } in
    let line = c.as_slice-stop.ensures.value ∙ line-told c.args.origin.now job reached c.args.asked.parts.now q s in
    let w = rw (c.in-Ok-written.is, c.as_ref.ensures.value, line) at c.in-Ok-put_told.ensures.text h s.arrived.held in
    let extent = c.in-Ok-put_told.ensures.extent h s.arrived.held in
    Printed (named_print c.in-Ok.names reached.read q.places x (followed_by (answer_about q c.args.asked.parts.now h x) tail))
    (origin-prints c.args.origin.now job reached c.args.asked.parts.now q s tail c.requires.is c.in-Ok.names (rw c.as_ref-source.ensures.value at c.in-Ok.ensures.ok))
    (w.ok, w.same) refl (c.status_of.ensures ∙ ap status_of_extent (c.both_of.ensures ∙ ap (λ (e : Extent). both_extents e c.args.tail.extent) extent))

pub returns-in-Ok-put_told-clause-does : goal.returns-in-Ok-put_told-clause-does
returns-in-Ok-put_told-clause-does g c =
    let job = c.args.job.now in
    let reached = c.args.reached in
    let x = reached.arrived.timeline.state in
    let s = c.requires.asked in
    let h = s.arrived.at.point.history in
    let q = c.args.asked.question in
    let tail : Answer = record { text = c.args.tail.text.now; extent = c.args.tail.extent } in
    let line = c.as_slice-stop.ensures.value ∙ line-told c.args.origin.now job reached c.args.asked.parts.now q s in
    let w = rw (c.in-Err-written.is, c.as_ref.ensures.value, line) at c.in-Ok-put_told.ensures.text h s.arrived.held in
    OutLost (named_print c.in-Ok.names reached.read q.places x (followed_by (answer_about q c.args.asked.parts.now h x) tail))
    (origin-prints c.args.origin.now job reached c.args.asked.parts.now q s tail c.requires.is c.in-Ok.names (rw c.as_ref-source.ensures.value at c.in-Ok.ensures.ok))
    (w.err, w.fault) c.give_up.ensures.told c.give_up.ensures.value

pub returns-clause-does : goal.returns-clause-does
returns-clause-does g c =
    let job = c.args.job.now in
    let a = c.requires.asked.arrived in
    Refused (Journal OutOfMemory) (arrival-origin c.args.origin.now job (Journal OutOfMemory) (session-arrival job (Journal OutOfMemory) (no-places job (Journal OutOfMemory) a.opens.opens.short a.opens.sized refl)))
    c.in-Err-put_told.ensures.same c.give_up-in-Err-put_told.ensures.told c.give_up-in-Err-put_told.ensures.value
