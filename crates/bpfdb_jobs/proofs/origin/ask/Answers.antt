-- What is asked about is refused, or the answer about it is told.
use Rattle.std.proofs.Common.{refl}
use Rattle.bpfdb_jobs.specs.Endings.{Refused}
use Rattle.bpfdb_faults.specs.declared.refusal.JobRefusal.TheVariants.{What}
use Rattle.bpfdb_jobs.proofs.Originating.{is-asked, nothing-behind, origin-refuses}
use Rattle.bpfdb_jobs.proofs.origin.ask.Goals as goal

pub returns-in-Err-clause-does : goal.returns-in-Err-clause-does
returns-in-Err-clause-does g c =
    Refused (What c.in-Err.fault)
    (origin-refuses c.args.origin.now c.args.known c.args.job.now c.args.reached c.requires c.in-Err.fault (rw c.cpu.ensures at c.in-Err.ensures.err))
    refl c.give_up.ensures.told c.give_up.ensures.value

pub ask_branches-requires-clause-asked : goal.ask_branches-requires-clause-asked
ask_branches-requires-clause-asked g c =
    let a = c.requires in
    rw c.as_slice.ensures.value
    (is-asked c.args.origin.now c.args.known c.args.job.now c.args.reached a c.question_of.result c.in-Ok.parts.items
    (rw c.cpu.ensures at c.in-Ok.ensures.ok) (c.question_of.ensures a.at.point.history a.held))

pub tell-requires : goal.tell-requires
tell-requires g c =
    let a = c.requires in
    rw c.as_slice.ensures.value
    (nothing-behind c.args.origin.now c.args.job.now c.args.reached c.question_of.result c.in-Ok.parts.items
    (is-asked c.args.origin.now c.args.known c.args.job.now c.args.reached a c.question_of.result c.in-Ok.parts.items
    (rw c.cpu.ensures at c.in-Ok.ensures.ok) (c.question_of.ensures a.at.point.history a.held)) c.if-origin.false)
