use Rattle.std.proofs.Common.{refl}
use Rattle.bpf_ring.specs.declared.fault.JournalFault.TheVariants.{OutOfMemory}
use Rattle.bpfdb_faults.specs.declared.refusal.JobRefusal.TheVariants.{Journal}
use Rattle.bpfdb_jobs.specs.Endings.{Refused}
use Rattle.bpfdb_jobs.proofs.Originating.{branches-behind}
use Rattle.bpfdb_jobs.proofs.Refusing.{arrival-origin, no-places, session-arrival}
use Rattle.bpfdb_jobs.proofs.origin.ask_branches.Goals as goal

pub tell-requires : goal.tell-requires
tell-requires g c =
    let s = c.requires.asked in
    rw c.as_slice.ensures.value
    (branches-behind c.args.origin.now c.args.job.now c.args.reached c.args.asked.parts.now c.args.asked.question s c.in-Ok.found _ c.requires.branches
    (c.in-Ok.ensures s.arrived.at.point.history s.arrived.held))

pub returns-in-Err-clause-does : goal.returns-in-Err-clause-does
returns-in-Err-clause-does g c =
    let job = c.args.job.now in
    let a = c.requires.asked.arrived in
    Refused (Journal OutOfMemory) (arrival-origin c.args.origin.now job (Journal OutOfMemory) (session-arrival job (Journal OutOfMemory) (no-places job (Journal OutOfMemory) a.opens.opens.short a.opens.sized refl)))
    refl c.give_up.ensures.told c.give_up.ensures.value
