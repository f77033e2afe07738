-- Which refusals of a machine and of a session are the same, and the last one of a session.
use Rattle.std.proofs.Common.{◌≡◌, ◌≤◌, length, refl, subst, sym}
use Rattle.bpf_entries.specs.Keeping.{IsSize}
use Rattle.bpf_ring.specs.declared.fault.JournalFault.TheVariants.{OutOfMemory}
use Rattle.bpf_steps.specs.Platform.{context_limit}
use Rattle.bpfdb_faults.specs.Faults.{refusal_line, session_line}
use Rattle.bpfdb_jobs.specs.Refusals.{Refuses, RefusesArrival, RefusesMachine, RefusesOrigin, RefusesWhynot}
use Rattle.bpfdb_jobs.specs.declared.job.Job.{Job}
use Rattle.bpfdb_faults.specs.declared.refusal.JobRefusal.{JobRefusal}
use Rattle.bpfdb_faults.specs.declared.refusal.JobRefusal.TheVariants.{OtherMap, OtherObject, Kind, Maps, Listing, Load, Opening, Open, OtherRun, TraceLine, Journal, What, Goal, NoPlace, Object, Functions, Tests, NoTest, ManyTests, Script}
use Rattle.bpfdb_options.specs.declared.ask.OriginAsk.{OriginAsk}
use Rattle.bpfdb_options.specs.declared.ask.WhynotAsk.{WhynotAsk}

-- a refusal of a machine is one of a session
pub machine-session : (job : Job) (refusal : JobRefusal) → RefusesMachine job refusal → Refuses job refusal
machine-session job (Maps fault) p = p
machine-session job (Listing fault) p = p
machine-session job (Load fault) p = p
machine-session job (Opening fault) p = p
machine-session job (Open fault) p = p
machine-session job (OtherRun refusal) p = absurd p
machine-session job (TraceLine fault line) p = absurd p
machine-session job (Journal fault) p = absurd p
machine-session job (Script refusal) p = absurd p
machine-session job (What fault) p = absurd p
machine-session job (Goal fault) p = absurd p
machine-session job (NoPlace name) p = absurd p
machine-session job (Object fault name) p = absurd p
machine-session job (Functions fault index name) p = absurd p
machine-session job (Tests fault line) p = absurd p
machine-session job (NoTest name) p = absurd p
machine-session job ManyTests p = absurd p
machine-session job (Kind why) p = absurd p
machine-session job (OtherMap number) p = absurd p
machine-session job (OtherObject why name) p = absurd p

-- a refusal of a session is one on the way to where it is asked, and that one of `origin` and of `whynot`
pub session-arrival : (job : Job) (refusal : JobRefusal) → Refuses job refusal → RefusesArrival job refusal
session-arrival job (Maps fault) p = p
session-arrival job (Listing fault) p = p
session-arrival job (Load fault) p = p
session-arrival job (Opening fault) p = p
session-arrival job (Open fault) p = p
session-arrival job (OtherRun refusal) p = p
session-arrival job (TraceLine fault line) p = p
session-arrival job (Journal fault) p = p
session-arrival job (Script refusal) p = absurd p
session-arrival job (What fault) p = p
session-arrival job (Goal fault) p = p
session-arrival job (NoPlace name) p = p
session-arrival job (Object fault name) p = p
session-arrival job (Functions fault index name) p = p
session-arrival job (Tests fault line) p = p
session-arrival job (NoTest name) p = p
session-arrival job ManyTests p = p
session-arrival job (Kind why) p = p
session-arrival job (OtherMap number) p = p
session-arrival job (OtherObject why name) p = p

pub arrival-origin : (origin : OriginAsk) (job : Job) (refusal : JobRefusal) → RefusesArrival job refusal → RefusesOrigin origin job refusal
arrival-origin origin job (Maps fault) p = p
arrival-origin origin job (Listing fault) p = p
arrival-origin origin job (Load fault) p = p
arrival-origin origin job (Opening fault) p = p
arrival-origin origin job (Open fault) p = p
arrival-origin origin job (OtherRun refusal) p = p
arrival-origin origin job (TraceLine fault line) p = p
arrival-origin origin job (Journal fault) p = p
arrival-origin origin job (Script refusal) p = p
arrival-origin origin job (What fault) p = absurd p
arrival-origin origin job (Goal fault) p = p
arrival-origin origin job (NoPlace name) p = p
arrival-origin origin job (Object fault name) p = absurd p
arrival-origin origin job (Functions fault index name) p = p
arrival-origin origin job (Tests fault line) p = p
arrival-origin origin job (NoTest name) p = p
arrival-origin origin job ManyTests p = p
arrival-origin origin job (Kind why) p = p
arrival-origin origin job (OtherMap number) p = p
arrival-origin origin job (OtherObject why name) p = p

pub arrival-whynot : (why : WhynotAsk) (job : Job) (refusal : JobRefusal) → RefusesArrival job refusal → RefusesWhynot why job refusal
arrival-whynot ask job (Maps fault) p = p
arrival-whynot ask job (Listing fault) p = absurd p
arrival-whynot ask job (Load fault) p = p
arrival-whynot ask job (Opening fault) p = p
arrival-whynot ask job (Open fault) p = p
arrival-whynot ask job (OtherRun refusal) p = p
arrival-whynot ask job (TraceLine fault line) p = p
arrival-whynot ask job (Journal fault) p = p
arrival-whynot ask job (Script refusal) p = p
arrival-whynot ask job (What fault) p = p
arrival-whynot ask job (Goal fault) p = absurd p
arrival-whynot ask job (NoPlace name) p = absurd p
arrival-whynot ask job (Object fault name) p = absurd p
arrival-whynot ask job (Functions fault index name) p = p
arrival-whynot ask job (Tests fault line) p = p
arrival-whynot ask job (NoTest name) p = p
arrival-whynot ask job ManyTests p = p
arrival-whynot ask job (Kind why) p = p
arrival-whynot ask job (OtherMap number) p = p
arrival-whynot ask job (OtherObject why name) p = p

-- what a session refuses has a line of the session's
pub session-refused : (job : Job) (refusal : JobRefusal) → Refuses job refusal → refusal_line refusal ≡ session_line refusal
session-refused job (Maps fault) p = refl
session-refused job (Listing fault) p = refl
session-refused job (Load fault) p = refl
session-refused job (Opening fault) p = refl
session-refused job (Open fault) p = refl
session-refused job (OtherRun refusal) p = absurd p
session-refused job (TraceLine fault line) p = absurd p
session-refused job (Journal fault) p = refl
session-refused job (Script refusal) p = absurd p
session-refused job (What fault) p = absurd p
session-refused job (Goal fault) p = absurd p
session-refused job (NoPlace name) p = absurd p
session-refused job (Object fault name) p = absurd p
session-refused job (Functions fault index name) p = absurd p
session-refused job (Tests fault line) p = absurd p
session-refused job (NoTest name) p = absurd p
session-refused job ManyTests p = absurd p
session-refused job (Kind why) p = absurd p
session-refused job (OtherMap number) p = absurd p
session-refused job (OtherObject why name) p = absurd p

-- Where a session was opened, memory for answers may be missing still.
pub no-places : (job : Job) (refusal : JobRefusal) → length job.context.now ≤ context_limit → IsSize job.options.journal → refusal ≡ Journal OutOfMemory
    → Refuses job refusal
no-places job refusal short sized is = subst (Refuses job) (sym is) (short, sized)
