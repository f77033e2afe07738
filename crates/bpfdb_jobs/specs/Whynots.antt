-- Scaffolding: what a job of `whynot` asks about where a machine stands with its journal, and why it has nothing to. No public contract cites this.
use Rattle.std.specs.Prelude.{◌≡◌, ℕ, Err, List, false, true}
use Rattle.bpf_isa.specs.Programs.{Checked}
use Rattle.bpf_journal.specs.Timelines.{Moment}
use Rattle.bpf_journal.specs.Tracks.{RingHolds}
use Rattle.bpf_ring.specs.declared.keeper.RingKeeper.{RingKeeper}
use Rattle.bpf_ring.specs.declared.fault.JournalFault.TheVariants.{OutOfMemory}
use Rattle.bpf_text.specs.Listing.{IsFaultOf}
use Rattle.bpf_whynot.specs.Aims.{AimsAt}
use Rattle.bpf_whynot.specs.declared.aim.Aim.{Aim}
use Rattle.bpf_whynot.specs.declared.fault.GoalFault.{GoalFault}
use Rattle.bpf_whynot.specs.declared.fault.GoalFault.TheVariants.{NoSlot}
use Rattle.bpfdb_faults.specs.declared.refusal.JobRefusal.{JobRefusal}
use Rattle.bpfdb_faults.specs.declared.refusal.JobRefusal.TheVariants.{Goal, Journal, Listing, NoPlace}
use Rattle.bpfdb_jobs.specs.Jobs.{AreAsked, AsksGoals, asked_of, is_listing}
use Rattle.bpf_questions.specs.Refusals.{lacks_place}
use Rattle.bpfdb_jobs.specs.declared.job.Job.{Job}
use Rattle.bpfdb_jobs.specs.declared.known.Known.{Known}
use Rattle.bpfdb_options.specs.declared.ask.WhynotAsk.{WhynotAsk}

-- The slots that are asked about, and from where they can be come to.
abbrev pub AimsFor : WhynotAsk → Job → Known → Moment RingKeeper → Aim → Type 0
AimsFor why job known moment aim =
    (slots : List ℕ) × AreAsked why job known slots × AimsAt RingHolds moment.keeper moment.state slots aim

-- The refusal of a fault: of a place that has no slot it has the name of that.
abbrev pub IsRefusalOf : WhynotAsk → GoalFault → JobRefusal → Type 0
IsRefusalOf why fault (Goal told) = (told ≡ fault) × (lacks_place fault (asked_of why) ≡ false)
IsRefusalOf why fault (NoPlace name) = (name.now ≡ asked_of why) × (fault ≡ NoSlot) × (lacks_place fault (asked_of why) ≡ true)
IsRefusalOf why fault refusal = ⊥

-- Memory ran out, or the listing has no table, or the text names no slots.
abbrev pub RefusesGoals : WhynotAsk → Job → Known → Checked → JobRefusal → Type 0
RefusesGoals why job known program (Journal fault) = fault ≡ OutOfMemory
RefusesGoals why job known program (Listing fault) = (is_listing job.target.kind ≡ true) × IsFaultOf job.file.now fault
RefusesGoals why job known program (Goal told) = AsksGoals why job known program (Err told) × (lacks_place told (asked_of why) ≡ false)
RefusesGoals why job known program (NoPlace name) = (name.now ≡ asked_of why) × AsksGoals why job known program (Err NoSlot) × (lacks_place NoSlot (asked_of why) ≡ true)
RefusesGoals why job known program refusal = ⊥
