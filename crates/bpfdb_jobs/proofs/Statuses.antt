-- The exit status of a job that was done.
use Rattle.std.proofs.Common.{ℕ, ◌≡◌, ◌≢◌, Bool, true, false, Option, Some, None, Result, Ok, Err, ap, subst, sym}
use Rattle.bpf_load.specs.Targets.{Loads}
use Rattle.bpf_load.specs.declared.program.Loaded.{Loaded}
use Rattle.bpf_session.specs.declared.fault.RunFault.{RunFault}
use Rattle.bpf_suite.specs.declared.cover.CoverForm.{CoverForm}
use Rattle.bpfdb_faults.specs.Streams.{Stream}
use Rattle.bpfdb_faults.specs.declared.fault.JobFault.{JobFault}
use Rattle.bpfdb_jobs.specs.Cases as batches
use Rattle.bpfdb_jobs.specs.Conversations as talks
use Rattle.bpfdb_jobs.specs.Done.{Does, DoesJob, DoesLoaded, DoesPlain, Unloaded}
use Rattle.bpfdb_jobs.specs.Endings.{Broken, EndsPrinted, EndsSession, ErrLost, Exhausted, OutLost, Printed, Refused, Served}
use Rattle.bpfdb_jobs.specs.Jobs.{Print, Prints}
use Rattle.bpfdb_jobs.specs.Shown.{EndsTest}
use Rattle.bpfdb_jobs.specs.Shown as shown
use Rattle.bpfdb_jobs.specs.Statuses.{EndsBatchWith, EndsSessionWith, EndsTestWith, EndsWith}
use Rattle.bpfdb_jobs.specs.Streams.{Outputs, behind}
use Rattle.bpfdb_jobs.specs.Suites as tests
use Rattle.bpfdb_jobs.specs.declared.job.Job.{Job}
use Rattle.bpfdb_options.specs.declared.ask.Ask.{Ask}
use Rattle.bpfdb_options.specs.declared.ask.Ask.TheVariants.{Run, Trace, Debug, Conversation, Origin, Whynot, Diff, Gdb, Asm, Disasm, Lines, Check, Load, Link, Test, Batch}
use Rattle.bpfdb_options.specs.declared.ask.ConversationAsk.{ConversationAsk}
use Rattle.bpfdb_options.specs.declared.ask.TestAsk.{TestAsk}
use Rattle.bpfdb_options.specs.declared.test_part.TestPart.{TestPart}

-- the status of a report, and of one with which it is told what ran
abbrev number_in : Result ℕ JobFault → ℕ
number_in (Ok n) = n
number_in (Err why) = 0

reported_with : {W : Type 0} (writer : Stream W) (ask : TestAsk) (job : Job) (reported : ℕ) → tests.Reports ask job writer (Ok reported) → EndsTestWith None ask job reported
reported_with writer ask job reported (tests.Reported asked outcomes are came out is) = (asked, outcomes, are, came, ap number_in is)
reported_with writer ask job reported (tests.Refused refusal why w is) = cc
reported_with writer ask job reported (tests.Exhausted w is) = cc
reported_with writer ask job reported (tests.BrokenOff why asked are breaks is) = cc

told_with : {W E : Type 0} (w : Outputs W E) (form : CoverForm) (ask : TestAsk) (job : Job) (reported status : ℕ)
    → tests.EndsTold form ask job reported w status → status ≢ 2 → EndsTestWith None ask job reported → EndsTestWith None ask job status
told_with w form ask job reported status (tests.Covered text covers out err is) other same = subst (EndsTestWith None ask job) (sym is) same
told_with w form ask job reported status (tests.Unfound kept told two) other same = absurd (other two)
told_with w form ask job reported status (tests.Lost text covers out told two) other same = absurd (other two)

run_with : {W E : Type 0} (w : Outputs W E) (traced covers : Bool) (ask : TestAsk) (job : Job) (status : ℕ)
    → tests.EndsRun traced covers ask job w status → status ≢ 2 → EndsTestWith None ask job status
run_with w true covers ask job status (tests.Beside file middle reported named reports told) other =
    told_with _ _ ask job reported status told other (reported_with _ ask job reported reports)
run_with w true covers ask job status (tests.Untraced why middle reports told same two) other = absurd (other two)
run_with w false true ask job status (tests.Behind middle reported reports told) other =
    told_with _ _ ask job reported status told other (reported_with _ ask job reported reports)
run_with w false true ask job status (tests.Uncovered why reports told two) other = absurd (other two)
run_with w false false ask job status (tests.Done reported reports same is) other =
    subst (EndsTestWith None ask job) (sym is) (reported_with _ ask job reported reports)
run_with w false false ask job status (tests.Undone why reports told two) other = absurd (other two)

module _ {R W E : Type 0} (reader : Stream R) (w : Outputs W E) where
  session_with : (job : Job) (loaded : Loaded) → Loads job.target job.file.now loaded → (Serves : Type 0) (Breaks : RunFault → Type 0) (status : ℕ)
      → EndsSession job Serves Breaks reader w.output w.errors status → status ≢ 2 → EndsSessionWith job status
  session_with job loaded loads Serves Breaks status (Served room serves r spared e zero) other =
      (loaded, record { opens = record { loads = loads; asked = room.asked; short = room.short }; sized = room.sized }, zero)
  session_with job loaded loads Serves Breaks status (Refused refusal why r kept told two) other = absurd (other two)
  session_with job loaded loads Serves Breaks status (Broken why room breaks fails told two) other = absurd (other two)

  conversation_with : (talk : ConversationAsk) (job : Job) (loaded : Loaded) → Loads job.target job.file.now loaded → (status : ℕ)
      → talks.Converses talk job loaded reader w status → status ≢ 2 → EndsSessionWith job status
  conversation_with talk job loaded loads status (talks.Served m to answers r spared e zero) other =
      (loaded, record { opens = record { loads = loads; asked = m.room.asked; short = m.room.short }; sized = m.room.sized }, zero)
  conversation_with talk job loaded loads status (talks.Refused refusal why r kept told two) other = absurd (other two)
  conversation_with talk job loaded loads status (talks.Broken m why breaks fails told two) other = absurd (other two)

  batch_with : (job : Job) (status : ℕ) → batches.EndsBatch job reader w status → status ≢ 2 → EndsBatchWith job status
  batch_with job status (batches.Served b is answers r spared e zero) other = (b.maps.now, is.maps, zero)
  batch_with job status (batches.Refused refusal why only) other = absurd (other only.3)
  batch_with job status (batches.Broken b why is breaks fails told two) other = absurd (other two)

  test_with : (show : Option TestPart) (ask : TestAsk) (job : Job) (status : ℕ) → EndsTest show ask job w status → status ≢ 2
      → EndsTestWith show ask job status
  test_with None ask job status ends other = run_with w ask.is_tracefile ask.covers ask job status ends other
  test_with (Some part) ask job status (shown.Shown test bytes are shows out err is) other = (test, bytes, are, shows, is)
  test_with (Some part) ask job status (shown.Refused refusal why kept told two) other = absurd (other two)
  test_with (Some part) ask job status (shown.Exhausted kept told two) other = absurd (other two)
  test_with (Some part) ask job status (shown.Lost test bytes are shows out told two) other = absurd (other two)

  printed_with : (s : Ask) (job : Job) (status : ℕ) → EndsPrinted s job w status → status ≢ 2
      → (a : Print) × Prints s job a × (status ≡ a.status)
  printed_with s job status (Printed a prints out err is) other = (a, prints, is)
  printed_with s job status (Refused refusal why kept told two) other = absurd (other two)
  printed_with s job status (Exhausted a prints may kept told two) other = absurd (other two)
  printed_with s job status (OutLost a prints lost told two) other = absurd (other two)
  printed_with s job status (ErrLost a prints out lost two) other = absurd (other two)

  -- the status of a job over FILE's bytes or its listing
  plain_with : (s : Ask) (job : Job) (status : ℕ) → DoesPlain s job reader w status → status ≢ 2 → EndsWith s job status
  plain_with Debug job status does other = session_with job does.0 does.1 _ _ status does.2 other
  plain_with (Conversation talk) job status does other = conversation_with talk job does.0 does.1 status does.2 other
  plain_with (Gdb registers) job status does other = session_with job does.0 does.1 _ _ status does.2 other
  plain_with Batch job status does other = batch_with job status does other
  plain_with (Test ask) job status does other = test_with ask.show ask job status does.1 other
  plain_with (Run strict) job status does other = printed_with (Run strict) job status does.1 other
  plain_with (Trace trace) job status does other = printed_with (Trace trace) job status does.1 other
  plain_with (Origin origin) job status does other = printed_with (Origin origin) job status does.1 other
  plain_with (Whynot why) job status does other = printed_with (Whynot why) job status does.1 other
  plain_with (Diff diff) job status does other = printed_with (Diff diff) job status does.1 other
  plain_with Asm job status does other = printed_with Asm job status does.1 other
  plain_with Disasm job status does other = printed_with Disasm job status does.1 other
  plain_with Lines job status does other = printed_with Lines job status does.1 other
  plain_with Check job status does other = printed_with Check job status does.1 other
  plain_with Load job status does other = printed_with Load job status does.1 other
  plain_with (Link joined) job status does other = printed_with (Link joined) job status does.1 other

-- the status of a job that is done
pub ends_with : {R W E : Type 0} (reader : Stream R) (w : Outputs W E) (s : Ask) (job : Job) (status : ℕ)
    → DoesJob s job reader w status → status ≢ 2 → EndsWith s job status
ends_with reader w s job status (Does other_file does) other = plain_with reader w s job status does other
ends_with reader w s job status (DoesLoaded checks loaded loads said says does) other =
    plain_with reader (behind said w) s job status does other
ends_with reader w s job status (Unloaded checks refusal refuses only) other = absurd (other only.3)
