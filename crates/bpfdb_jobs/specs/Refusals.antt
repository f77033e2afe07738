-- Why a job is refused, in this order: its program, and the lines of that; its context, its journal; its script, what it asks about; or its tests.
use Rattle.std.specs.Prelude.{◌≡◌, ◌≤◌, ◌⊎◌, List, [], ℕ, Option, Some, None, Ok, Err, Bool, true, false, codes, is_some, length}
use Rattle.std.specs.Borrow.{Bor}
use Rattle.bpf_questions.specs.Refusals.{lacks_place}
use Rattle.bpf_text.specs.Listing.{IsFaultOf}
use Rattle.bpf_link.specs.Names.{fault_names}
use Rattle.bpf_lines.specs.Objects.{IsProgramLinesFault}
use Rattle.bpf_lines.specs.declared.objects.LinesFault.{LinesFault}
use Rattle.bpf_load.specs.Faults.{IsGatherFault, IsMapsFault, IsObjectFault, IsTargetFault, Tells, name_of}
use Rattle.bpf_load.specs.Targets.{LinksTo, Loads, contents}
use Rattle.bpf_load.specs.declared.fault.ObjectFault.{ObjectFault}
use Rattle.bpf_load.specs.declared.fault.TargetFault.{TargetFault}
use Rattle.bpf_load.specs.declared.fault.TargetFault.TheVariants as of_target
use Rattle.bpf_load.specs.declared.loading.LinkedObject.{LinkedObject}
use Rattle.bpf_load.specs.declared.program.Loaded.{Loaded}
use Rattle.bpf_load.specs.declared.target.SourceKind.{SourceKind}
use Rattle.bpf_load.specs.declared.target.SourceKind.TheVariants as kind
use Rattle.bpf_suite.specs.Faults as suite
use Rattle.bpf_suite.specs.Files.{sections, tests}
use Rattle.bpf_suite.specs.Tests.{chosen}
use Rattle.bpf_suite.specs.declared.refusal.Refusal.{Refusal}
use Rattle.bpf_suite.specs.declared.refusal.Refusal.TheVariants as program
use Rattle.bpf_suite.specs.declared.section.Section.{Section}
use Rattle.bpf_suite.specs.declared.fault.FileFault.TheVariants.{Line}
use Rattle.bpf_origin.specs.declared.what.What.{What as Asked}
use Rattle.bpf_steps.specs.Opening.{Refused}
use Rattle.bpf_ring.specs.Opening.{RefusesSize}
use Rattle.bpf_lines.specs.Places.{is_place}
use Rattle.bpf_whynot.specs.Asked.{Goals}
use Rattle.bpf_whynot.specs.declared.fault.GoalFault.{GoalFault}
use Rattle.bpf_whynot.specs.declared.fault.GoalFault.TheVariants.{NoSlot}
use Rattle.input_texts.specs.TraceFaults.{bad_line}
use Rattle.bpf_diff.specs.Values.{Pair}
use Rattle.bpf_steps.specs.Platform.{context_limit}
use Rattle.bpfdb_jobs.specs.Jobs.{AsksGoals, IsKnown, IsOtherRun, Opens, OpensSession, arrival_of, asked_of, comparison_of, initial_of, is_listing, is_memory, links_first, opening_asked, other_bytes, section_of}
use Rattle.bpfdb_jobs.specs.Origins.{Arrival, Asks, RefusesNames, RefusesWhat, arrival}
use Rattle.bpfdb_jobs.specs.Programs.{AreSameMaps, IsOtherMap}
use Rattle.bpfdb_jobs.specs.declared.diff.OtherFault.{OtherFault}
use Rattle.bpfdb_jobs.specs.declared.diff.OtherFault.TheVariants as of_other
use Rattle.bpfdb_jobs.specs.declared.job.Job.{Job}
use Rattle.bpfdb_jobs.specs.declared.known.Known.{Known}
use Rattle.bpfdb_faults.specs.declared.refusal.JobRefusal.{JobRefusal}
use Rattle.bpfdb_faults.specs.declared.refusal.JobRefusal.TheVariants.{Maps, Listing, Load, Opening, Open, OtherRun, OtherObject, OtherMap, TraceLine, Journal, What, Goal, NoPlace, Object, Functions, Tests, NoTest, Script}
use Rattle.bpfdb_options.specs.Asks.{is_trace}
use Rattle.bpfdb_options.specs.declared.ask.Ask.{Ask}
use Rattle.bpfdb_options.specs.declared.ask.Ask.TheVariants.{Run, Trace, Debug, Conversation, Origin, Whynot, Diff, Gdb, Asm, Disasm, Lines, Check, Load, Link, Test, Batch}
use Rattle.bpfdb_options.specs.declared.ask.DiffAsk.{DiffAsk}
use Rattle.bpfdb_options.specs.declared.ask.OriginAsk.{OriginAsk}
use Rattle.bpfdb_options.specs.declared.ask.WhynotAsk.{WhynotAsk}

-- A fault of an object is told with the name that it tells, and which of the others has it.
abbrev pub TellsFault : Option ℕ → ObjectFault → JobRefusal → Type 0
TellsFault None it (Object fault name) = (fault ≡ it.fault) × (name.now ≡ name_of it)
TellsFault (Some index) it (Functions fault at name) = (fault ≡ it.fault) × (at ≡ index) × (name.now ≡ name_of it)
TellsFault index it refusal = ⊥

-- Why the machine of a program that is loaded isn't opened, or its session: by what is asked of the opening, by its context, and then by its journal.
abbrev pub Refuses : Job → JobRefusal → Type 0
Refuses job (Opening fault) = opening_asked job.options ≡ Err fault
Refuses job (Open fault) = Refused job.context.now fault
Refuses job (Journal fault) = (length job.context.now ≤ context_limit) × RefusesSize job.options.journal fault
Refuses job refusal = ⊥

-- A run has no journal.
abbrev pub RefusesMachine : Job → JobRefusal → Type 0
RefusesMachine job (Journal fault) = ⊥
RefusesMachine job refusal = Refuses job refusal

-- `origin` and `whynot` look at a session's, then at the lines of its script, then at what is asked about there, and last at the names in maps.
abbrev pub RefusesArrival : Job → JobRefusal → Type 0
RefusesArrival job (Script refusal) = (loaded : Loaded) × OpensSession job loaded × (arrival job.other job.options (initial_of job loaded) ≡ Err refusal)
RefusesArrival job refusal = Refuses job refusal

abbrev pub RefusesOrigin : OriginAsk → Job → JobRefusal → Type 0
RefusesOrigin origin job (What fault) = (loaded : Loaded) × (known : Known) × (at : Arrival) × OpensSession job loaded
    × IsKnown job loaded.object known × (arrival_of origin.is_strict known job loaded ≡ Ok at) × RefusesWhat origin.what at.point.state fault
RefusesOrigin origin job (Object fault name) = (loaded : Loaded) × (known : Known) × (at : Arrival) × (what : Option Asked) × OpensSession job loaded
    × IsKnown job loaded.object known × (arrival_of origin.is_strict known job loaded ≡ Ok at) × Asks origin.what at.point.state what × RefusesNames loaded.object (section_of job) fault name.now
RefusesOrigin origin job refusal = RefusesArrival job refusal

abbrev pub RefusesGoal : WhynotAsk → Job → GoalFault → Bool → Type 0
RefusesGoal why job fault lacks = (loaded : Loaded) × (known : Known) × (at : Arrival) × OpensSession job loaded × IsKnown job loaded.object known
    × (arrival_of why.is_strict known job loaded ≡ Ok at) × AsksGoals why job known at.point.state.program (Err fault) × (lacks_place fault (asked_of why) ≡ lacks)

-- (Memory may run out where the place of a listing is looked up.)
abbrev pub RefusesWhynot : WhynotAsk → Job → JobRefusal → Type 0
RefusesWhynot why job (Listing fault) = (is_listing job.target.kind ≡ true) × IsFaultOf job.file.now fault
RefusesWhynot why job (Goal fault) = RefusesGoal why job fault false
RefusesWhynot why job (NoPlace name) = (name.now ≡ asked_of why) × RefusesGoal why job NoSlot true
RefusesWhynot why job (Object fault name) = (loaded : Loaded) × (known : Known) × (at : Arrival) × (goals : Goals) × OpensSession job loaded
    × IsKnown job loaded.object known × (arrival_of why.is_strict known job loaded ≡ Ok at) × AsksGoals why job known at.point.state.program (Ok goals)
    × RefusesNames loaded.object (section_of job) fault name.now
RefusesWhynot why job refusal = RefusesArrival job refusal

-- `diff` looks at FILE's machine, and then at that of the other run; at their maps; at the names in these; and, where values differ, at the journal.
abbrev pub RefusesOther : Job → Refusal → Type 0
RefusesOther other (program.Maps fault) = IsTargetFault other.target other.file.now (of_target.Maps fault)
RefusesOther other (program.Listing fault) = IsTargetFault other.target other.file.now (of_target.Listing fault)
RefusesOther other (program.Load fault) = IsTargetFault other.target other.file.now (of_target.Program fault)
RefusesOther other (program.Open fault) = Refused other.context.now fault
RefusesOther other (program.NoCell map index) = ⊥

-- What is told where nothing is told of a program's lines has names of the object that has the fault.
abbrev pub lines_names : Option ℕ → Job → LinesFault → List ℕ
lines_names None job told = fault_names told.object (section_of job) told.fault
lines_names (Some index) job told = fault_names told.object (codes ".text") told.fault

pub record LacksPlaces (job : Job) (linked : LinkedObject) (it : ObjectFault) : Type 0 where
  pub why : LinesFault
  pub is_why : IsProgramLinesFault linked.sources.own.items (section_of job) (contents job.target.with.now) why
  pub tells : Tells why.fault why.index (lines_names why.index job why) it

-- (Memory may run out for where its slots stand in C.)
abbrev pub LacksMemory : Job → ObjectFault → Type 0
LacksMemory other it = (second : Loaded) × (linked : LinkedObject) × Loads other.target other.file.now second × (second.object ≡ Some linked)
    × LacksPlaces other linked it × (is_memory it.fault ≡ true)

abbrev pub IsOtherFault : Job → OtherFault → Type 0
IsOtherFault other (of_other.Program refusal) = RefusesOther other refusal
IsOtherFault other (of_other.Object it) = IsTargetFault other.target other.file.now (of_target.Object it) ⊎ LacksMemory other it

abbrev pub differing : DiffAsk → Job → Job → Loaded → Loaded → Option Pair
differing diff job other loaded second = (comparison_of (record { first = None; second = None }) diff job other (initial_of job loaded) (initial_of other second)).values

abbrev pub OpensBoth : DiffAsk → Job → Job → Loaded → Loaded → Type 0
OpensBoth diff job other loaded second = Opens job loaded × IsOtherRun diff job other × Opens other second

abbrev pub OpensAlike : DiffAsk → Job → Job → Loaded → Loaded → Type 0
OpensAlike diff job other loaded second = OpensBoth diff job other loaded second × AreSameMaps loaded second

-- The other run's machine isn't opened.
abbrev pub TellsOtherObject : ObjectFault → JobRefusal → Type 0
TellsOtherObject it (OtherObject fault name) = (fault ≡ it.fault) × (name.now ≡ name_of it)
TellsOtherObject it refusal = ⊥

abbrev pub TellsOther : OtherFault → JobRefusal → Type 0
TellsOther (of_other.Program fault) refusal = refusal ≡ OtherRun fault
TellsOther (of_other.Object it) refusal = TellsOtherObject it refusal

abbrev pub RefusesOtherRun : DiffAsk → Job → JobRefusal → Type 0
RefusesOtherRun diff job refusal = (loaded : Loaded) × (other : Job) × (fault : OtherFault) × Opens job loaded × IsOtherRun diff job other
    × IsOtherFault other fault × TellsOther fault refusal

abbrev pub RefusesRuns : DiffAsk → Job → JobRefusal → Type 0
RefusesRuns diff job (OtherMap number) = (loaded : Loaded) × (other : Job) × (second : Loaded) × OpensBoth diff job other loaded second
    × IsOtherMap loaded second number
RefusesRuns diff job (Object fault name) = (loaded : Loaded) × (other : Job) × (second : Loaded) × OpensAlike diff job other loaded second
    × (diff.alone ≡ false) × RefusesNames loaded.object (section_of job) fault name.now
RefusesRuns diff job (OtherObject fault name) = (loaded : Loaded) × (other : Job) × (second : Loaded) × OpensAlike diff job other loaded second
    × (diff.alone ≡ false) × RefusesNames second.object (section_of other) fault name.now
RefusesRuns diff job (Journal fault) = (loaded : Loaded) × (other : Job) × (second : Loaded) × OpensAlike diff job other loaded second
    × (diff.alone ≡ false) × (is_some (differing diff job other loaded second) ≡ true) × RefusesSize job.options.journal fault
RefusesRuns diff job refusal = RefusesMachine job refusal

-- Where the other side is a trace, it looks at that one's lines.
abbrev pub RefusesAgainst : Job → JobRefusal → Type 0
RefusesAgainst job (TraceLine fault line) = (loaded : Loaded) × Opens job loaded
    × (bad_line (other_bytes job.other) ≡ Some (record { fault = fault; line = line }))
RefusesAgainst job refusal = RefusesMachine job refusal

abbrev pub RefusesEither : Bool → DiffAsk → Job → JobRefusal → Type 0
RefusesEither true diff job refusal = RefusesAgainst job refusal
RefusesEither false diff job refusal = RefusesRuns diff job refusal ⊎ RefusesOtherRun diff job refusal

abbrev pub RefusesDiff : DiffAsk → Job → JobRefusal → Type 0
RefusesDiff diff job refusal = RefusesEither (is_trace diff.other) diff job refusal

abbrev pub RefusesListing : Job → JobRefusal → Type 0
RefusesListing job (Listing fault) = IsFaultOf job.file.now fault
RefusesListing job refusal = ⊥

-- No program is made of FILE.
abbrev pub TellsTarget : TargetFault → JobRefusal → Type 0
TellsTarget (of_target.Object it) refusal = TellsFault it.index it refusal
TellsTarget (of_target.Maps fault) refusal = refusal ≡ Maps fault
TellsTarget (of_target.Listing fault) refusal = refusal ≡ Listing fault
TellsTarget (of_target.Program fault) refusal = refusal ≡ Load fault

abbrev pub RefusesLoading : Job → JobRefusal → Type 0
RefusesLoading job refusal = (it : TargetFault) × IsTargetFault job.target job.file.now it × TellsTarget it refusal

-- `link` looks at an object: none is gathered of it and of what is asked, or no program is linked of that.
abbrev pub RefusesGathering : Job → JobRefusal → Type 0
RefusesGathering job refusal = (it : ObjectFault) × IsGatherFault job.target job.file.now it × TellsFault it.index it refusal

abbrev pub RefusesLinking : Job → JobRefusal → Type 0
RefusesLinking job refusal = (it : ObjectFault) × IsObjectFault job.target job.file.now it × TellsFault it.index it refusal

abbrev pub RefusesLink : Bool → Job → JobRefusal → Type 0
RefusesLink false job refusal = RefusesLinking job refusal
RefusesLink true job refusal = RefusesGathering job refusal

-- `lines` looks at a listing; or at what `link` looks at, and then at what each object tells of its lines, in their order. What it tells of that has names
-- of the object that has the fault.
pub record RefusesTable (job : Job) (refusal : JobRefusal) : Type 0 where
  pub linked : LinkedObject
  pub links : LinksTo job.target job.file.now linked
  pub it : ObjectFault
  pub lacks : LacksPlaces job linked it
  pub tells : TellsFault it.index it refusal

abbrev pub RefusesLines : Bool → Job → JobRefusal → Type 0
RefusesLines true job refusal = RefusesLinking job refusal ⊎ RefusesTable job refusal
RefusesLines false job refusal = RefusesListing job refusal

-- `load` looks at them when the program is loaded.
abbrev pub RefusesRows : SourceKind → Job → JobRefusal → Type 0
RefusesRows kind.Object job refusal = RefusesTable job refusal
RefusesRows kind.Listing job refusal = RefusesListing job refusal
RefusesRows kind.Words job refusal = ⊥

-- No test has the name that is asked for.
abbrev pub LacksName : Option (Bor (List ℕ)) → List (List Section) → JobRefusal → Type 0
LacksName only all (NoTest name) = (only ≡ Some name) × (chosen name.now all ≡ [])
LacksName only all refusal = ⊥

abbrev pub RefusesTests : Option (Bor (List ℕ)) → Job → JobRefusal → Type 0
RefusesTests only job (Tests fault line) = suite.IsFaultOf job.file.now (Line fault line)
RefusesTests only job (NoTest name) =
    (suite.file_fault job.file.now ≡ None) × LacksName only (tests (sections job.file.now)) (NoTest name)
RefusesTests only job refusal = ⊥

-- `batch` looks at its maps alone: each of its cases is refused by itself.
abbrev pub RefusesBatch : Job → JobRefusal → Type 0
RefusesBatch job (Maps fault) = IsMapsFault job.target.maps fault
RefusesBatch job refusal = ⊥

abbrev pub RefusesAs : Ask → Job → JobRefusal → Type 0
RefusesAs (Run strict) job refusal = RefusesMachine job refusal
RefusesAs (Trace trace) job refusal = RefusesMachine job refusal
RefusesAs Debug job refusal = Refuses job refusal
RefusesAs (Conversation talk) job refusal = Refuses job refusal
RefusesAs (Origin origin) job refusal = RefusesOrigin origin job refusal
RefusesAs (Whynot why) job refusal = RefusesWhynot why job refusal
RefusesAs (Diff diff) job refusal = RefusesDiff diff job refusal
RefusesAs (Gdb registers) job refusal = Refuses job refusal
RefusesAs Asm job refusal = RefusesListing job refusal
RefusesAs Disasm job refusal = ⊥
RefusesAs Lines job refusal = RefusesLines (links_first job.target.kind) job refusal
RefusesAs Check job refusal = ⊥
RefusesAs Load job refusal = RefusesRows job.target.kind job refusal
RefusesAs (Link joined) job refusal = RefusesLink joined job refusal
RefusesAs (Test tests) job refusal = RefusesTests tests.only job refusal
RefusesAs Batch job refusal = RefusesBatch job refusal
