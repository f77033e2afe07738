-- Scaffolding: a session, or a machine with its journal, that was just opened for a job.
use Rattle.std.specs.Prelude.{ℕ, ◌≡◌, Bool, List, [], Option, Ok, false, option_map, true}
use Rattle.std.specs.Borrow.{Bor}
use Rattle.bpf_isa.specs.Programs.{Checked}
use Rattle.bpf_journal.specs.Histories.{Record, StandsFor}
use Rattle.bpf_journal.specs.Timelines.{Moment}
use Rattle.bpf_journal.specs.Tracks.{RingHolds, ring_room}
use Rattle.bpf_ring.specs.declared.keeper.RingKeeper.{RingKeeper}
use Rattle.bpf_origin.specs.Answers.{Answer}
use Rattle.bpf_origin.specs.Asked.{answer_about}
use Rattle.bpf_origin.specs.declared.place.Part.{Part}
use Rattle.bpf_origin.specs.declared.question.Extent.TheVariants.{Whole}
use Rattle.bpf_origin.specs.declared.question.Question.{Question}
use Rattle.bpf_origin.specs.declared.what.What.{What}
use Rattle.bpf_lines.specs.declared.place_names.Names.{Names}
use Rattle.bpf_load.specs.declared.loading.LinkedObject.{LinkedObject}
use Rattle.bpf_load.specs.declared.program.Loaded.{Loaded}
use Rattle.bpf_steps.specs.State.{State}
use Rattle.bpf_session.specs.Sessions.{SessionValue}
use Rattle.bpf_whynot.specs.Answers.{Query, why_not}
use Rattle.bpfdb_jobs.specs.Connections.{Begins}
use Rattle.bpf_diff.specs.Values.{Pair, pair_of}
use Rattle.bpf_diff.specs.declared.texts.BothTexts.{BothTexts}
use Rattle.bpf_entries.specs.Keeping.{IsSize}
use Rattle.bpfdb_jobs.specs.Jobs.{AreNamesFor, AreTold, HasRoom, IsKnown, IsOtherRun, Opens, OpensSession, arrival_of, begun_for, comparison_of, initial_of, stop_for}
use Rattle.bpfdb_jobs.specs.Programs.{AreSameMaps}
use Rattle.bpfdb_jobs.specs.Sources.{behind, sources}
use Rattle.bpfdb_jobs.specs.declared.runs.ComparedRuns.{ComparedRuns}
use Rattle.bpfdb_jobs.specs.declared.source.Sources.{Sources}
use Rattle.bpfdb_options.specs.Asks.{is_trace}
use Rattle.bpfdb_options.specs.declared.ask.DiffAsk.{DiffAsk}
use Rattle.bpfdb_options.specs.declared.ask.OriginAsk.{OriginAsk}
use Rattle.bpfdb_options.specs.declared.options.Options.{Options}
use Rattle.bpfdb_jobs.specs.Origins.{Arrival, Asks, IsTail, followed_by, found_text, named_by, parts_for, question_by, stop_line}
use Rattle.bpf_trace.specs.declared.strict_run.Unwritten.{Unwritten}
use Rattle.bpfdb_jobs.specs.declared.origin.Reached.{Reached}
use Rattle.bpfdb_jobs.specs.declared.job.Job.{Job}
use Rattle.bpfdb_jobs.specs.declared.known.Known.{Known}

-- A machine stands at the opening of the job's program.
abbrev pub OpensAs : Job → State → Type 0
OpensAs job x = (loaded : Loaded) × Opens job loaded × (x ≡ initial_of job loaded)

-- And the program comes from this object.
abbrev pub OpensOf : Job → Option LinkedObject → State → Type 0
OpensOf job object x = (loaded : Loaded) × Opens job loaded × (x ≡ initial_of job loaded) × (loaded.object ≡ object)

-- The object of the other run: FILE's own on another context.
abbrev pub beside : Bool → Option LinkedObject → Option LinkedObject → Option LinkedObject
beside true file own = file
beside false file own = own

-- Two machines stand at the openings of two runs that are compared, whose names in maps these are, and whose places in C.
pub record OpensRuns (diff : DiffAsk) (job other : Job) (x y : State) (names others : Option Names) (texts : BothTexts) : Type 0 where
  pub runs : is_trace diff.other ≡ false
  pub first : OpensAs job x
  pub is_other : IsOtherRun diff job other
  pub second : OpensAs other y
  pub maps : AreSameMaps first.0 second.0
  pub named : AreNamesFor diff.alone job first.0.object names
  pub named_other : AreNamesFor diff.alone other second.0.object others
  pub told : AreTold job first.0.object texts.first
  pub told_other : AreTold other second.0.object texts.second

-- They were compared, and each machine still has its program.
pub record AreCompared (texts : BothTexts) (diff : DiffAsk) (job other : Job) (x y : State) (found : ComparedRuns) : Type 0 where
  pub text : found.text.items ≡ (comparison_of texts diff job other x y).text
  pub same : found.is_same ≡ (comparison_of texts diff job other x y).same
  pub values : pair_of found.values ≡ (comparison_of texts diff job other x y).values
  pub first : found.first.program ≡ x.program
  pub second : found.second.program ≡ y.program

-- Of some openings, and with these names and places.
pub record WereCompared (diff : DiffAsk) (job other : Job) (names others : Option (Bor Names)) (texts : BothTexts) (found : ComparedRuns) : Type 0 where
  pub x : State
  pub y : State
  pub opens : OpensRuns diff job other x y (option_map (λ n. n.now) names) (option_map (λ n. n.now) others) texts
  pub are : AreCompared texts diff job other x y found

-- A machine has run so many steps from an opening, and its journal holds the history of that.
pub record HasRun (options : Options) (n : ℕ) (x : State) (moment : Moment RingKeeper) (moves : ℕ) : Type 0 where
  pub sized : IsSize options.journal
  pub state : moment.state ≡ (behind options n x).point.state
  pub held : StandsFor RingHolds moment.keeper moment.state (behind options n x).point.history
  pub counted : moves ≡ (behind options n x).moves

-- What is told of the values, in memory.
pub record AreSources (names others : Option (Bor Names)) (texts : BothTexts) (diff : DiffAsk) (options : Options) (values : Option Pair) (x y : State) (found : Sources) : Type 0 where
  pub first : found.first.items ≡ (sources (option_map (λ n. n.now) names) (option_map (λ n. n.now) others) texts diff options values x y).0
  pub second : found.second.items ≡ (sources (option_map (λ n. n.now) names) (option_map (λ n. n.now) others) texts diff options values x y).1

-- It has the program, and stands where one of the job begins.
pub record IsOpening (job : Job) (program : Checked) (session : SessionValue RingKeeper) : Type 0 where
  pub room : HasRoom job
  pub begins : Begins job program session

-- It stands at the opening of the program, and its journal of the job's size is empty.
pub record IsStart (job : Job) (program : Checked) (moment : Moment RingKeeper) : Type 0 where
  pub has_room : HasRoom job
  pub state : moment.state ≡ begun_for job.options program job.context.now
  pub empty : RingHolds moment.keeper []
  pub room : ring_room moment.keeper ≡ job.options.journal

-- It stands where `origin` asks of the job, behind so many moves, and what is known there of the program, and of the read that stopped a strict run.
pub record HasArrived (strict : Bool) (known : Known) (job : Job) (reached : Reached) : Type 0 where
  pub loaded : Loaded
  pub of : loaded.object ≡ reached.object
  pub is_known : IsKnown job loaded.object known
  pub at : Arrival
  pub opens : OpensSession job loaded
  pub stop : reached.read ≡ stop_for strict known job loaded
  pub line : reached.line.items ≡ stop_line known.places reached.read
  pub arrives : arrival_of strict known job loaded ≡ Ok at
  pub state : reached.arrived.timeline.state ≡ at.point.state
  pub held : StandsFor RingHolds reached.arrived.timeline.keeper reached.arrived.timeline.state at.point.history
  pub counted : reached.arrived.moves ≡ at.moves

-- The job asks about these parts of a state.
abbrev pub AreAskedParts : OriginAsk → Option Unwritten → State → List Part → Type 0
AreAskedParts origin read x parts = (what : Option What) × Asks origin.what x what × (parts ≡ parts_for what read x)

-- It is asked there about these parts, and in this way.
pub record IsAsked (origin : OriginAsk) (job : Job) (reached : Reached) (parts : List Part) (q : Question) : Type 0 where
  pub known : Known
  pub arrived : HasArrived origin.is_strict known job reached
  pub about : AreAskedParts origin reached.read reached.arrived.timeline.state parts
  pub way : q ≡ question_by known.places origin.scope arrived.at

-- And this stands behind the answer.
pub record HasTail (origin : OriginAsk) (job : Job) (reached : Reached) (parts : List Part) (q : Question) (tail : Answer) : Type 0 where
  pub asked : IsAsked origin job reached parts q
  pub is : IsTail origin.tells_branches q parts asked.arrived.at.point tail

-- What is written where the machine stands: a line before that, the answer about these parts, and a text behind it.
abbrev pub asked_text : List ℕ → Question → List Part → List Record → State → List ℕ → List ℕ
asked_text stop q parts h x tail = found_text stop q.places x (followed_by (answer_about q parts h x) (record { text = tail; extent = Whole }))

-- With the names of places in maps, where they are known.
abbrev pub told_text : Option (Bor Names) → List ℕ → Question → List Part → List Record → State → List ℕ → List ℕ
told_text names stop q parts h x tail = named_by (option_map (λ n. n.now) names) (asked_text stop q parts h x tail)

-- What is written of why the program did not come to some slots, with those names.
abbrev pub why_text : Option (Bor Names) → List ℕ → (ℕ → List ℕ → Bool) → Query → List Record → State → List ℕ
why_text names stop can q h x = named_by (option_map (λ n. n.now) names) (found_text stop q.question.places x (why_not can q h x))
