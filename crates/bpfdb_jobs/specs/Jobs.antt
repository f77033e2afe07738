-- What a job asks for: its machine and its session, and what each subcommand prints that reads no standard input.
use Rattle.std.specs.Prelude.{◌≡◌, ◌≤◌, ◌/◌, ◌==◌, ◌&&◌, ◌||◌, ℕ, Bool, true, false, List, [], ◌++◌, Option, Some, None, Result, Ok, IsOk, length, map, option_map, codes, if◌then◌else◌}
use Rattle.std.specs.Borrow.{Bor}
use Rattle.std.specs.Option.{option_map_or}
use Rattle.bpf_entries.specs.Keeping.{IsSize}
use Rattle.bpf_diff.specs.Values.{Comparison, by_steps, by_writes}
use Rattle.bpf_diff.specs.Against.{against_text, tells_run}
use Rattle.bpf_diff.specs.declared.texts.BothTexts.{BothTexts}
use Rattle.input_texts.specs.TraceFaults.{bad_line}
use Rattle.input_texts.specs.TraceForms.{form_in, told}
use Rattle.input_texts.specs.declared.trace_form.Form.{Form}
use Rattle.bpf_entries.specs.declared.status.Status.{Status}
use Rattle.bpf_entries.specs.declared.status.Status.TheVariants as status
use Rattle.bpf_isa.specs.Programs.{Checked}
use Rattle.bpf_link.specs.declared.fault.LinkFault.{LinkFault}
use Rattle.bpf_link.specs.declared.fault.LinkFault.TheVariants.{Memory}
use Rattle.bpf_load.specs.Targets.{Gathers, LinksTo, Loads, contents, fields_of, object_of}
use Rattle.bpf_load.specs.Notes.{AreNotes}
use Rattle.bpf_load.specs.declared.loading.LinkedObject.{LinkedObject}
use Rattle.bpf_load.specs.declared.notes.Notes.{Notes}
use Rattle.bpf_load.specs.declared.target.Target.{Target}
use Rattle.bpf_load.specs.declared.loading.Sources.{Sources}
use Rattle.bpf_load.specs.declared.program.Loaded.{Loaded}
use Rattle.bpf_load.specs.declared.target.SourceKind.{SourceKind}
use Rattle.bpf_load.specs.declared.target.SourceKind.TheVariants.{Listing, Object, Words}
use Rattle.bpf_lines.specs.Objects.{AreProgramLines, IsProgramLinesFault, program_table}
use Rattle.bpf_lines.specs.declared.objects.LinesFault.{LinesFault}
use Rattle.bpf_lines.specs.declared.objects.ObjectLines.{ObjectLines}
use Rattle.bpf_lines.specs.declared.place_names.Names.{Names}
use Rattle.bpf_isa.specs.Checker.{most_slots}
use Rattle.bpf_lines.specs.Lookups.{AreFunctions, AreListingSlots}
use Rattle.bpf_lines.specs.declared.lookups.Functions.{Functions}
use Rattle.bpf_lines.specs.OwnSlots.{own_slots}
use Rattle.bpf_lines.specs.PlaceSlots.{slots_told}
use Rattle.bpf_lines.specs.PlaceTexts.{places_told}
use Rattle.bpf_lines.specs.Places.{is_place}
use Rattle.bpf_lines.specs.Values.{AreSlotsFor}
use Rattle.bpf_steps.specs.Platform.{context_limit}
use Rattle.bpf_opening.specs.Lists.{asked_opening, or_bare}
use Rattle.bpf_opening.specs.Openings.{begun}
use Rattle.bpf_opening.specs.declared.fault.OpeningFault.{OpeningFault}
use Rattle.bpf_opening.specs.declared.opening.Opening.{Opening}
use Rattle.bpf_steps.specs.State.{State}
use Rattle.bpf_origin.specs.Answers.{Answer}
use Rattle.bpf_origin.specs.declared.what.What.{What}
use Rattle.bpf_session.specs.Plain.{ending_of, plain_end}
use Rattle.bpf_session.specs.Points.{opening}
use Rattle.bpf_session.specs.Runs.{Standing}
use Rattle.bpf_session.specs.declared.plain.Ending.{Ending}
use Rattle.bpf_session.specs.declared.plain.Ending.TheVariants.{Exited, Faulted, Limit}
use Rattle.bpf_text.specs.Canonical.{canon}
use Rattle.bpf_text.specs.LineTable.{IsLineTable}
use Rattle.bpf_text.specs.Listing.{IsListing}
use Rattle.bpf_trace.specs.UnwrittenTexts.{unwritten_line}
use Rattle.bpf_trace.specs.Written.{unwritten_of}
use Rattle.bpf_trace.specs.declared.own_code.OwnCode.{OwnCode}
use Rattle.bpf_trace.specs.declared.strict_run.Unwritten.{Unwritten}
use Rattle.bpf_trace.specs.Calls.{calls_text}
use Rattle.bpf_trace.specs.declared.calls.Called.{Called}
use Rattle.bpf_trace.specs.Profiles.{profile_text}
use Rattle.bpf_trace.specs.Rows.{trace_text, trace_until}
use Rattle.bpf_trace.specs.Traces.{told_end_line}
use Rattle.bpf_trace.specs.declared.form.Form.TheVariants.{Json, Text}
use Rattle.bpf_trace.specs.declared.trace.Shown.{Shown}
use Rattle.bpf_whynot.specs.Answers.{Query, why_not}
use Rattle.bpf_whynot.specs.Asked.{Goals, goals_in}
use Rattle.bpf_whynot.specs.Makings.{goals_left, made_last}
use Rattle.bpf_whynot.specs.Reach.{TellsReach}
use Rattle.bpf_whynot.specs.declared.fault.GoalFault.{GoalFault}
use Rattle.bpfdb_script.specs.declared.refusal.Refusal.{Refusal}
use Rattle.bpfdb_script.specs.SlotTexts.{SlotTexts}
use Rattle.bpfdb_jobs.specs.MapLines.{linked_told}
use Rattle.bpfdb_jobs.specs.Programs.{AreSameMaps, check_line, program_text}
use Rattle.bpfdb_jobs.specs.Origins.{Arrival, AreNamesOf, Asks, IsTail, answer_by, arrival, followed_by, found_text, named_by, parts_for, question_by, status_of_extent, stop_line, strictly, within}
use Rattle.bpfdb_jobs.specs.Differences.{differences}
use Rattle.bpfdb_jobs.specs.Results.{result_text}
use Rattle.bpfdb_jobs.specs.Sources.{both_marked, sources}
use Rattle.bpfdb_jobs.specs.declared.job.Job.{Job}
use Rattle.bpfdb_jobs.specs.declared.known.Known.{Known}
use Rattle.bpfdb_options.specs.declared.options.Options.{Options}
use Rattle.bpfdb_options.specs.Asks.{is_context, is_trace}
use Rattle.bpfdb_options.specs.declared.ask.Ask.{Ask}
use Rattle.bpfdb_options.specs.declared.ask.Ask.TheVariants.{Run, Trace, Debug, Conversation, Origin, Whynot, Diff, Gdb, Asm, Disasm, Lines, Check, Load, Link, Test, Batch}
use Rattle.bpfdb_options.specs.declared.ask.DiffAsk.{DiffAsk}
use Rattle.bpfdb_options.specs.declared.ask.OriginAsk.{OriginAsk}
use Rattle.bpfdb_options.specs.declared.ask.TraceAsk.{TraceAsk}
use Rattle.bpfdb_options.specs.declared.ask.WhynotAsk.{WhynotAsk}

-- What is asked of the opening, or why that is refused.
abbrev pub opening_asked : Options → Result Opening OpeningFault
opening_asked options = asked_opening (option_map (λ text. text.now) options.regs)

-- The state from which a program is run on a context: the initial one, with what is asked put in.
abbrev pub begun_for : Options → Checked → List ℕ → State
begun_for options program context = begun (or_bare (opening_asked options)) program context

-- A machine stands there.
abbrev pub BeginsFor : Options → Checked → List ℕ → State → Type 0
BeginsFor options program context x = (length context ≤ context_limit) × (x ≡ begun_for options program context)

-- A machine can be opened on any program with the job's context, and a session with its journal.
pub record HasRoom (job : Job) : Type 0 where
  pub asked : IsOk (opening_asked job.options)
  pub short : length job.context.now ≤ context_limit
  pub sized : IsSize job.options.journal

-- A machine stands where the job begins.
abbrev pub OpensMachine : Job → Checked → State → Type 0
OpensMachine job program x = IsOk (opening_asked job.options) × (length job.context.now ≤ context_limit)
    × (x ≡ begun_for job.options program job.context.now)

-- FILE is loaded, and a machine can be opened on its program.
pub record Opens (job : Job) (loaded : Loaded) : Type 0 where
  pub loads : Loads job.target job.file.now loaded
  pub asked : IsOk (opening_asked job.options)
  pub short : length job.context.now ≤ context_limit

-- A session can be opened on it, too.
pub record OpensSession (job : Job) (loaded : Loaded) : Type 0 where
  pub opens : Opens job loaded
  pub sized : IsSize job.options.journal

-- The state in which that machine stands before its first step.
abbrev pub initial_of : Job → Loaded → State
initial_of job loaded = begun_for job.options loaded.program job.context.now

-- Where a session on a program begins.
abbrev pub start_of : Job → Checked → Standing
start_of job program = record {
  point = opening (begun_for job.options program job.context.now);
  bounds = record { limit = job.options.limit; room = job.options.journal };
  refusals = 0;
}

-- A text that may not be there: empty then.
abbrev pub name_or_empty : Option (Bor (List ℕ)) → List ℕ
name_or_empty (Some name) = name.now
name_or_empty None = []

-- The name of the section that is linked: empty where the only one is meant.
abbrev pub section_of : Job → List ℕ
section_of job = job.target.section.now

-- How many calls are answered is told with the option alone.
abbrev pub answered_if : Option (Bor (List ℕ)) → ℕ → Option ℕ
answered_if (Some text) count = Some count
answered_if None count = None

-- How many fields are left is told where there are some.
abbrev pub fields_if : ℕ → Option ℕ
fields_if count = if count == 0 then None else Some count

-- What is printed on standard output and on standard error, and the exit status. A stream to which nothing is said to go is left as it was.
pub record Print : Type 0 where
  pub out : Option (List ℕ)
  pub err : Option (List ℕ)
  pub status : ℕ

-- A result; and a line of why there is none.
abbrev pub printed : List ℕ → Print
printed out = record { out = Some out; err = None; status = 0 }

abbrev pub stopped : List ℕ → Print
stopped line = record { out = None; err = Some line; status = 1 }

-- `run`: what a program came to that exits, and else where it stopped.
abbrev pub run_print : Target → SlotTexts → ℕ → Ending → State → Print
run_print target places limit Exited end = printed (result_text target end)
run_print target places limit ending end = stopped (told_end_line places limit end)

-- The state to which the program runs without history, from the machine's opening to its end or to the limit of steps.
abbrev pub run_end : Job → Loaded → State
run_end job loaded = plain_end job.options.limit (initial_of job loaded)

-- With `--strict` it stops before the first step that would read a byte of the stack which nothing wrote since the call.
abbrev pub unwritten_in : Bool → OwnCode → Job → State → Option Unwritten
unwritten_in strict own job x = if strict then unwritten_of own job.options.limit x else None

abbrev pub run_or_stopped : SlotTexts → Option Unwritten → Print → Print
run_or_stopped places None a = a
run_or_stopped places (Some read) a = stopped (unwritten_line places read)

-- `trace`: the steps that are shown, with `--branches` the conditional jumps among them, or with `--profile` how often each instruction ran, or with
-- `--calls` its calls, and where the run ended. Its status is 1 where `run` has no result.
abbrev pub shown_of : TraceAsk → Known → Shown
shown_of trace known = record {
  from = trace.from;
  count = trace.count;
  only_branches = trace.only_branches;
  places = known.places;
  form = if trace.is_json then Json else Text;
}

-- With `--calls` it tells the calls that leave FILE's own code: all slots are of it where FILE is no object, or its lines aren't known.
abbrev pub called_of : Known → Called
called_of known = record { first = known.first; behind = known.behind; names = known.names; places = known.places }

abbrev pub steps_out : TraceAsk → Job → Shown → State → List ℕ
steps_out trace job shown x = if trace.is_profile then profile_text shown.places job.options.limit x else trace_text job.options.limit shown x

abbrev pub trace_out : TraceAsk → Job → Known → State → List ℕ
trace_out trace job known x =
    if trace.is_calls then calls_text job.options.limit (called_of known) x else steps_out trace job (shown_of trace known) x

abbrev pub status_of_end : Status → ℕ
status_of_end status.Exited = 0
status_of_end _ = 1

abbrev pub trace_print : TraceAsk → Job → Known → State → State → Print
trace_print trace job known x end = record { out = Some (trace_out trace job known x); err = None; status = status_of_end end.status }

-- With `--strict` it stops there, too.
abbrev pub trace_or_stopped : Option Unwritten → TraceAsk → Job → Known → State → State → Print
trace_or_stopped None trace job known x end = trace_print trace job known x end
trace_or_stopped (Some read) trace job known x end = record { out = Some (trace_until read (shown_of trace known) x); err = None; status = 1 }

-- `origin`: where the machine stands, and where the values came from that are asked about. Where that is, by the job, with `--strict` before the read
-- that stops its run; or why its script is refused.
abbrev pub stop_for : Bool → Known → Job → Loaded → Option Unwritten
stop_for strict known job loaded = unwritten_in (strictly job.other strict) known.own job (initial_of job loaded)

abbrev pub arrival_of : Bool → Known → Job → Loaded → Result Arrival Refusal
arrival_of strict known job loaded = arrival job.other (within (stop_for strict known job loaded) job.options) (initial_of job loaded)

abbrev pub named_print : Option Names → Option Unwritten → SlotTexts → State → Answer → Print
named_print names stop places end answer =
    record (printed (named_by names (found_text (stop_line places stop) places end answer))) { status = status_of_extent answer.extent }

-- `whynot`: where the machine stands, and why it did not come to the slots that are asked about.
abbrev pub asked_of : WhynotAsk → List ℕ
asked_of why = name_or_empty why.what

-- They are named by that, or are those of the place of an object, or of a listing, which it names.
abbrev pub is_listing : SourceKind → Bool
is_listing Listing = true
is_listing kind = false

abbrev pub names_place : WhynotAsk → Job → Bool
names_place why job = is_listing job.target.kind && is_place (asked_of why)

abbrev pub AreNamed : Bool → WhynotAsk → Job → List ℕ → Type 0
AreNamed true why job slots = AreListingSlots job.file.now (asked_of why) slots
AreNamed false why job slots = slots ≡ asked_of why

abbrev pub AreGiven : Option (Bor (List ℕ)) → WhynotAsk → Job → List ℕ → Type 0
AreGiven (Some goals) why job slots = slots ≡ goals.now
AreGiven None why job slots = AreNamed (names_place why job) why job slots

abbrev pub AreAsked : WhynotAsk → Job → Known → List ℕ → Type 0
AreAsked why job known slots = AreGiven known.goals why job slots

-- The slots of a program, or why they are none.
abbrev pub AsksGoals : WhynotAsk → Job → Known → Checked → Result Goals GoalFault → Type 0
AsksGoals why job known program goals = (slots : List ℕ) × AreAsked why job known slots × (goals_in program slots ≡ goals)

abbrev pub query_of : WhynotAsk → Known → Goals → Arrival → Query
query_of why known goals at = record {
  goals = goals_left goals at.point.history;
  made = made_last goals at.point.history at.point.state;
  question = question_by known.places why.scope at;
  alone = why.alone;
}

abbrev pub whynot_print : Option Names → Option Unwritten → Query → (ℕ → List ℕ → Bool) → Arrival → Print
whynot_print names stop q can at = named_print names stop q.question.places at.point.state (why_not can q at.point.history at.point.state)

-- `lines`: the table of a listing; or of the program to which an object is linked, alone or joined with others, in their order.
abbrev pub AreLinesFor : Job → LinkedObject → List ObjectLines → Type 0
AreLinesFor job linked all = AreProgramLines linked.sources.own.items (section_of job) (contents job.target.with.now) all

abbrev pub table_by : Job → LinkedObject → List ObjectLines → List ℕ
table_by job linked all = program_table job.target.packet linked.program.words.items all

-- Where each slot stands in C, by that table, where steps or moves are told; nothing where its lines can't be read. (Where there is no memory for them, that
-- is refused.)
abbrev pub is_memory : LinkFault → Bool
is_memory Memory = true
is_memory fault = false

abbrev pub LacksLines : Job → LinkedObject → Type 0
LacksLines job linked = (why : LinesFault) × IsProgramLinesFault linked.sources.own.items (section_of job) (contents job.target.with.now) why
    × (is_memory why.fault ≡ false)

abbrev pub HasPlaces : Bool → Job → Option LinkedObject → Option (List (List ℕ)) → Type 0
HasPlaces true job (Some linked) (Some texts) =
    (all : List ObjectLines) × AreLinesFor job linked all × (texts ≡ places_told (length linked.program.words.items / 8) (table_by job linked all))
HasPlaces true job (Some linked) None = LacksLines job linked
HasPlaces tells job object texts = texts ≡ None

-- The functions of its slots by that table, and which slots are FILE's own, where calls are told.
abbrev pub tells_calls : Ask → Bool
tells_calls (Trace trace) = trace.is_calls
tells_calls ask = false

abbrev pub AreAllOwn : Option (List (List ℕ)) → ℕ → ℕ → Type 0
AreAllOwn names first behind = (names ≡ None) × (first ≡ 0) × (behind ≡ most_slots)

abbrev pub AreOwn : Job → LinkedObject → List (List ℕ) → ℕ → ℕ → Type 0
AreOwn job linked names first behind = (all : List ObjectLines) × AreLinesFor job linked all
    × AreFunctions job.target.packet linked.program.words.items all names first behind

abbrev pub HasCode : Bool → Job → Option LinkedObject → Option (List (List ℕ)) → ℕ → ℕ → Type 0
HasCode true job (Some linked) (Some names) first behind = AreOwn job linked names first behind
HasCode true job (Some linked) None first behind = LacksLines job linked × AreAllOwn None first behind
HasCode tells job object names first behind = AreAllOwn names first behind

abbrev pub names_of : Option Functions → Option (List (List ℕ))
names_of functions = option_map (λ f. map (λ name. name.items) f.names.items) functions

abbrev pub first_of : Option Functions → ℕ
first_of functions = option_map_or (λ f. f.first) functions 0

abbrev pub behind_of : Option Functions → ℕ
behind_of functions = option_map_or (λ f. f.behind) functions most_slots

abbrev pub HasFunctions : Bool → Job → Option LinkedObject → Option Functions → Type 0
HasFunctions tells job object functions = HasCode tells job object (names_of functions) (first_of functions) (behind_of functions)

-- Answers whose lines tell them, and why there is no result: gdb's user asks for those of `origin` and `whynot`, too.
abbrev pub tells_places : Ask → Bool
tells_places (Run strict) = true
tells_places (Trace trace) = true
tells_places (Conversation talk) = true
tells_places (Origin origin) = true
tells_places (Whynot why) = true
tells_places (Diff diff) = true
tells_places (Gdb registers) = true
tells_places ask = false

-- The slots of FILE's own code are known with them.
abbrev pub own_by : ℕ × ℕ → OwnCode
own_by slots = record { first = slots.0; behind = slots.1 }

abbrev pub HasOwn : Job → Option LinkedObject → Option (List (List ℕ)) → OwnCode → Type 0
HasOwn job (Some linked) (Some texts) own =
    (all : List ObjectLines) × AreLinesFor job linked all × (own ≡ own_by (own_slots job.target.packet linked.program.words.items all))
HasOwn job object texts own = own ≡ own_by (0, 0)

abbrev pub AreTold : Job → Option LinkedObject → SlotTexts → Type 0
AreTold job object texts = HasPlaces (tells_places job.ask) job object (option_map (λ texts. map (λ text. text.items) texts.now) texts)

-- `diff`: the job of the other run, which has the bytes of the other file for its program, which is of a kind of its own, or for its context.
abbrev pub other_bytes : Option (Bor (List ℕ)) → List ℕ
other_bytes (Some other) = other.now
other_bytes None = []

abbrev pub RunsOn : Bool → Job → Job → Type 0
RunsOn true job other = (other.context.now ≡ other_bytes job.other) × (other ≡ record job { context = other.context })
RunsOn false job other = (other.file.now ≡ other_bytes job.other)
    × (other ≡ record job { file = other.file; target = record job.target { kind = job.other_kind } })

abbrev pub IsOtherRun : DiffAsk → Job → Job → Type 0
IsOtherRun diff job other = RunsOn (is_context diff.other) job other

-- Where the two runs part, with status 0 where they don't.
abbrev pub diff_status : Bool → ℕ
diff_status same = if same then 0 else 1

-- Or where they end otherwise for one who looks from outside.
abbrev pub comparison : Bool → BothTexts → ℕ → List ℕ → List ℕ → State → State → Comparison
comparison true texts limit c d x y = by_writes texts limit c d x y
comparison false texts limit c d x y = by_steps texts limit x y

abbrev pub comparison_of : BothTexts → DiffAsk → Job → Job → State → State → Comparison
comparison_of texts diff job other x y = comparison diff.compares_writes texts job.options.limit job.context.now other.context.now x y

-- Behind it stands where the values came from that differ, with the names of places in maps. Lines of steps and moves end with where they stand in C.
-- Both are of each run by its own object.
abbrev pub runs_told : List ℕ → Bool → List ℕ × List ℕ → Print
runs_told text same texts = record { out = Some (text ++ both_marked texts); err = None; status = diff_status same }

abbrev pub runs_print : Option Names → Option Names → BothTexts → DiffAsk → Job → Comparison → State → State → Print
runs_print names others texts diff job told x y = runs_told told.text told.same (sources names others texts diff job.options told.values x y)

-- (With `--alone` no names are looked for.)
abbrev pub AreNamesFor : Bool → Job → Option LinkedObject → Option Names → Type 0
AreNamesFor true job object names = names ≡ None
AreNamesFor false job object names = AreNamesOf object (section_of job) job.target.packet names

-- Or the first step that the trace of another machine, which is the other file, tells otherwise, with status 0 where it tells the whole run.
abbrev pub against_print : Form → ℕ → State → List (List ℕ) → Print
against_print form limit x lines = record {
  out = Some (against_text form limit x lines);
  err = None;
  status = diff_status (tells_run form limit x lines);
}

abbrev pub compared_print : Option Names → Option Names → BothTexts → DiffAsk → Job → Job → State → State → Print
compared_print names others texts diff job other x y = runs_print names others texts diff job (comparison_of texts diff job other x y) x y

abbrev pub RunsPrint : DiffAsk → Job → Print → Type 0
RunsPrint diff job a = (loaded : Loaded) × (other : Job) × (second : Loaded) × (names : Option Names) × (others : Option Names) × (texts : BothTexts)
    × Opens job loaded × IsOtherRun diff job other × Opens other second × AreSameMaps loaded second
    × AreNamesFor diff.alone job loaded.object names × AreNamesFor diff.alone other second.object others
    × AreTold job loaded.object texts.first × AreTold other second.object texts.second
    × (a ≡ compared_print names others texts diff job other (initial_of job loaded) (initial_of other second))

pub record AgainstPrints (job : Job) (a : Print) : Type 0 where
  pub loaded : Loaded
  pub opens : Opens job loaded
  pub form : Form
  pub has : form_in (told (other_bytes job.other)) ≡ Some form
  pub clear : bad_line (other_bytes job.other) ≡ None
  pub prints : a ≡ against_print form job.options.limit (initial_of job loaded) (told (other_bytes job.other))

abbrev pub DiffPrints : Bool → DiffAsk → Job → Print → Type 0
DiffPrints true diff job a = AgainstPrints job a
DiffPrints false diff job a = RunsPrint diff job a

-- `link`: the words of the program, and what is told of it: the shapes of its maps, in the order of their numbers (none unless the object
-- defines each as an array), and their names; how many calls are answered; and how many fields are left as compiled. Or with `-r` the
-- object that would be linked.
abbrev pub link_print : Job → LinkedObject → Print
link_print job linked = record (printed linked.program.words.items) {
  err = linked_told (object_of linked.sources) linked.program.shapes.items linked.program.names.items
      (answered_if job.target.stubs linked.program.answered) (fields_if (fields_of linked));
}

abbrev pub LinkPrints : Bool → Job → Print → Type 0
LinkPrints false job a = (linked : LinkedObject) × LinksTo job.target job.file.now linked × (a ≡ link_print job linked)
LinkPrints true job a = (sources : Sources) × Gathers job.target job.file.now sources × (a ≡ printed (object_of sources))

-- (An object is linked first.)
abbrev pub links_first : SourceKind → Bool
links_first Object = true
links_first kind = false

abbrev pub IsTable : Bool → Job → List ℕ → Type 0
IsTable true job table = (linked : LinkedObject) × (all : List ObjectLines) × LinksTo job.target job.file.now linked × AreLinesFor job linked all
    × (table ≡ table_by job linked all)
IsTable false job table = IsLineTable job.file.now table

-- `load`: the size and the maps of a program, what of an object is other than Linux's, and then the table that `lines` has of an object or a listing; words
-- have none.
abbrev pub AreRows : SourceKind → Job → Option LinkedObject → List ℕ → Type 0
AreRows Object job None rows = ⊥
AreRows Object job (Some linked) rows = (notes : Notes) × (all : List ObjectLines) × AreNotes job.target job.file.now job.library.now notes
    × AreLinesFor job linked all × (rows ≡ differences notes ++ table_by job linked all)
AreRows Listing job object rows = IsLineTable job.file.now rows
AreRows Words job object rows = rows ≡ []

-- The slots of the place of an object that is asked about, by the table of its program's words; or what is asked of its own slots, where it is asked about a
-- value.
abbrev pub HasPlace : Option (List ℕ) → Job → Option LinkedObject → Option (List ℕ) → Type 0
HasPlace (Some place) job (Some linked) (Some goals) =
    (all : List ObjectLines) × AreLinesFor job linked all × AreSlotsFor job.target.packet linked.program.words.items all place goals
HasPlace (Some place) job (Some linked) None = ⊥
HasPlace place job object goals = goals ≡ None

-- `whynot` may ask about a place.
abbrev pub place_in : WhynotAsk → Option (List ℕ)
place_in why = if is_place (asked_of why) then Some (asked_of why) else None

abbrev pub asked_place : Ask → Option (List ℕ)
asked_place (Whynot why) = place_in why
asked_place ask = None

-- What is known of a program's slots.
pub record IsKnown (job : Job) (object : Option LinkedObject) (known : Known) : Type 0 where
  pub goals : HasPlace (asked_place job.ask) job object (option_map (λ goals. goals.now) known.goals)
  pub places : AreTold job object known.places
  pub code : HasCode (tells_calls job.ask) job object (option_map (λ names. map (λ name. name.items) names.now) known.names) known.first known.behind
  pub own : HasOwn job object (option_map (λ texts. map (λ text. text.items) texts.now) known.places) known.own

-- What a subcommand prints of a job that has what it needs: one that reads no standard input. (`test` has a definition of its own.)
abbrev pub Prints : Ask → Job → Print → Type 0
Prints (Run strict) job a = (loaded : Loaded) × (known : Known) × Opens job loaded × IsKnown job loaded.object known
    × (a ≡ run_or_stopped known.places (unwritten_in strict known.own job (initial_of job loaded))
    (run_print job.target known.places job.options.limit (ending_of (run_end job loaded).status) (run_end job loaded)))
Prints (Trace trace) job a = (loaded : Loaded) × (known : Known) × Opens job loaded × IsKnown job loaded.object known
    × (a ≡ trace_or_stopped (unwritten_in trace.is_strict known.own job (initial_of job loaded)) trace job known (initial_of job loaded) (run_end job loaded))
Prints Debug job a = ⊥
Prints (Conversation talk) job a = ⊥
Prints (Origin origin) job a = (loaded : Loaded) × (known : Known) × (at : Arrival) × (what : Option What) × (tail : Answer) × (names : Option Names)
    × OpensSession job loaded × IsKnown job loaded.object known × (arrival_of origin.is_strict known job loaded ≡ Ok at) × Asks origin.what at.point.state what
    × IsTail origin.tells_branches (question_by known.places origin.scope at) (parts_for what (stop_for origin.is_strict known job loaded) at.point.state) at.point tail
    × AreNamesOf loaded.object (section_of job) job.target.packet names
    × (a ≡ named_print names (stop_for origin.is_strict known job loaded) known.places at.point.state
    (followed_by (answer_by known.places origin.scope (parts_for what (stop_for origin.is_strict known job loaded) at.point.state) at) tail))
Prints (Whynot why) job a = (loaded : Loaded) × (known : Known) × (at : Arrival) × (goals : Goals) × (can : ℕ → List ℕ → Bool) × (names : Option Names)
    × OpensSession job loaded × IsKnown job loaded.object known × (arrival_of why.is_strict known job loaded ≡ Ok at) × AsksGoals why job known at.point.state.program (Ok goals)
    × TellsReach at.point.state.program (goals_left goals at.point.history) can × AreNamesOf loaded.object (section_of job) job.target.packet names
    × (a ≡ whynot_print names (stop_for why.is_strict known job loaded) (query_of why known goals at) can at)
Prints (Diff diff) job a = DiffPrints (is_trace diff.other) diff job a
Prints (Gdb registers) job a = ⊥
Prints (Test tests) job a = ⊥
Prints Batch job a = ⊥
Prints Asm job a = (words : List ℕ) × IsListing job.file.now words × (a ≡ printed words)
Prints Disasm job a = (loaded : Loaded) × Loads job.target job.file.now loaded × (a ≡ printed (canon loaded.program))
Prints Lines job a = (table : List ℕ) × IsTable (links_first job.target.kind) job table × (a ≡ printed table)
Prints Check job a = (loaded : Loaded) × Loads job.target job.file.now loaded × (a ≡ printed (check_line loaded.program))
Prints Load job a = (loaded : Loaded) × (rows : List ℕ) × Loads job.target job.file.now loaded × AreRows job.target.kind job loaded.object rows
    × (a ≡ printed (program_text loaded ++ rows))
Prints (Link joined) job a = LinkPrints joined job a
