-- What a plan says, by what `clap`'s exact matches give for the words.
use Rattle.std.specs.Prelude.{◌≡◌, ◌⊎◌, ◌<◌, ◌≤◌, ◌^◌, ◌||◌, ◌&&◌, ℕ, Bool, true, false, not, if◌then◌else◌, List, [], Option, Some, None, is_some, option_map, unwrap_or, codes, length, map, nat_le}
use Rattle.std.specs.List.{list_all}
use Rattle.std.specs.Option.{option_map_or}
use Rattle.std.specs.Str.{bytes_eq}
use Rattle.std.specs.Str.Parse.{IsNumeral, digits_value, without_leading_plus}
use Rattle.clap.specs.Words.{IsAmong, Row, Text, all_of, fault_of, first_of, kind_of, subcommand_of}
use Rattle.clap.specs.declared.error.Error.{Error}
use Rattle.clap.specs.declared.error.kind.ErrorKind.{ErrorKind}
use Rattle.clap.specs.declared.error.kind.ErrorKind.TheVariants as kind
use Rattle.bpfdb_cli.specs.CommandLine.{command_app}
use Rattle.bpfdb_cli.specs.declared.plans.EntryTakes.{EntryTakes}
use Rattle.bpfdb_cli.specs.declared.plans.EntryTakes.TheVariants.{Unsaid, Struct, Context}
use Rattle.bpfdb_cli.specs.declared.plans.Form.{Form}
use Rattle.bpfdb_cli.specs.declared.plans.Form.TheVariants as form
use Rattle.bpfdb_cli.specs.declared.plans.Plan.{Plan}
use Rattle.bpfdb_cli.specs.declared.plans.PlanFault.{PlanFault}
use Rattle.bpfdb_cli.specs.declared.plans.PlanFault.TheVariants.{Usage, Memory}
use Rattle.bpfdb_cli.specs.declared.plans.TargetWords.{TargetWords}
use Rattle.bpf_packet.specs.Names.{packet_name}
use Rattle.bpf_packet.specs.declared.packet.Packet.{Packet}
use Rattle.input_texts.specs.Counts.{are_counts}
use Rattle.input_texts.specs.Turns.{has_place, offset_in}
use Rattle.bpfdb_limits.specs.Limits.{IsLimit, default_journal, default_limit, greatest_count}
use Rattle.bpfdb_options.specs.Asks.{subcommand_for}
use Rattle.bpfdb_options.specs.Lines.{default_lines}
use Rattle.bpfdb_options.specs.Registers.{registers_name}
use Rattle.bpfdb_options.specs.Subcommands.{subcommand_name}
use Rattle.bpfdb_options.specs.TestParts.{test_part_name}
use Rattle.bpfdb_options.specs.declared.ask.Ask.{Ask}
use Rattle.bpfdb_options.specs.declared.ask.Ask.TheVariants as ask
use Rattle.bpfdb_options.specs.declared.ask.ConversationAsk.{ConversationAsk}
use Rattle.bpfdb_options.specs.declared.ask.DiffAsk.{DiffAsk}
use Rattle.bpfdb_options.specs.declared.ask.OriginAsk.{OriginAsk}
use Rattle.bpfdb_options.specs.declared.ask.OtherSide.{OtherSide}
use Rattle.bpfdb_options.specs.declared.ask.OtherSide.TheVariants as side
use Rattle.bpfdb_options.specs.declared.ask.Scope.{Scope}
use Rattle.bpfdb_options.specs.declared.ask.TestAsk.{TestAsk}
use Rattle.bpfdb_options.specs.declared.ask.TraceAsk.{TraceAsk}
use Rattle.bpfdb_options.specs.declared.ask.WhynotAsk.{WhynotAsk}
use Rattle.bpfdb_options.specs.declared.options.Options.{Options}
use Rattle.bpfdb_options.specs.declared.registers.Registers.{Registers}
use Rattle.bpfdb_options.specs.declared.registers.Registers.TheVariants.{X86}
use Rattle.bpfdb_options.specs.declared.test_part.TestPart.{TestPart}

-- The number of an option, the default where the option has no text.
abbrev pub number_or : ℕ → Option Text → ℕ
number_or default None = default
number_or default (Some text) = digits_value 10 (without_leading_plus text)

-- The number of an option that may be absent.
abbrev pub number_in : Option Text → Option ℕ
number_in text = option_map (λ t. digits_value 10 (without_leading_plus t)) text

-- A flag was given.
abbrev pub is_given : Option Text → Bool
is_given text = option_map_or (λ t. bytes_eq t (codes "true")) text false

-- The machine of that name, the default where the option has no text.
abbrev pub NamesRegisters : Option Text → Registers → Type 0
NamesRegisters None r = r ≡ X86
NamesRegisters (Some text) r = registers_name r ≡ text

-- The part of a test of that name, none where the option has no text.
abbrev pub NamesPart : Option Text → Option TestPart → Type 0
NamesPart None part = part ≡ None
NamesPart (Some text) None = ⊥
NamesPart (Some text) (Some part) = test_part_name part ≡ text

-- What the entry takes: the kernel's struct of that name, or the context's address; nothing is said where the option has no text.
abbrev pub NamesStruct : Option Text → EntryTakes → Type 0
NamesStruct None takes = takes ≡ Unsaid
NamesStruct (Some text) Unsaid = ⊥
NamesStruct (Some text) (Struct packet) = packet_name packet ≡ text
NamesStruct (Some text) Context = text ≡ codes "none"

-- Whether fields may not stay where they were compiled; they may where the option has no text.
abbrev pub fields_name : Bool → Text
fields_name strict = if strict then codes "strict" else codes "compiled"

abbrev pub NamesFields : Option Text → Bool → Type 0
NamesFields None strict = strict ≡ false
NamesFields (Some text) strict = fields_name strict ≡ text

-- Options say what a subcommand's matches say.
pub record Chooses (rows : List Row) (options : Options) : Type 0 where
  pub journal : options.journal ≡ number_or default_journal (first_of (codes "journal") rows)
  pub regs : option_map (λ s. s.now) options.regs ≡ first_of (codes "regs") rows
  pub limit : options.limit ≡ number_or default_limit (first_of (codes "steps") rows)

-- So does what is asked, by the subcommand: how far an answer goes, and which steps, values, slots, runs and tests it is about.
pub record Scopes (rows : List Row) (scope : Scope) : Type 0 where
  pub lines : scope.lines ≡ number_or default_lines (first_of (codes "lines") rows)
  pub addresses : scope.addresses ≡ is_given (first_of (codes "addresses") rows)

pub record Traces (rows : List Row) (a : TraceAsk) : Type 0 where
  pub from : a.from ≡ number_or 1 (first_of (codes "from") rows)
  pub count : a.count ≡ number_or greatest_count (first_of (codes "count") rows)
  pub branches : a.only_branches ≡ is_given (first_of (codes "branches") rows)
  pub profile : a.is_profile ≡ is_given (first_of (codes "profile") rows)
  pub calls : a.is_calls ≡ is_given (first_of (codes "calls") rows)
  pub strict : a.is_strict ≡ is_given (first_of (codes "strict") rows)
  pub json : a.is_json ≡ is_given (first_of (codes "json") rows)

pub record AsksOrigin (rows : List Row) (a : OriginAsk) : Type 0 where
  pub what : option_map (λ s. s.now) a.what ≡ first_of (codes "what") rows
  pub scope : Scopes rows a.scope
  pub branches : a.tells_branches ≡ is_given (first_of (codes "branches") rows)
  pub strict : a.is_strict ≡ is_given (first_of (codes "strict") rows)

pub record AsksWhynot (rows : List Row) (a : WhynotAsk) : Type 0 where
  pub what : option_map (λ s. s.now) a.what ≡ first_of (codes "what") rows
  pub scope : Scopes rows a.scope
  pub alone : a.alone ≡ is_given (first_of (codes "alone") rows)
  pub strict : a.is_strict ≡ is_given (first_of (codes "strict") rows)

abbrev pub side_in : List Row → OtherSide
side_in rows = if is_some (first_of (codes "trace") rows) then side.Trace
    else if is_some (first_of (codes "other-mem") rows) then side.Context else side.Program

pub record AsksDiff (rows : List Row) (a : DiffAsk) : Type 0 where
  pub other : a.other ≡ side_in rows
  pub writes : a.compares_writes ≡ is_given (first_of (codes "writes") rows)
  pub scope : Scopes rows a.scope
  pub alone : a.alone ≡ is_given (first_of (codes "alone") rows)

pub record AsksTests (rows : List Row) (a : TestAsk) : Type 0 where
  pub only : option_map (λ s. s.now) a.only ≡ first_of (codes "only") rows
  pub show : NamesPart (first_of (codes "show") rows) a.show
  pub covers : a.covers ≡ is_given (first_of (codes "cover") rows)
  pub tracefile : a.is_tracefile ≡ is_given (first_of (codes "cover-info") rows)
  pub anywhere : a.anywhere ≡ is_given (first_of (codes "anywhere") rows)

-- Without all of these a script is obeyed as it is.
pub record AsksConversation (rows : List Row) (a : ConversationAsk) : Type 0 where
  pub asks : a.asks ≡ is_given (first_of (codes "questions") rows)
  pub json : a.is_json ≡ is_given (first_of (codes "json") rows)
  pub strict : a.is_strict ≡ is_given (first_of (codes "strict") rows)

abbrev pub asks_nothing : List Row → Bool
asks_nothing rows = not (is_given (first_of (codes "questions") rows)
    || (is_given (first_of (codes "json") rows) || is_given (first_of (codes "strict") rows)))

abbrev pub AreAsked : List Row → Ask → Type 0
AreAsked rows ask.Debug = asks_nothing rows ≡ true
AreAsked rows (ask.Conversation a) = AsksConversation rows a
AreAsked rows (ask.Run strict) = strict ≡ is_given (first_of (codes "strict") rows)
AreAsked rows (ask.Trace a) = Traces rows a
AreAsked rows (ask.Origin a) = AsksOrigin rows a
AreAsked rows (ask.Whynot a) = AsksWhynot rows a
AreAsked rows (ask.Diff a) = AsksDiff rows a
AreAsked rows (ask.Gdb registers) = NamesRegisters (first_of (codes "registers") rows) registers
AreAsked rows (ask.Link joined) = joined ≡ is_given (first_of (codes "relocatable") rows)
AreAsked rows (ask.Test a) = AsksTests rows a
AreAsked rows a = Unit {0}

-- How what is printed is told.
abbrev pub form_in : List Row → Form
form_in rows = if is_given (first_of (codes "json") rows) then form.Json
    else if is_given (first_of (codes "dot") rows) then form.Dot else form.Lines

-- The other file: a script, a trace, a second context or a second program. No subcommand takes two of them but `diff`, and none is given both.
abbrev pub given_or : Option Text → Option Text → Option Text
given_or (Some text) other = Some text
given_or None other = other

abbrev pub other_in : List Row → Option Text
other_in rows = given_or (first_of (codes "script") rows)
    (given_or (first_of (codes "trace") rows) (given_or (first_of (codes "other-mem") rows) (first_of (codes "other") rows)))

-- What an option says each time that it is given: at most so often.
abbrev pub most_texts : ℕ
most_texts = 16

abbrev pub texts_in : Text → List Row → List Text
texts_in id rows = unwrap_or (all_of id rows) []

-- What stands behind an `@` of `--entry` is a number, at most 65,535.
abbrev pub has_offset : Text → Bool
has_offset text = is_some (offset_in text)

abbrev pub entries_fit : List Row → Bool
entries_fit rows = list_all has_offset (texts_in (codes "entry") rows)

-- Programs are called in turn where `--entry` names several, or says of the one where its context lies.
abbrev pub names_one : List Text → Bool
names_one entries = nat_le (length entries) 1 && list_all (λ text. not (has_place text)) entries

abbrev pub turns_in : List Row → List Text
turns_in rows = if names_one (texts_in (codes "entry") rows) then [] else texts_in (codes "entry") rows

-- Something is asked of the link of an object.
abbrev pub asks_of_link : List Row → Bool
asks_of_link rows = is_some (first_of (codes "section") rows) || (is_some (first_of (codes "entry") rows)
    || (is_some (first_of (codes "helper") rows) || (is_given (first_of (codes "as-compiled") rows) || (is_some (first_of (codes "struct") rows)
    || (is_some (first_of (codes "fields") rows) || (is_some (first_of (codes "with") rows) || is_some (first_of (codes "entries") rows)))))))

-- FILE is said to be an object, or that is asked.
abbrev pub is_object : List Row → Bool
is_object rows = is_given (first_of (codes "object") rows) || asks_of_link rows

-- What they say of FILE, and of the program that runs.
pub record Aims (rows : List Row) (target : TargetWords) : Type 0 where
  pub words : target.is_words ≡ is_given (first_of (codes "words") rows)
  pub listing : target.is_listing ≡ is_given (first_of (codes "listing") rows)
  pub object : target.is_object ≡ is_object rows
  pub maps : option_map (λ s. s.now) target.maps ≡ first_of (codes "maps") rows
  pub section : option_map (λ s. s.now) target.section ≡ first_of (codes "section") rows
  pub entry : option_map (λ s. s.now) target.entry ≡ first_of (codes "entry") rows
  pub stubs : option_map (λ s. s.now) target.stubs ≡ first_of (codes "helper") rows
  pub fields : NamesFields (first_of (codes "fields") rows) target.strict_fields
  pub takes : NamesStruct (first_of (codes "struct") rows) target.takes
  pub with : map (λ s. s.now) target.with.items ≡ texts_in (codes "with") rows
  pub few : length (texts_in (codes "with") rows) ≤ most_texts
  pub turns : map (λ s. s.now) target.turns.items ≡ turns_in rows
  pub few_turns : length (turns_in rows) ≤ most_texts
  pub counts : map (λ s. s.now) target.counts.items ≡ texts_in (codes "entries") rows
  pub few_counts : length (texts_in (codes "entries") rows) ≤ most_texts
  pub no_linux : target.no_linux ≡ is_given (first_of (codes "no-linux") rows)
  pub faithful : target.is_faithful ≡ is_given (first_of (codes "faithful") rows)

-- A plan says what they say.
pub record Says (name : Text) (rows : List Row) (plan : Plan) : Type 0 where
  pub subcommand : subcommand_name (subcommand_for plan.ask) ≡ name
  pub ask : AreAsked rows plan.ask
  pub file : first_of (codes "file") rows ≡ Some plan.file.now
  pub memory : option_map (λ s. s.now) plan.memory ≡ first_of (codes "mem") rows
  pub packet : plan.packet ≡ number_in (first_of (codes "packet") rows)
  pub other : option_map (λ s. s.now) plan.other ≡ other_in rows
  pub other_packet : plan.other_packet ≡ number_in (first_of (codes "other-packet") rows)
  pub output : option_map (λ s. s.now) plan.output ≡ first_of (codes "output") rows
  pub target : Aims rows plan.target
  pub options : Chooses rows plan.options
  pub form : plan.form ≡ form_in rows

-- A number that is given is one below 2^64.
abbrev pub IsNumber : Option Text → Type 0
IsNumber None = Unit {0}
IsNumber (Some text) = IsNumeral 10 (without_leading_plus text) × (digits_value 10 (without_leading_plus text) < 2 ^ 64)

-- The numbers that the matches give are in their ranges, and the names are such.
pub record AreInRange (rows : List Row) : Type 0 where
  pub journal : IsNumber (first_of (codes "journal") rows)
  pub steps : IsNumber (first_of (codes "steps") rows)
  pub lines : IsNumber (first_of (codes "lines") rows)
  pub from : IsNumber (first_of (codes "from") rows)
  pub count : IsNumber (first_of (codes "count") rows)
  pub packet : IsNumber (first_of (codes "packet") rows)
  pub other_packet : IsNumber (first_of (codes "other-packet") rows)
  pub limit : IsLimit (number_or default_limit (first_of (codes "steps") rows))
  pub most : IsLimit (number_or default_lines (first_of (codes "lines") rows))
  pub registers : Registers
  pub machine : NamesRegisters (first_of (codes "registers") rows) registers
  pub show : Option TestPart
  pub part : NamesPart (first_of (codes "show") rows) show

-- One other side is named: by a second context, or by a trace; or by a second program.
abbrev pub names_side : List Row → Bool
names_side rows = if is_some (first_of (codes "other-mem") rows)
    then not (is_some (first_of (codes "trace") rows)) else is_some (first_of (codes "trace") rows)

abbrev pub names_other : List Row → Bool
names_other rows = if is_some (first_of (codes "other") rows)
    then not (is_some (first_of (codes "other-mem") rows)) && not (is_some (first_of (codes "trace") rows))
    else names_side rows

-- What two runs leave is compared only where the other side is a run.
abbrev pub writes_fit : List Row → Bool
writes_fit rows = not (is_given (first_of (codes "writes") rows) && is_some (first_of (codes "trace") rows))

-- A packet is one of the capture that its context's option names.
abbrev pub is_of : Text → Text → List Row → Bool
is_of packet path rows = if is_some (first_of packet rows) then is_some (first_of path rows) else true

abbrev pub packets_fit : List Row → Bool
packets_fit rows = is_of (codes "packet") (codes "mem") rows && is_of (codes "other-packet") (codes "other-mem") rows

-- Options go together: FILE is one thing, an object has maps of its own, `diff` is told of one other side, steps that are counted are those of a run
-- that isn't strict, and so is where a script leads, a packet is of a context, programs in turn have numbers, and so have maps, and a part of a test and
-- a tracefile are written as they are, and so is a graph.
abbrev pub may_be_object : List Row → Bool
may_be_object rows = not (is_given (first_of (codes "words") rows))
    && (not (is_given (first_of (codes "listing") rows)) && not (is_some (first_of (codes "maps") rows)))

abbrev pub kinds_fit : List Row → Bool
kinds_fit rows = if is_object rows then may_be_object rows
    else not (is_given (first_of (codes "listing") rows) && is_given (first_of (codes "words") rows))

abbrev pub run_fits : Text → List Row → Bool
run_fits name rows = if bytes_eq name (codes "diff") then names_other rows && (writes_fit rows && kinds_fit rows) else kinds_fit rows

-- Calls are told of a whole run, and in place of all else.
abbrev pub tells_otherwise : List Row → Bool
tells_otherwise rows = is_given (first_of (codes "branches") rows) || (is_given (first_of (codes "profile") rows) || is_given (first_of (codes "strict") rows))

abbrev pub calls_fit : List Row → Bool
calls_fit rows = not (is_given (first_of (codes "calls") rows) && tells_otherwise rows)

abbrev pub counts_strictly : List Row → Bool
counts_strictly rows = is_given (first_of (codes "strict") rows) && is_given (first_of (codes "profile") rows)

abbrev pub obeys_strictly : List Row → Bool
obeys_strictly rows = is_given (first_of (codes "strict") rows) && is_some (first_of (codes "script") rows)

abbrev pub is_strictly_fit : List Row → Bool
is_strictly_fit rows = not (counts_strictly rows) && not (obeys_strictly rows)

abbrev pub shows_json : List Row → Bool
shows_json rows = is_some (first_of (codes "show") rows) && is_given (first_of (codes "json") rows)

abbrev pub is_json_tracefile : List Row → Bool
is_json_tracefile rows = is_given (first_of (codes "cover-info") rows) && is_given (first_of (codes "json") rows)

abbrev pub is_json_graph : List Row → Bool
is_json_graph rows = is_given (first_of (codes "dot") rows) && is_given (first_of (codes "json") rows)

-- `-r` writes the object that something makes of FILE: others that are joined to it, other entries of its maps, or programs in turn. What is asked
-- of the program that would be linked of it doesn't go with it: its struct, its helpers, and where it begins. Fields are left where others are joined.
abbrev pub joins_nothing : List Row → Bool
joins_nothing rows = is_given (first_of (codes "relocatable") rows) && (not (is_some (first_of (codes "with") rows))
    && (not (is_some (first_of (codes "entries") rows)) && names_one (texts_in (codes "entry") rows)))

abbrev pub asks_of_program : List Row → Bool
asks_of_program rows = is_some (first_of (codes "struct") rows) || (is_some (first_of (codes "helper") rows)
    || (is_some (first_of (codes "entry") rows) && names_one (texts_in (codes "entry") rows)))

abbrev pub asks_of_fields : List Row → Bool
asks_of_fields rows = is_some (first_of (codes "fields") rows) && not (is_some (first_of (codes "with") rows))

abbrev pub joins_otherwise : List Row → Bool
joins_otherwise rows = is_given (first_of (codes "relocatable") rows) && (asks_of_program rows || asks_of_fields rows)

abbrev pub object_fits : Text → List Row → Bool
object_fits name rows = not (joins_nothing rows) && (not (joins_otherwise rows) && run_fits name rows)

abbrev pub graph_fits : Text → List Row → Bool
graph_fits name rows = not (is_json_graph rows) && object_fits name rows

abbrev pub told_fits : Text → List Row → Bool
told_fits name rows = not (shows_json rows) && (not (is_json_tracefile rows) && graph_fits name rows)

abbrev pub go_together : Text → List Row → Bool
go_together name rows = entries_fit rows && (are_counts (texts_in (codes "entries") rows)
    && (packets_fit rows && (calls_fit rows && (is_strictly_fit rows && told_fits name rows))))

-- A plan says what a subcommand's matches say, with numbers in their ranges and options that go together.
pub record IsPlanOf (name : Text) (rows : List Row) (plan : Plan) : Type 0 where
  pub says : Says name rows plan
  pub numbers : AreInRange rows
  pub together : go_together name rows ≡ true

-- A plan says what the words say, the program's name first; their options go together, and `clap` finds no fault in these words.
pub record IsPlan (words : List Text) (plan : Plan) : Type 0 where
  pub name : Text
  pub rows : List Row
  pub met : subcommand_of command_app words ≡ Some (name, rows)
  pub says : Says name rows plan
  pub together : go_together name rows ≡ true
  pub clear : fault_of command_app words ≡ []

-- No plan says what the words say.
abbrev pub HasNoPlan : List Text → Type 0
HasNoPlan words = (name : Text) (rows : List Row) (plan : Plan) → subcommand_of command_app words ≡ Some (name, rows) → IsPlanOf name rows plan → ⊥

-- Why words are no plan. What is told of them has a kind that `clap` gives for these words, so help and the version are shown only where they
-- ask for them; or a value is none that its option takes, or options don't go together. Want of memory may come with any words.
abbrev pub IsFaultOf : List Text → PlanFault → Type 0
IsFaultOf words Memory = Unit {0}
IsFaultOf words (Usage fault) = IsAmong (kind_of fault) (fault_of command_app words) ⊎ ((kind_of fault ≡ kind.ValueValidation) × HasNoPlan words)

-- What is told of an error of `clap`: want of memory where it is that, and else the error.
abbrev pub Tells : Error → PlanFault → Type 0
Tells error Memory = kind_of error ≡ kind.OutOfMemory
Tells error (Usage told) = (told ≡ error) × (kind_of error ≡ kind.OutOfMemory → ⊥)

-- A fault that is told, other than want of memory, has this kind.
abbrev pub HasKindIfTold : ErrorKind → PlanFault → Type 0
HasKindIfTold expected Memory = Unit {0}
HasKindIfTold expected (Usage fault) = kind_of fault ≡ expected

-- The exit status of a fault.
abbrev pub status_of_kind : ErrorKind → ℕ
status_of_kind kind.DisplayHelp = 0
status_of_kind kind.DisplayVersion = 0
status_of_kind _ = 2

abbrev pub status_of : PlanFault → ℕ
status_of Memory = 2
status_of (Usage fault) = status_of_kind (kind_of fault)
