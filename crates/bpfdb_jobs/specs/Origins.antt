-- What `origin` is asked, and what it answers: over the history that the journal keeps of a run to the program's end or to the limit of steps,
-- or to the read that stops a strict one, or of the session of a script.
use Rattle.std.specs.Prelude.{ℕ, ◌≡◌, ◌==◌, Bool, true, false, List, [], ◌∷◌, ◌++◌, Option, Some, None, Result, Ok, Err, if◌then◌else◌, codes, length}
use Rattle.std.specs.Borrow.{Bor}
use Rattle.bpf_whynot.specs.Branches.{AreBranches}
use Rattle.bpf_journal.specs.Histories.{Record}
use Rattle.bpf_journal.specs.Runs.{history_after}
use Rattle.bpf_steps.specs.State.{State}
use Rattle.bpf_origin.specs.Answers.{Answer}
use Rattle.bpf_machine.specs.declared.moves.Move.TheVariants as move
use Rattle.bpf_entries.specs.Status.{has_ended}
use Rattle.bpf_origin.specs.Asked.{answer_about, parts_asked, what_in}
use Rattle.bpf_origin.specs.Reads.{followed}
use Rattle.bpf_origin.specs.declared.fault.WhatFault.{WhatFault}
use Rattle.bpf_origin.specs.declared.place.Part.{Part}
use Rattle.bpf_origin.specs.declared.question.Extent.{Extent}
use Rattle.bpf_origin.specs.declared.question.Extent.TheVariants.{Whole}
use Rattle.bpf_origin.specs.declared.question.Question.{Question}
use Rattle.bpf_origin.specs.declared.what.What.{What}
use Rattle.bpf_link.specs.Names.{fault_names}
use Rattle.bpf_link.specs.declared.fault.LinkFault.{LinkFault}
use Rattle.bpf_load.specs.Targets.{object_of}
use Rattle.bpf_load.specs.declared.loading.LinkedObject.{LinkedObject}
use Rattle.bpf_lines.specs.NamedMaps.{AreNames, IsNamesRefusal}
use Rattle.bpf_lines.specs.NamedTexts.{named_text}
use Rattle.bpf_lines.specs.declared.place_names.Names.{Names}
use Rattle.bpf_packet.specs.declared.packet.Packet.{Packet}
use Rattle.bpf_remote.specs.Moves.{moves_after}
use Rattle.bpf_session.specs.Meaning.{does}
use Rattle.bpf_session.specs.Outcomes.{Outcome}
use Rattle.bpf_session.specs.Output.{is_quit}
use Rattle.bpf_session.specs.Plain.{plain_end, plain_steps}
use Rattle.bpf_session.specs.Points.{Bounds, Point, opening}
use Rattle.bpfdb_script.specs.Commands.{command_of}
use Rattle.bpfdb_script.specs.Commands as commands
use Rattle.bpfdb_script.specs.declared.command.Command.{Command}
use Rattle.bpfdb_script.specs.declared.refusal.Refusal.{Refusal}
use Rattle.bpfdb_options.specs.declared.ask.Scope.{Scope}
use Rattle.bpfdb_options.specs.declared.options.Options.{Options}
use Rattle.bpf_trace.specs.Traces.{standing}
use Rattle.bpf_trace.specs.UnwrittenTexts.{unwritten_line}
use Rattle.bpf_trace.specs.declared.strict_run.Unwritten.{Unwritten}
use Rattle.counted_io.specs.Lines.{lines}
use Rattle.bpfdb_script.specs.SlotTexts.{SlotTexts}

-- What a text asks of a state, where there is one; why that is refused.
abbrev pub Asks : Option (Bor (List ℕ)) → State → Option What → Type 0
Asks None x what = what ≡ None
Asks (Some text) x None = ⊥
Asks (Some text) x (Some what) = what_in x text.now ≡ Ok what

abbrev pub RefusesWhat : Option (Bor (List ℕ)) → State → WhatFault → Type 0
RefusesWhat None x fault = ⊥
RefusesWhat (Some text) x fault = what_in x text.now ≡ Err fault

-- Where it is asked: a point, and how many moves lie before it, from the opening on: those that are kept, and those that the journal dropped.
pub record Arrival : Type 0 where
  pub point : Point
  pub moves : ℕ

-- The history of a run from x: of its steps the newest, as many as the journal has room for.
abbrev pub run_history : Options → State → List Record
run_history options x = history_after options.journal (plain_steps options.limit x) x []

-- The end of that run.
abbrev pub run_arrival : Options → State → Arrival
run_arrival options x = record {
  point = record (opening (plain_end options.limit x)) { history = run_history options x };
  moves = plain_steps options.limit x;
}

-- A script is obeyed line by line, and each move is kept: a line without words does nothing, `quit` ends it, and so does a refusal, which is the
-- answer. `on` is what the lines behind come to.
abbrev pub obeyed_by : Command → Outcome → ℕ → (Arrival → Result Arrival Refusal) → Result Arrival Refusal
obeyed_by command o moves on = elim o.answer [
  | Ok reply ↦ on (record { point = o.point; moves = moves_after (Ok reply) command moves })
  | Err refusal ↦ Err refusal
]

abbrev pub obeyed_line : Bounds → commands.Answer → Arrival → (Arrival → Result Arrival Refusal) → Result Arrival Refusal
obeyed_line b (Ok None) a on = on a
obeyed_line b (Err refusal) a on = Err refusal
obeyed_line b (Ok (Some command)) a on = if is_quit command then Ok a else obeyed_by command (does None b command a.point) a.moves on

abbrev pub obeyed : Bounds → List (List ℕ) → Arrival → Result Arrival Refusal
obeyed b [] a = Ok a
obeyed b (line ∷ lines) a = obeyed_line b (command_of line) a (obeyed b lines)

-- Where it is asked of a job's opening: where the session of its script stands behind that, or else at the run's end.
abbrev pub bounds : Options → Bounds
bounds options = record { limit = options.limit; room = options.journal }

abbrev pub arrival : Option (Bor (List ℕ)) → Options → State → Result Arrival Refusal
arrival None options x = Ok (run_arrival options x)
arrival (Some script) options x = obeyed (bounds options) (lines script.now) (record { point = opening x; moves = 0 })

-- A strict run ends before the read that stops it: as many steps as come before that are its limit. No script is obeyed so.
abbrev pub strictly : Option (Bor (List ℕ)) → Bool → Bool
strictly None strict = strict
strictly (Some script) strict = false

abbrev pub steps_to : Option Unwritten → ℕ → ℕ
steps_to None limit = limit
steps_to (Some read) limit = read.steps

abbrev pub within : Option Unwritten → Options → Options
within read options = record options { limit = steps_to read options.limit }

-- Before that read it is asked, where nothing is named, about what its instruction reads.
abbrev pub parts_read : Bool → State → List Part
parts_read true x = parts_asked x None
parts_read false x = followed false x move.Step

abbrev pub parts_for : Option What → Option Unwritten → State → List Part
parts_for (Some what) read x = parts_asked x (Some what)
parts_for None None x = parts_asked x None
parts_for None (Some read) x = parts_read (has_ended x.status) x

-- How it is asked, with what is told of slots. The oldest kept state is the opening where the journal has each move.
abbrev pub question_by : SlotTexts → Scope → Arrival → Question
question_by places scope a = record {
  addresses = scope.addresses;
  lines = scope.lines;
  opening = length a.point.history == a.moves;
  places = places;
}

-- The answer there.
abbrev pub answer_by : SlotTexts → Scope → List Part → Arrival → Answer
answer_by places scope parts a = answer_about (question_by places scope a) parts a.point.history a.point.state

-- What stands behind that: with `--branches` those branches that decided that the moves were made which the answer about these parts tells, and that the
-- program came there; else nothing.
abbrev pub IsTail : Bool → Question → List Part → Point → Answer → Type 0
IsTail true q parts point tail = AreBranches q parts point.history point.state tail
IsTail false q parts point tail = tail ≡ record { text = []; extent = Whole }

-- Two answers, one behind the other, and how far both go.
abbrev pub both_extents : Extent → Extent → Extent
both_extents Whole second = second
both_extents first second = first

abbrev pub followed_by : Answer → Answer → Answer
followed_by first second = record { text = first.text ++ second.text; extent = both_extents first.extent second.extent }

-- What is written of it: the line of the read that stopped a strict run, if there is one; where the machine stands, with what is told of its slot; and the
-- answer.
abbrev pub stop_line : SlotTexts → Option Unwritten → List ℕ
stop_line places None = []
stop_line places (Some read) = unwritten_line places read

abbrev pub found_text : List ℕ → SlotTexts → State → Answer → List ℕ
found_text stop places end answer = stop ++ standing places end ++ codes "\n" ++ answer.text

-- The names in the maps of a program that was linked; they stand in it where they are known.
abbrev pub AreNamesOf : Option LinkedObject → List ℕ → Option Packet → Option Names → Type 0
AreNamesOf None section packet names = names ≡ None
AreNamesOf (Some linked) section packet None = ⊥
AreNamesOf (Some linked) section packet (Some names) =
    AreNames (object_of linked.sources) section linked.program.maps linked.program.shapes.items linked.program.names.items packet names

abbrev pub named_by : Option Names → List ℕ → List ℕ
named_by None text = text
named_by (Some names) text = named_text names text

-- Why nothing is known of them, with the names that are told then.
abbrev pub LacksNames : Option LinkedObject → List ℕ → LinkFault → Type 0
LacksNames None section fault = ⊥
LacksNames (Some linked) section fault = IsNamesRefusal (object_of linked.sources) section fault

abbrev pub bytes_of : Option LinkedObject → List ℕ
bytes_of None = []
bytes_of (Some linked) = object_of linked.sources

abbrev pub RefusesNames : Option LinkedObject → List ℕ → LinkFault → List ℕ → Type 0
RefusesNames object section fault name = (name ≡ fault_names (bytes_of object) section fault) × LacksNames object section fault

-- The exit status: 1 where the answer is cut.
abbrev pub status_of_extent : Extent → ℕ
status_of_extent Whole = 0
status_of_extent _ = 1
