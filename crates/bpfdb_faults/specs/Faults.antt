-- Why a job isn't done, as a line on standard error. bpfdb's own choice.
use Rattle.std.specs.Prelude.{ℕ, ◌+◌, ◌==◌, min, Bool, false, List, [], ◌∷◌, ◌++◌, Option, Some, None, codes, decimal, get_or, length, if◌then◌else◌}
use Rattle.bpf_link.specs.Faults.{link_fault}
use Rattle.bpf_link.specs.Helpers.{helper_name}
use Rattle.bpf_link.specs.Names.{built}
use Rattle.bpf_link.specs.declared.fault.LinkFault.{LinkFault}
use Rattle.bpf_link.specs.declared.fault.LinkFault.TheVariants as linking
use Rattle.bpf_link.specs.declared.sources.Source.{Source}
use Rattle.bpf_suite.specs.Faults.{section_fault}
use Rattle.bpf_suite.specs.Refusals.{refusal_text, slot_of, text_of_refusal}
use Rattle.bpf_suite.specs.declared.refusal.Refusal.TheVariants as program
use Rattle.bpf_ring.specs.Opening.{journal_fault}
use Rattle.bpf_opening.specs.Faults.{opening_fault}
use Rattle.bpf_origin.specs.Asked.{what_fault}
use Rattle.bpf_whynot.specs.Asked.{goal_fault}
use Rattle.bpfdb_script.specs.Refusals as commands
use Rattle.bpfdb_script.specs.Shown.{shown}
use Rattle.input_texts.specs.TraceFaults.{line_fault}
use Rattle.bpfdb_faults.specs.declared.fault.JobFault.{JobFault}
use Rattle.bpfdb_faults.specs.declared.fault.JobFault.TheVariants.{Unreadable, Unwritable, NotText, Refused, Input, Output, Memory}
use Rattle.bpfdb_faults.specs.declared.kind.KindFault.{KindFault}
use Rattle.bpfdb_faults.specs.declared.kind.KindFault.TheVariants as kind
use Rattle.bpfdb_faults.specs.declared.refusal.JobRefusal.{JobRefusal}
use Rattle.bpf_lines.specs.DebugInfos.{no_place_line}
use Rattle.bpfdb_faults.specs.declared.refusal.JobRefusal.TheVariants.{Kind, Maps, Listing, Load, Opening, Open, OtherRun, OtherObject, OtherMap, TraceLine, Journal, What, Object, Functions, Tests, NoTest, ManyTests, Script, Goal, NoPlace}

-- The line of a refusal: a letter and a number, its line if it has one, and a text.
abbrev pub refused_line : List ℕ → ℕ → Option ℕ → List ℕ → List ℕ
refused_line family number line text = text_of_refusal family number (codes " at line ") line text ++ codes "\n"

-- What a file is doesn't go together with what is asked.
abbrev pub kind_fault : KindFault → ℕ × List ℕ
kind_fault kind.Maps = (1, codes "an object has maps of its own: leave --maps out")
kind_fault kind.Programs = (2, codes "one of FILE and OTHER is an object, and the other is none")
kind_fault kind.Unfaithful = (4, codes "what it calls answers otherwise than in Linux: leave --faithful out")

-- A helper: its number, and its name in the kernel, if it has one.
abbrev pub label_text : ℕ → List ℕ → List ℕ
label_text helper [] = decimal helper
label_text helper (byte ∷ bytes) = decimal helper ++ codes " (bpf_" ++ (byte ∷ bytes) ++ codes ")"

-- The options that answer it: functions are found by names.
abbrev pub answer_text : ℕ → List ℕ → List ℕ
answer_text helper [] = codes ": --helper " ++ decimal helper ++ codes "=VALUE answers it"
answer_text helper (byte ∷ bytes) = codes ": --with OBJECT or --helper " ++ decimal helper ++ codes "=VALUE answers it"

-- Those that there aren't, besides the first one, by their numbers.
abbrev pub other_text : Bool → ℕ → List ℕ
other_text is_other helper = if is_other then codes ", " ++ label_text helper (helper_name helper) else []

abbrev pub with_other : List Bool → ℕ → List ℕ → List ℕ
with_other others helper text = text ++ other_text (get_or others helper false) helper

abbrev pub others_text : List Bool → List ℕ
others_text others = built (with_other others) (length others)

-- What stands behind the text of an object's fault: of a call of a helper that there isn't this helper, all others that there aren't, and what answers it.
abbrev pub helpers_text : ℕ → List Bool → List ℕ
helpers_text helper others =
    codes " " ++ label_text helper (helper_name helper) ++ others_text others ++ answer_text helper (helper_name helper)

-- Of an entry that takes the kernel's own struct it is what gives it one of the machine's.
abbrev pub hint_of : LinkFault → List ℕ
hint_of (linking.Context at) = codes ": --struct, in tests -- struct, gives it one of the machine's"
hint_of fault = []

-- Of relocations of fields it is how many there are, and the option that leaves them; else the option that chooses a function.
abbrev pub more_of : LinkFault → List ℕ
more_of (linking.Helper slot helper source others) = helpers_text helper others
more_of (linking.Fields count slot at) = codes ", " ++ decimal count ++ codes " in all: --fields compiled leaves them undone"
more_of linking.ManySections = codes ": --entry NAME chooses one"
more_of linking.ManyPrograms = codes ": --entry NAME chooses one"
more_of fault = []

-- The slot of an object's fault, where the words that are linked have one, or a relocation.
abbrev pub slot_of_words : LinkFault → Option ℕ
slot_of_words (linking.Symbol slot) = Some slot
slot_of_words (linking.Relocation fault slot at) = Some slot
slot_of_words (linking.Undefined slot count places) = Some slot
slot_of_words (linking.Program fault source) = slot_of fault
slot_of_words (linking.Helper slot helper source others) = Some slot
slot_of_words (linking.Fields count slot at) = Some slot
slot_of_words (linking.Packet fault slot source) = Some slot
slot_of_words fault = None

-- The name of what is wrong with an object, or those of what there is.
abbrev pub name_text : List ℕ → List ℕ
name_text [] = []
name_text (byte ∷ bytes) = codes ": " ++ shown (byte ∷ bytes)

-- Behind the name of a section the slot of it from which that of the words comes.
abbrev pub source_text : Option Source → List ℕ
source_text (Some source) = codes ", slot " ++ decimal source.slot
source_text None = []

abbrev pub origin_text : LinkFault → List ℕ
origin_text (linking.Program fault source) = source_text source
origin_text (linking.Helper slot helper source others) = source_text source
origin_text (linking.Packet fault slot source) = source_text source
origin_text fault = []

abbrev pub object_text : LinkFault → List ℕ → List ℕ
object_text fault name =
    text_of_refusal (codes "refused E") (link_fault fault).0 (codes " at slot ") (slot_of_words fault) (link_fault fault).1
    ++ more_of fault ++ hint_of fault ++ name_text name ++ origin_text fault

-- A name that no test has.
abbrev pub no_test_line : List ℕ → List ℕ
no_test_line name = codes "refused T7: no test of this name" ++ name_text name ++ codes "\n"

-- The line of a refusal that a session looks at.
abbrev pub session_line : JobRefusal → List ℕ
session_line (Maps fault) = refusal_text (program.Maps fault) ++ codes "\n"
session_line (Listing fault) = refusal_text (program.Listing fault) ++ codes "\n"
session_line (Load fault) = refusal_text (program.Load fault) ++ codes "\n"
session_line (Opening fault) = refused_line (codes "refused O") (opening_fault fault).0 None (opening_fault fault).1
session_line (Open fault) = refusal_text (program.Open fault) ++ codes "\n"
session_line (Journal fault) = refused_line (codes "refused J") (journal_fault fault).0 None (journal_fault fault).1
session_line refusal = []

-- Which object of `--with` it is, where it isn't the first one.
abbrev pub functions_end : ℕ → List ℕ
functions_end before =
    if before == 0 then codes " (--with)\n"
    else (codes " (--with, object " ++ decimal (min (before + 1) 18446744073709551615) ++ codes ")\n")

-- A map of one program isn't that of its number in the other.
abbrev pub other_map_line : ℕ → List ℕ
other_map_line number = codes "refused F3: map " ++ decimal number ++ codes " is another one in OTHER\n"

-- The line of each refusal.
abbrev pub refusal_line : JobRefusal → List ℕ
refusal_line (Kind fault) = refused_line (codes "refused F") (kind_fault fault).0 None (kind_fault fault).1
refusal_line (OtherRun refusal) = refusal_text refusal ++ codes " (the other run)\n"
refusal_line (OtherObject fault name) = object_text fault name.now ++ codes " (the other run)\n"
refusal_line (OtherMap number) = other_map_line number
refusal_line (TraceLine fault line) = refused_line (codes "refused X") (line_fault fault).0 (Some line) (line_fault fault).1
refusal_line (Script refusal) = commands.refusal_text refusal
refusal_line (What fault) = refused_line (codes "refused V") (what_fault fault).0 None (what_fault fault).1
refusal_line (Goal fault) = refused_line (codes "refused V") (goal_fault fault).0 None (goal_fault fault).1
refusal_line (NoPlace name) = no_place_line name.now
refusal_line (Object fault name) = object_text fault name.now ++ codes "\n"
refusal_line (Functions fault before name) = object_text fault name.now ++ functions_end before
refusal_line (Tests fault line) = refused_line (codes "refused T") (section_fault fault).0 (Some line) (section_fault fault).1
refusal_line (NoTest name) = no_test_line name.now
refusal_line ManyTests = codes "refused T8: more than one test is asked for\n"
refusal_line refusal = session_line refusal

-- A file that can't be read, or written.
abbrev pub file_line : List ℕ → List ℕ → List ℕ
file_line words name = words ++ shown name ++ codes "\n"

-- A read of standard input that failed, and a write of standard output.
abbrev pub input_line : List ℕ
input_line = codes "cannot read input\n"

abbrev pub output_line : List ℕ
output_line = codes "cannot write output\n"

-- The line of each fault.
abbrev pub line_of : JobFault → List ℕ
line_of (Unreadable name) = file_line (codes "cannot read ") name.now
line_of (Unwritable name) = file_line (codes "cannot write ") name.now
line_of NotText = codes "the command line is not UTF-8 text\n"
line_of (Refused refusal) = refusal_line refusal
line_of Input = input_line
line_of Output = output_line
line_of Memory = codes "out of memory\n"
