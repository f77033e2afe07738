-- The command line as `clap` is told of it: fifteen subcommands, the options of each, and FILE.
use Rattle.std.specs.Prelude.{[], ◌∷◌, Some, true, codes}
use Rattle.clap.specs.Words.{App, Rule, Text, new_app, new_rule, with_rule, with_subcommand}
use Rattle.clap.specs.declared.builder.action.ArgAction.TheVariants.{Append, SetTrue}
use Rattle.clap.specs.declared.builder.value_parser.ValueParser.TheVariants as vp
use Rattle.bpfdb_limits.specs.Limits.{greatest_count}

-- `-m PATH`, `--mem PATH`: a file, whose bytes are the context.
abbrev pub mem_rule : Rule
mem_rule = record (new_rule (codes "mem")) { short = Some 109; long = Some (codes "mem"); value_names = 1 }

-- `--packet N`: the number of a packet of that file, which is a capture.
abbrev pub packet_rule : Rule
packet_rule = record (new_rule (codes "packet")) {
  long = Some (codes "packet");
  value_names = 1;
  parser = Some (vp.Unsigned 1 greatest_count);
}

-- `--maps VxN,VxN`: the map table.
abbrev pub maps_rule : Rule
maps_rule = record (new_rule (codes "maps")) { long = Some (codes "maps"); value_names = 1 }

-- `--regs REG=VALUE,REG=VALUE`: the values of registers at the start.
abbrev pub regs_rule : Rule
regs_rule = record (new_rule (codes "regs")) { long = Some (codes "regs"); value_names = 1 }

-- `--journal J`: a number below 2^64, with a default. That of `gdb`, `origin` and `whynot`, whose histories are longer, is
-- greater.
abbrev pub journal_rule_with : Text → Rule
journal_rule_with default = record (new_rule (codes "journal")) {
  long = Some (codes "journal");
  value_names = 1;
  parser = Some (vp.Unsigned 0 18446744073709551615);
  defaults = default ∷ [];
}

abbrev pub journal_rule : Rule
journal_rule = journal_rule_with (codes "65536")

abbrev pub gdb_journal_rule : Rule
gdb_journal_rule = journal_rule_with (codes "4194304")

-- `--steps N`: a number from 1 to the greatest count.
abbrev pub steps_rule : Rule
steps_rule = record (new_rule (codes "steps")) {
  long = Some (codes "steps");
  value_names = 1;
  parser = Some (vp.Unsigned 1 greatest_count);
  defaults = codes "1000000" ∷ [];
}

-- `--from K`: a number of a step.
abbrev pub from_rule : Rule
from_rule = record (new_rule (codes "from")) {
  long = Some (codes "from");
  value_names = 1;
  parser = Some (vp.Unsigned 1 greatest_count);
  defaults = codes "1" ∷ [];
}

-- `--count N`: how many steps, all where it is absent.
abbrev pub count_rule : Rule
count_rule = record (new_rule (codes "count")) {
  long = Some (codes "count");
  value_names = 1;
  parser = Some (vp.Unsigned 1 greatest_count);
}

-- `--branches`: conditional jumps, of `trace` alone, of `origin` those that decided.
abbrev pub branches_rule : Rule
branches_rule = record (new_rule (codes "branches")) { long = Some (codes "branches"); action = Some SetTrue }

-- `--profile`: how often each instruction runs.
abbrev pub profile_rule : Rule
profile_rule = record (new_rule (codes "profile")) { long = Some (codes "profile"); action = Some SetTrue }

-- `--questions`: lines of a script may ask.
abbrev pub questions_rule : Rule
questions_rule = record (new_rule (codes "questions")) { long = Some (codes "questions"); action = Some SetTrue }

-- `--calls`: the calls that leave FILE's own code.
abbrev pub calls_rule : Rule
calls_rule = record (new_rule (codes "calls")) { long = Some (codes "calls"); action = Some SetTrue }

-- `--strict`: the run stops at a read of the stack where nothing was written.
abbrev pub strict_rule : Rule
strict_rule = record (new_rule (codes "strict")) { long = Some (codes "strict"); action = Some SetTrue }

-- `--words`: FILE is words.
abbrev pub words_rule : Rule
words_rule = record (new_rule (codes "words")) { long = Some (codes "words"); action = Some SetTrue }

-- `--listing`: FILE is a listing.
abbrev pub listing_rule : Rule
listing_rule = record (new_rule (codes "listing")) { long = Some (codes "listing"); action = Some SetTrue }

-- `--object`: FILE is an object.
abbrev pub object_rule : Rule
object_rule = record (new_rule (codes "object")) { long = Some (codes "object"); action = Some SetTrue }

-- `--section NAME`: the code section that is linked.
abbrev pub section_rule : Rule
section_rule = record (new_rule (codes "section")) { long = Some (codes "section"); value_names = 1 }

-- `--entry NAME[@OFFSET]`: the function at which the program begins; or functions that it calls in turn, one each time.
abbrev pub entry_rule : Rule
entry_rule = record (new_rule (codes "entry")) { long = Some (codes "entry"); value_names = 1; action = Some Append }

-- `--entries NAME=N`: how many entries maps have, one each time.
abbrev pub entries_rule : Rule
entries_rule = record (new_rule (codes "entries")) { long = Some (codes "entries"); value_names = 1; action = Some Append }

-- `--helper NAME=VALUE,NAME=VALUE`, which was called `--stub`: the helpers whose calls are answered by a constant.
abbrev pub helper_rule : Rule
helper_rule = record (new_rule (codes "helper")) { long = Some (codes "helper"); aliases = codes "stub" ∷ []; value_names = 1 }

-- `--fields HOW`: whether fields stay where they were compiled; and an older word for that, which asks for nothing any more.
abbrev pub fields_rule : Rule
fields_rule = record (new_rule (codes "fields")) { long = Some (codes "fields"); value_names = 1 }

abbrev pub as_compiled_rule : Rule
as_compiled_rule = record (new_rule (codes "as-compiled")) { long = Some (codes "as-compiled"); action = Some SetTrue }

-- `--struct KIND`: what the entry takes.
abbrev pub struct_rule : Rule
struct_rule = record (new_rule (codes "struct")) { long = Some (codes "struct"); value_names = 1 }

-- `--with OBJECT`: objects with functions that answer calls, one each time.
abbrev pub with_functions_rule : Rule
with_functions_rule = record (new_rule (codes "with")) { long = Some (codes "with"); value_names = 1; action = Some Append }

-- `--no-linux`: Linux's helpers aren't linked by themselves. `--faithful`: those that answer otherwise than Linux's are refused.
abbrev pub no_linux_rule : Rule
no_linux_rule = record (new_rule (codes "no-linux")) { long = Some (codes "no-linux"); action = Some SetTrue }

abbrev pub faithful_rule : Rule
faithful_rule = record (new_rule (codes "faithful")) { long = Some (codes "faithful"); action = Some SetTrue }

-- `-r`, `--relocatable`, which was called `--joined`: the object that would be linked is written.
abbrev pub relocatable_rule : Rule
relocatable_rule = record (new_rule (codes "relocatable")) {
  short = Some 114;
  long = Some (codes "relocatable");
  aliases = codes "joined" ∷ [];
  action = Some SetTrue;
}

-- `-o PATH`, `--output PATH`: a file, which takes what is linked.
abbrev pub output_rule : Rule
output_rule = record (new_rule (codes "output")) { short = Some 111; long = Some (codes "output"); value_names = 1 }

-- `--registers NAME`: the machine that gdb is told of.
abbrev pub registers_rule : Rule
registers_rule = record (new_rule (codes "registers")) { long = Some (codes "registers"); value_names = 1; defaults = codes "x86" ∷ [] }

-- `--script PATH`: a file, whose lines are obeyed first.
abbrev pub script_rule : Rule
script_rule = record (new_rule (codes "script")) { long = Some (codes "script"); value_names = 1 }

-- `--lines N`: a number from 1 to the greatest count.
abbrev pub lines_rule : Rule
lines_rule = record (new_rule (codes "lines")) {
  long = Some (codes "lines");
  value_names = 1;
  parser = Some (vp.Unsigned 1 greatest_count);
  defaults = codes "1000" ∷ [];
}

-- `--addresses`: the registers that make addresses are followed, too.
abbrev pub addresses_rule : Rule
addresses_rule = record (new_rule (codes "addresses")) { long = Some (codes "addresses"); action = Some SetTrue }

-- `--alone`: where the values came from that decided it is left out.
abbrev pub alone_rule : Rule
alone_rule = record (new_rule (codes "alone")) { long = Some (codes "alone"); action = Some SetTrue }

-- `--only NAME`: the tests of this name.
abbrev pub only_rule : Rule
only_rule = record (new_rule (codes "only")) { long = Some (codes "only"); value_names = 1 }

-- `--show PART`: a part of the one test that is asked for.
abbrev pub show_rule : Rule
show_rule = record (new_rule (codes "show")) { long = Some (codes "show"); value_names = 1 }

-- `--other-mem PATH`: a file, whose bytes are the second context.
abbrev pub other_mem_rule : Rule
other_mem_rule = record (new_rule (codes "other-mem")) { long = Some (codes "other-mem"); value_names = 1 }

-- `--other-packet N`: the number of a packet of that one.
abbrev pub other_packet_rule : Rule
other_packet_rule = record (new_rule (codes "other-packet")) {
  long = Some (codes "other-packet");
  value_names = 1;
  parser = Some (vp.Unsigned 1 greatest_count);
}

-- `--trace PATH`: a file, whose lines are the trace of another machine.
abbrev pub other_trace_rule : Rule
other_trace_rule = record (new_rule (codes "trace")) { long = Some (codes "trace"); value_names = 1 }

-- `--writes`: what two runs leave is compared, and not their steps.
abbrev pub writes_rule : Rule
writes_rule = record (new_rule (codes "writes")) { long = Some (codes "writes"); action = Some SetTrue }

-- OTHER, behind FILE: the second program.
abbrev pub other_rule : Rule
other_rule = record (new_rule (codes "other")) { index = Some 2; value_names = 1 }

-- `--cover`: what ran of the programs is told.
abbrev pub cover_rule : Rule
cover_rule = record (new_rule (codes "cover")) { long = Some (codes "cover"); action = Some SetTrue }

-- `--cover-info`: that is told as a tracefile.
abbrev pub cover_info_rule : Rule
cover_info_rule = record (new_rule (codes "cover-info")) { long = Some (codes "cover-info"); action = Some SetTrue }

-- `--anywhere`: files that tests name may lie outside of their folder.
abbrev pub anywhere_rule : Rule
anywhere_rule = record (new_rule (codes "anywhere")) { long = Some (codes "anywhere"); action = Some SetTrue }

-- `--json`: an object of JSON a line.
abbrev pub json_rule : Rule
json_rule = record (new_rule (codes "json")) { long = Some (codes "json"); action = Some SetTrue }

-- `--dot`: an answer as a graph.
abbrev pub dot_rule : Rule
dot_rule = record (new_rule (codes "dot")) { long = Some (codes "dot"); action = Some SetTrue }

-- WHAT, behind FILE: what is asked about.
abbrev pub what_rule : Rule
what_rule = record (new_rule (codes "what")) { index = Some 2; value_names = 1 }

-- WHAT of `whynot`, which needs it.
abbrev pub goal_rule : Rule
goal_rule = record (new_rule (codes "what")) { required = true; index = Some 2; value_names = 1 }

-- FILE, which each subcommand needs but `batch`, for which it is an empty file where it isn't named.
abbrev pub file_rule : Rule
file_rule = record (new_rule (codes "file")) { required = true; value_names = 1 }

abbrev pub shared_file_rule : Rule
shared_file_rule = record (new_rule (codes "file")) { value_names = 1; defaults = codes "/dev/null" ∷ [] }

-- What is asked of the link of an object: where it begins and what it is given, and what it is linked with.
abbrev pub with_entry_rules : App → App
with_entry_rules app = with_rule (with_rule (with_rule (with_rule app section_rule) entry_rule) entries_rule) helper_rule

abbrev pub with_link_rules : App → App
with_link_rules app = with_rule (with_rule (with_rule (with_rule (with_rule (with_rule (with_entry_rules app)
    fields_rule) as_compiled_rule) struct_rule) with_functions_rule) no_linux_rule) faithful_rule

-- What FILE may be said to be: words, a listing, or an object.
abbrev pub with_file_kinds : App → App
with_file_kinds app = with_link_rules (with_rule (with_rule (with_rule app words_rule) listing_rule) object_rule)

-- The subcommands and their options.
abbrev pub run_app : App
run_app = with_rule (with_rule (with_file_kinds (with_rule (with_rule (with_rule (with_rule (with_rule (with_rule (new_app (codes "run"))
    mem_rule) packet_rule) maps_rule) regs_rule) steps_rule) strict_rule)) json_rule) file_rule

abbrev pub trace_app : App
trace_app = with_rule (with_rule (with_file_kinds (with_rule (with_rule (with_rule (with_rule (with_rule (with_rule (with_rule (with_rule (with_rule (with_rule (with_rule (new_app (codes "trace"))
    mem_rule) packet_rule) maps_rule) regs_rule) steps_rule) from_rule) count_rule) branches_rule) profile_rule) calls_rule) strict_rule)) json_rule) file_rule

abbrev pub debug_app : App
debug_app = with_rule (with_rule (with_rule (with_file_kinds (with_rule (with_rule (with_rule (with_rule (with_rule (with_rule (with_rule (new_app (codes "debug"))
    mem_rule) packet_rule) maps_rule) regs_rule) journal_rule) steps_rule) strict_rule)) questions_rule) json_rule) file_rule

abbrev pub asm_app : App
asm_app = with_rule (new_app (codes "asm")) file_rule

abbrev pub disasm_app : App
disasm_app = with_rule (with_rule (with_file_kinds (with_rule (new_app (codes "disasm")) maps_rule)) json_rule) file_rule

abbrev pub lines_app : App
lines_app = with_rule (with_rule (with_link_rules (with_rule (new_app (codes "lines")) object_rule)) json_rule) file_rule

abbrev pub check_app : App
check_app = with_rule (with_rule (with_file_kinds (with_rule (new_app (codes "check")) maps_rule)) json_rule) file_rule

abbrev pub load_app : App
load_app = with_rule (with_rule (with_file_kinds (with_rule (new_app (codes "load")) maps_rule)) json_rule) file_rule

abbrev pub link_app : App
link_app = with_rule (with_rule (with_rule (with_link_rules (new_app (codes "link"))) relocatable_rule) output_rule) file_rule

abbrev pub test_app : App
test_app = with_rule (with_rule (with_rule (with_rule (with_rule (with_rule (with_rule (new_app (codes "test"))
    only_rule) show_rule) cover_rule) cover_info_rule) anywhere_rule) json_rule) file_rule

-- `gdb` opens a session as `debug` does, over a larger journal.
abbrev pub gdb_app : App
gdb_app = with_rule (with_rule (with_file_kinds (with_rule (with_rule (with_rule (with_rule (with_rule (with_rule (new_app (codes "gdb"))
    mem_rule) packet_rule) maps_rule) regs_rule) gdb_journal_rule) steps_rule)) registers_rule) file_rule

-- `origin` runs the program as `debug` does, over that journal, too.
abbrev pub origin_app : App
origin_app = with_rule (with_rule (with_rule (with_rule (with_rule (with_rule (with_rule (with_file_kinds (with_rule (with_rule (with_rule (with_rule (with_rule (with_rule (with_rule (with_rule (new_app (codes "origin"))
    mem_rule) packet_rule) maps_rule) regs_rule) gdb_journal_rule) steps_rule) strict_rule) script_rule)) lines_rule) addresses_rule) branches_rule) json_rule) dot_rule) what_rule) file_rule

-- `whynot` does so, too.
abbrev pub whynot_app : App
whynot_app = with_rule (with_rule (with_rule (with_rule (with_rule (with_rule (with_file_kinds (with_rule (with_rule (with_rule (with_rule (with_rule (with_rule (with_rule (with_rule (new_app (codes "whynot"))
    mem_rule) packet_rule) maps_rule) regs_rule) gdb_journal_rule) steps_rule) strict_rule) script_rule)) lines_rule) addresses_rule) alone_rule) json_rule) goal_rule) file_rule

-- `diff` runs two programs, or one on two contexts or along a trace, as `run` does.
abbrev pub diff_app : App
diff_app = with_rule (with_rule (with_rule (with_rule (with_rule (with_rule (with_file_kinds (with_rule (with_rule (with_rule (with_rule (with_rule (with_rule (with_rule (with_rule (with_rule (with_rule (new_app (codes "diff"))
    mem_rule) packet_rule) other_mem_rule) other_packet_rule) other_trace_rule) maps_rule) regs_rule) gdb_journal_rule) steps_rule) writes_rule)) lines_rule) addresses_rule) alone_rule) json_rule) other_rule) file_rule

-- `batch` runs cases as `run` does.
abbrev pub batch_app : App
batch_app = with_rule (with_rule (with_rule (new_app (codes "batch")) maps_rule) steps_rule) shared_file_rule

-- The command without its subcommands: it can't stand without one, and it tells its version.
abbrev pub bare_app : App
bare_app = record (new_app (codes "bpfdb")) { top = record (new_app (codes "bpfdb")).top { subcommand_required = true; has_version = true } }

-- A command with the subcommands: those that run a program, those that ask about a run, with the server, and those of files.
unfoldable pub with_runs : App → App
with_runs app = with_subcommand (with_subcommand (with_subcommand app run_app.top) trace_app.top) debug_app.top

unfoldable pub with_questions : App → App
with_questions app = with_subcommand (with_subcommand (with_subcommand (with_subcommand app origin_app.top) whynot_app.top) diff_app.top) gdb_app.top

unfoldable pub with_files : App → App
with_files app = with_subcommand (with_subcommand (with_subcommand (with_subcommand (with_subcommand (with_subcommand (with_subcommand (with_subcommand app
    asm_app.top) disasm_app.top) lines_app.top) check_app.top) load_app.top) link_app.top) test_app.top) batch_app.top

abbrev pub with_subcommands : App → App
with_subcommands app = with_files (with_questions (with_runs app))

unfoldable pub command_app : App
command_app = with_subcommands bare_app
