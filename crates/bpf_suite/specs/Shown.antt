-- The parts of a test as files, for the debugger and for tools of others; and words as a shell takes them. bpfdb's own choice.
use Rattle.std.specs.Prelude.{ℕ, ◌≡◌, slice_range, ⊤, true, ◌==◌, if◌then◌else◌, List, [], ◌∷◌, ◌++◌, codes, decimal, flat_map, Option, Some, None}
use Rattle.bstr.specs.Utf8.{pieces, spans_from}
use Rattle.hex.specs.Hex.{encode_lower}
use Rattle.bpfdb_script.specs.Shown.{steers}
use Rattle.bpf_text.specs.Listing.{IsFaultOf}
use Rattle.bpf_suite.specs.Tests.{cells, has_listing, limit, maps, program, regs}
use Rattle.bpf_suite.specs.declared.cells.Cell.{Cell}
use Rattle.bpf_suite.specs.declared.regs.RegLine.{RegLine}
use Rattle.bpf_suite.specs.declared.section.Section.{Section}
use Rattle.bpf_suite.specs.declared.shown.WordsFault.{WordsFault}
use Rattle.bpf_suite.specs.declared.shown.WordsFault.TheVariants.{Listing, Memory}

-- Why a test has no words: its listing isn't one, or memory ran out.
abbrev pub IsWordsFault : List Section → WordsFault → Type 0
IsWordsFault test (Listing fault) = (has_listing test ≡ true) × IsFaultOf (program test) fault
IsWordsFault test Memory = ⊤

-- The options that a test's program needs, one a line: its maps, if there are any, and its limit of steps.
abbrev pub maps_option : Option (List ℕ) → List ℕ
maps_option None = []
maps_option (Some text) = codes "--maps=" ++ text ++ codes "\n"

unfoldable pub options_text : List Section → List ℕ
options_text test = maps_option (maps test) ++ codes "--steps=" ++ decimal (limit test) ++ codes "\n"

-- The commands of the debugger that lead to where it ends: its cells and registers get their values, and it goes on.
unfoldable pub cell_command : Cell → List ℕ
cell_command cell = codes "set cell " ++ decimal cell.map ++ codes " " ++ decimal cell.index ++ codes " " ++ encode_lower cell.value ++ codes "\n"

unfoldable pub reg_command : RegLine → List ℕ
reg_command line = codes "set reg r" ++ decimal line.register ++ codes " " ++ decimal line.value ++ codes "\n"

abbrev pub script_text : List Section → List ℕ
script_text test = flat_map cell_command (cells test) ++ flat_map reg_command (regs test) ++ codes "continue\n"

-- A word between single quotes (39), as a shell takes it. One in it is spelled '\'', and a character that steers a terminal is a question
-- mark (63).
abbrev pub quoted_as : ℕ → List ℕ → List ℕ
quoted_as c bytes = if c == 39 then 39 ∷ 92 ∷ 39 ∷ 39 ∷ [] else if steers c then 63 ∷ [] else bytes

abbrev pub quoted_char : List ℕ → ℕ × ℕ × ℕ → List ℕ
quoted_char word s = quoted_as s.2 (slice_range word s.0 s.1)

unfoldable pub quoted : List ℕ → List ℕ
quoted word = codes "'" ++ flat_map (quoted_char word) (spans_from 0 (pieces word)) ++ codes "'"
