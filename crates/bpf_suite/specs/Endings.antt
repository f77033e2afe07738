-- What is wrong of cells where a program has ended: it depends on the shapes of its maps and on the bytes that they hold, and on nothing else.
use Rattle.std.specs.Prelude.{◌≡◌, ⊤, List, Option, Some, None, Ok}
use Rattle.bpf_steps.specs.State.{IsState, State}
use Rattle.bpf_suite.specs.Images.{map_bytes}
use Rattle.bpf_suite.specs.Reports.{AreTold}
use Rattle.bpf_suite.specs.Verdicts.{wrong_lines}
use Rattle.bpf_suite.specs.declared.cells.CellLine.{CellLine}
use Rattle.bpf_suite.specs.declared.ending.Ending.{Ending}

-- Wherever maps of these shapes hold these bytes, these of the lines don't hold.
abbrev pub IsEnding : List CellLine → Ending → Type 0
IsEnding lines ending =
    (x : State) → IsState x → x.program.maps ≡ ending.shapes.items → map_bytes x ≡ ending.bytes.items → AreTold (wrong_lines lines (Ok x)) ending.wrong

abbrev pub HasEnding : List CellLine → Option Ending → Type 0
HasEnding lines None = ⊤
HasEnding lines (Some ending) = IsEnding lines ending
