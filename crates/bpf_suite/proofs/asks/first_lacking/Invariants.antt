use Rattle.std.proofs.Common.{◌≡◌, List}
use Rattle.bpf_suite.specs.Asks.{AreAsked, first_from, lacking_below}
use Rattle.bpf_suite.specs.declared.cells.CellLine.{CellLine}
use Rattle.bpf_suite.proofs.asks.first_lacking.Given as goal

abbrev pub invariant-loop-map : goal.invariant-loop-map
invariant-loop-map l = (lines : List CellLine) → AreAsked lines l.asks → l.first ≡ first_from (lacking_below l.maps l.map) 0 lines
