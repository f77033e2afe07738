use Rattle.std.proofs.Common.{◌≡◌, false, take}
use Rattle.suite_files.specs.Shelves.{is_among, paths_on}
use Rattle.suite_files.proofs.shelf.place_of.Given as goal

abbrev pub invariant-loop-at : goal.invariant-loop-at
invariant-loop-at l = is_among l.path (paths_on (take l.at l.shelf)) ≡ false
