use Rattle.suite_files.specs.Desks.{HasPaths}
use Rattle.suite_files.specs.Replaced.{ReplacesFirst, paths_first}
use Rattle.suite_files.proofs.file.with_pieces.Given as goal

abbrev pub invariant-loop-k : goal.invariant-loop-k
invariant-loop-k g l = record {
  first : ReplacesFirst (g.F.Opener.bytes_at l.files) l.place l.pieces l.fn.begun.items l.k l.text.items;
  desk : HasPaths (g.F.Opener.bytes_at l.files) l.place (paths_first l.place l.pieces l.k) l.desk;
}
