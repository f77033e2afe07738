use Rattle.bpf_load.specs.Targets.{contents}
use Rattle.suite_files.specs.Replaced.{ReadFirst}
use Rattle.suite_files.specs.Shelves.{IsShelf, paths_on, with_names}
use Rattle.suite_files.proofs.put.others_of.Given as goal

abbrev pub invariant-loop-k : goal.invariant-loop-k
invariant-loop-k g l = record {
  first : ReadFirst (g.F.Opener.bytes_at l.files) l.place l.asked.with.items l.k (contents l.all.items);
  shelf : IsShelf (g.F.Opener.bytes_at l.files) (with_names l.place (paths_on l.fn.shelf.items) l.asked.with.items l.k) l.shelf.items;
}
