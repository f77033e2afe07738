use Rattle.std.proofs.Common.{ℕ, List, subst, sym}
use Rattle.suite_files.proofs.Shelving.{file-in}
use Rattle.suite_files.specs.Shelves.{IsFile}
use Rattle.suite_files.proofs.put.put_memory.Goals as goal

pub returns-in-Ok-memory_put-clause-ok : goal.returns-in-Ok-memory_put-clause-ok
returns-in-Ok-memory_put-clause-ok g c =
    let bytes_at = g.F.Opener.bytes_at c.args.files.now in
    let file =
    file-in bytes_at c.args.place.now c.value_of-name.result.now c.shelve.new.shelf.items c.in-Ok.at c.index.result.now c.as_slice.result.now
    c.in-Ok.ensures.at c.index.ensures c.as_slice.ensures.value in
    record {
      empty = sym c.if-not-is_empty.ensures;
      bytes = c.as_slice.result.now;
      file = subst (λ (name : List ℕ). IsFile bytes_at c.args.place.now name c.as_slice.result.now) c.value_of-name.ensures file;
      is_put = c.in-Ok-memory_put.ensures;
    }
