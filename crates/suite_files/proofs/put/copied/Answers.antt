use Rattle.std.proofs.Common.{◌∙◌, ℕ, List, subst, sym}
use Rattle.suite_files.proofs.Shelving.{file-at}
use Rattle.suite_files.specs.Shelves.{IsFile}
use Rattle.suite_files.proofs.put.copied.Goals as goal

pub returns-in-Ok-from_slice-clause-ok : goal.returns-in-Ok-from_slice-clause-ok
returns-in-Ok-from_slice-clause-ok g c =
    let bytes_at = g.F.Opener.bytes_at c.args.files.now in
    let file =
    file-at bytes_at c.args.place.now c.args.name.now c.shelve.new.shelf.items c.in-Ok.at c.index.result.now c.in-Ok.ensures.at c.index.ensures in
    subst (λ (bytes : List ℕ). IsFile bytes_at c.args.place.now c.args.name.now bytes) (sym (c.in-Ok-from_slice.ensures.items ∙ c.as_slice.ensures.value))
    file
