use Rattle.std.proofs.Common.{◌∙◌, sym}
use Rattle.suite_files.proofs.Shelving.{shelf-known, shelved-at}
use Rattle.suite_files.proofs.shelf.shelve.Goals as goal

pub returns-in-Some-clause-at : goal.returns-in-Some-clause-at
returns-in-Some-clause-at g c =
    let found = rw c.as_slice.ensures.value at c.in-Some.ensures.some in
    let path = c.as_slice-2.ensures.value ∙ c.in-Ok.ensures in
    shelved-at (g.F.Opener.bytes_at c.args.files.now) c.args.place.now c.args.name.now c.args.shelf.now.items c.in-Some.at c.requires
    (sym c.if-not-is_allowed.ensures) found.0 (λ d. found.1 d ∙ path)

pub returns-in-Some-clause-shelf : goal.returns-in-Some-clause-shelf
returns-in-Some-clause-shelf g c =
    let found = rw c.as_slice.ensures.value at c.in-Some.ensures.some in
    let path = c.as_slice-2.ensures.value ∙ c.in-Ok.ensures in
    shelf-known (g.F.Opener.bytes_at c.args.files.now) c.args.shelf.now.items _ c.in-Some.at c.requires found.0 (λ d. found.1 d ∙ path)
