use Rattle.std.proofs.Common.{◌∙◌, ap, subst, sym}
use Rattle.suite_files.proofs.Desking.{desk-again, on-all}
use Rattle.suite_files.specs.Desks.{IsDone}
use Rattle.suite_files.specs.Shelves.{paths_on}
use Rattle.suite_files.specs.declared.file.Done.{Done}
use Rattle.input_texts.specs.declared.piece.Piece.{Piece}
use Rattle.suite_files.proofs.file.with_piece.Goals as goal

pub returns-in-Some-clause-desk : goal.returns-in-Some-clause-desk
returns-in-Some-clause-desk g c =
    let bytes_at = g.F.Opener.bytes_at c.args.files.now in
    let place = c.args.place.now in
    let desk = c.args.desk.now in
    let one = c.index.result.now in
    let found = rw c.as_slice.ensures.value at c.in-Some.ensures in
    let known =
    subst (λ (done : Done). IsDone bytes_at place (paths_on desk.shelf.items) done) (sym c.index.ensures) (c.requires.done c.in-Some.at one found.0) in
    let same = ap (λ (done : Done). done.piece.now) c.index.ensures ∙ found.1 one ∙ ap (λ (piece : Piece). piece.text) c.piece.view_is in
    on-all c.with_put.result (desk-again bytes_at place desk one c.args.piece.now.text c.requires known same)
