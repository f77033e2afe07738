use Rattle.std.proofs.Common.{ℕ, List, subst, sym}
use Rattle.std.proofs.lemmas.List.Elements.{All-push}
use Rattle.std.specs.List.{All}
use Rattle.suite_files.proofs.Desking.{all-later, done-now}
use Rattle.suite_files.proofs.Faulting.{long-piece}
use Rattle.suite_files.specs.Desks.{IsDone}
use Rattle.suite_files.specs.Replaced.{IsPut, with_piece}
use Rattle.suite_files.specs.Shelves.{IsShelf, paths_on}
use Rattle.suite_files.specs.declared.file.Done.{Done}
use Rattle.suite_files.proofs.file.with_new.Goals as goal

pub returns-in-Err-with_put-clause-err : goal.returns-in-Err-with_put-clause-err
returns-in-Err-with_put-clause-err g c =
    let bytes_at = g.F.Opener.bytes_at c.args.files.now in
    let put = subst (λ (bytes : List ℕ). IsPut bytes_at c.args.place.now bytes c.in-Ok.put.items) c.text_of-bytes.ensures c.in-Ok.ensures.ok in
    long-piece bytes_at c.args.place.now (paths_on c.args.desk.now.shelf.items) c.args.text.items c.args.piece.now c.in-Ok.put.items put
    c.line_of-line.result c.as_slice.result.now c.in-Err-with_put.fault c.line_of-line.ensures c.as_slice.ensures.value c.in-Err-with_put.ensures.err

pub returns-then-not-is-clause-desk : goal.returns-then-not-is-clause-desk
returns-then-not-is-clause-desk g c =
    let bytes_at = g.F.Opener.bytes_at c.args.files.now in
    let place = c.args.place.now in
    let paths = paths_on c.args.desk.now.shelf.items in
    let all = c.put_piece.new.shelf.items in
    let shelf = subst (λ (bytes : List ℕ). IsShelf bytes_at (with_piece place paths bytes) all) c.text_of-bytes.ensures c.in-Ok.ensures.shelf in
    record {
      is_desk = record { read = shelf.read; done = all-later bytes_at place paths c.args.piece.now.text all _ c.requires.done shelf };
      are = shelf.are;
    }

pub returns-in-Ok-push-clause-desk : goal.returns-in-Ok-push-clause-desk
returns-in-Ok-push-clause-desk g c =
    let bytes_at = g.F.Opener.bytes_at c.args.files.now in
    let place = c.args.place.now in
    let paths = paths_on c.args.desk.now.shelf.items in
    let all = c.put_piece.new.shelf.items in
    let read = c.in-Ok.ensures.shelf in
    let shelf = subst (λ (bytes : List ℕ). IsShelf bytes_at (with_piece place paths bytes) all) c.text_of-bytes.ensures read in
    record {
      is_desk = record {
        read = shelf.read;
        done =
            subst (λ (done : List Done). All (IsDone bytes_at place (paths_on all)) done) (sym c.in-Ok-push.ensures.items)
            (All-push (IsDone bytes_at place (paths_on all)) _ _ (all-later bytes_at place paths c.args.piece.now.text all _ c.requires.done shelf)
            (done-now bytes_at place paths all _ c.in-Ok.ensures.ok read));
      };
      are = shelf.are;
    }
