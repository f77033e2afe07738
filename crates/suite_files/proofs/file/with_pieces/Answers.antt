use Rattle.std.proofs.Common.{◌≡◌, ◌<◌, ◌+◌, ◌++◌, ◌∙◌, ℕ, List, add-one, length, subst, sym}
use Rattle.std.proofs.lemmas.List.{get_or_default}
use Rattle.std.specs.Prelude.{Option, get_or}
use Rattle.suite_files.proofs.Desking.{paths-more}
use Rattle.suite_files.specs.Refused.{IsPieceFault}
use Rattle.suite_files.specs.Replaced.{IsPut, ReplacesFirst, no_piece}
use Rattle.suite_files.specs.Shelves.{paths_on}
use Rattle.suite_files.specs.declared.place.Place.{Place}
use Rattle.input_texts.specs.declared.piece.Piece.{Piece}
use Rattle.suite_files.proofs.file.with_pieces.Goals as goal

-- a piece that was taken from a place
piece-at : (all : List Piece) (k : ℕ) (one : Piece) → one ≡ get_or all k one → k < length all → one ≡ get_or all k no_piece
piece-at all k one is inside = is ∙ get_or_default all k one no_piece inside

-- one more piece
one_more : (bytes_at : List ℕ → Option (List ℕ)) (place : Place) (all : List Piece) (begun : List ℕ) (k : ℕ) (one : Piece) (before after : List ℕ)
    → one ≡ get_or all k no_piece → ReplacesFirst bytes_at place all begun k before
    → (put : List ℕ) × IsPut bytes_at place one.text put × (after ≡ before ++ put) → ReplacesFirst bytes_at place all begun (k + 1) after
one_more bytes_at place all begun k one before after is first put =
    subst (λ (n : ℕ). ReplacesFirst bytes_at place all begun n after) (sym (add-one k))
    (before, first, put.0, subst (λ (p : Piece). IsPut bytes_at place p.text put.0) is put.1, put.2)

pub returns-in-Err-clause-err : goal.returns-in-Err-clause-err
returns-in-Err-clause-err g c =
    let bytes_at = g.F.Opener.bytes_at c.args.files.now in
    let all = c.args.pieces.now in
    let is = piece-at all c.loop-k.k c.index-pieces-k.result c.index-pieces-k.is c.loop-k-test.true in
    record {
      n = c.loop-k.k;
      inside = c.loop-k-test.true;
      before = c.loop-k.text.items;
      are_before = c.loop-k.invariant.first;
      why =
          subst (λ (ps : List (List ℕ)). IsPieceFault bytes_at c.args.place.now ps c.loop-k.text.items (get_or all c.loop-k.k no_piece) c.in-Err.fault)
          c.loop-k.invariant.desk.are
          (subst (λ (p : Piece). IsPieceFault bytes_at c.args.place.now (paths_on c.loop-k.desk.shelf.items) c.loop-k.text.items p c.in-Err.fault) is
          c.in-Err.ensures.err);
    }

pub loop-k-preserved : goal.loop-k-preserved
loop-k-preserved g c =
    let bytes_at = g.F.Opener.bytes_at c.args.files.now in
    let all = c.args.pieces.now in
    let is = piece-at all c.loop-k.k c.index-pieces-k.result c.index-pieces-k.is c.loop-k-test.true in
    record {
      first =
          one_more bytes_at c.args.place.now all c.args.begun.items c.loop-k.k c.index-pieces-k.result c.loop-k.text.items c.in-Ok.all.items is
          c.loop-k.invariant.first c.in-Ok.ensures.ok;
      desk =
          paths-more bytes_at c.args.place.now all c.loop-k.k c.index-pieces-k.result (paths_on c.loop-k.desk.shelf.items) _ is
          c.loop-k.invariant.desk.are c.in-Ok.ensures.desk;
    }
