use Rattle.std.proofs.Common.{arith, refl, drop, ◌≡◌, ◌∙◌, ◌++◌, take}
use Rattle.std.proofs.lemmas.List.{take-append-le}
use Rattle.bpf_entries.specs.Rings.{AllFit, ring}
use Rattle.bpf_ring.proofs.PieceLaws.{all_fit, leads_each, no_piece, piece_of, texts_are}
use Rattle.bpf_ring.specs.Pieces.{entries_of}
use Rattle.bpf_ring.proofs.keeper.RingKeeper.keep_piece.Goals as goal

pub returns-clause-piece : goal.returns-clause-piece
returns-clause-piece g c =
    let x = c.args.cpu.now in
    let n = c.keep-kept.result.taken in
    let len = c.keep-kept.result.len in
    let marks = c.marks.result.now in
    let guard = c.in-Some.guard in
    let calls = c.overlooks_calls.result in
    let keeps = c.keep-kept.ensures.keeps in
    let y = c.keep-kept.new.self in
    let text = c.keep-kept.new.room in
    record {
      piece = piece_of (g.T.StopTest.test c.args.test.now) marks guard calls x y text n len c.marks.ensures c.in-Some.ensures c.overlooks_calls.ensures keeps;
      within = c.keep-kept.ensures.within.0;
      size = c.keep_texts.ensures.size;
      held = λ ks held.
          let fits : AllFit (entries_of n x) = all_fit c.entries_fit.ensures n x (leads_each marks guard calls x y text n len keeps) in
          let is : take len text ≡ ring (entries_of n x) = keeps.texts ∙ texts_are n x in
          let behind = drop c.min-size.result c.args.room.now in
          let same : take len (text ++ behind) ≡ ring (entries_of n x) = take-append-le len text behind keeps.fits ∙ is in
          c.keep_texts.ensures.held ks x held fits same;
    }

pub returns-in_default-clause-piece : goal.returns-in_default-clause-piece
returns-in_default-clause-piece g c = record {
  piece = no_piece (g.T.StopTest.test c.args.test.now) c.args.cpu.now c.requires.runs;
  within = omega arith;
  size = refl;
  held = λ ks held. held;
}
