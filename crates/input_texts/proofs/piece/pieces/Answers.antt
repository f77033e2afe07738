use Rattle.std.proofs.Common.{◌++◌, ◌∙◌, sym, ap, arith}
use Rattle.std.proofs.lemmas.List.{take_rest}
use Rattle.input_texts.specs.Pieces.{pieces_behind}
use Rattle.input_texts.proofs.Cuts.{behind-on}
use Rattle.input_texts.proofs.piece.pieces.Goals as goal

pub loop-at-preserved : goal.loop-at-preserved
loop-at-preserved c =
    let at = c.loop-at.at in
    let text = c.args.text.now in
    let next = c.in_ok-line.line in
    record {
      line = omega (arith, c.in_ok-line.ensures.line, c.loop-at.invariant.line);
      found = ap (λ s. c.push_behind.new.found.items ++ pieces_behind next s) (sym (behind-on next text at c.loop-at-test.true))
          ∙ rw (take_rest text at) at c.in_ok-line.ensures.found ∙ c.loop-at.invariant.found;
    }
