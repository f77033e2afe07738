use Rattle.std.proofs.Common.{◌∙◌, sym}
use Rattle.std.proofs.lemmas.List.{take_rest}
use Rattle.input_texts.proofs.Cuts.{until-cut, until-on}
use Rattle.input_texts.proofs.piece.until_cut.Goals as goal

pub returns-then-is_cut : goal.returns-then-is_cut
returns-then-is_cut c =
    let at = c.loop-at.at in
    sym (until-cut c.args.text.now at c.loop-at-test.true (rw (take_rest c.args.text.now at) at (sym c.if-is_cut.ensures))) ∙ c.loop-at.invariant

pub loop-at-preserved : goal.loop-at-preserved
loop-at-preserved c =
    let at = c.loop-at.at in
    until-on c.args.text.now at c.loop-at-test.true (rw (take_rest c.args.text.now at) at (sym c.if-is_cut.ensures)) ∙ c.loop-at.invariant
