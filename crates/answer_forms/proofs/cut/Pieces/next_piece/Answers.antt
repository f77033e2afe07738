use Rattle.std.proofs.Common.{◌<◌, ◌∙◌, length, refl, rules, sym, tests}
use Rattle.answer_forms.proofs.FirstPieces.{pieces-first}
use Rattle.answer_forms.proofs.cut.Pieces.next_piece.Goals as goal

pub returns : goal.returns
returns c =
    let some : 0 < length c.self.inside.rest.now = search (rules, tests) in
    record { next = sym c.self.view_is ∙ pieces-first c.self.inside.byte c.self.inside.rest.now some ∙ rw (c.sides.ensures.before, c.sides.ensures.after) refl }
