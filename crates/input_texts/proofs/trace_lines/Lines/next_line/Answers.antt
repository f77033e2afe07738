use Rattle.std.proofs.Common.{◌<◌, ◌∙◌, length, refl, rules, sym, tests}
use Rattle.input_texts.proofs.TraceReading.{lines-first}
use Rattle.input_texts.proofs.trace_lines.Lines.next_line.Goals as goal

pub returns-clause-next : goal.returns-clause-next
returns-clause-next c =
    let some : 0 < length c.self.inside.rest.now = search (rules, tests) in
    sym c.self.view_is ∙ lines-first c.self.inside.rest.now some ∙ rw (c.sides.ensures.before, c.sides.ensures.after) refl
