use Rattle.std.proofs.Common.{◌++◌, ◌∙◌, ap}
use Rattle.counted_io.proofs.Appending.{Writes-text}
use Rattle.bpf_lines.proofs.Texts.{not_zero, row_is, row_parts}
use Rattle.bpf_lines.proofs.rows.put_row.Goals as goal

pub returns : goal.returns
returns g c = λ first front known.
    let numbered = c.put_decimal-numbered.ensures first front known in
    let parted = c.put-parted.ensures first _ numbered in
    let lined = c.put_line-lined.ensures first _ parted in
    let again = c.put-parted_again.ensures first _ lined in
    let named = c.put_function-named.ensures first _ again in
    Writes-text g.W.Write.contents _ _ _ _ _ (c.put-2.ensures first _ named)
    (row_parts front _ _ _ _ _ _
    ∙ ap (λ t. front ++ t)
    (row_is c.args.plan.now c.args.told.now c.args.words.now c.args.number c.args.said (not_zero _ (λ zero. c.if-first_byte-eq0.false (c.first_byte.ensures ∙ zero)))))
