use Rattle.std.proofs.Common.{◌<◌, ◌∙◌, ap, arith, length}
use Rattle.std.proofs.lemmas.Grind.{common_steps}
use Rattle.std.specs.Prelude.{map}
use Rattle.counted_io.specs.Lines.{lines}
use Rattle.bpf_lines.specs.PlaceTexts.{with_rows}
use Rattle.bpf_lines.proofs.Placing.{one_more}
use Rattle.bpf_lines.proofs.place_texts.texts_told.Goals as goal

pub loop-rest-init : goal.loop-rest-init
loop-rest-init c = ap (λ texts. with_rows c.args.kind texts (lines c.args.table.now)) c.in_ok-texts.ensures

pub loop-rest-preserved : goal.loop-rest-preserved
loop-rest-preserved c =
    let l = c.loop-rest in
    let more : 0 < length l.rest.now = grind (arith, common_steps) in
    one_more c.args.kind (map (λ text. text.items) l.texts.items) (map (λ text. text.items) c.put_row.new.texts.items) l.rest.now c.sides.result.0.now c.sides.result.1.now more
    c.sides.ensures.before c.sides.ensures.after c.in_ok-put_row.ensures
    ∙ l.invariant
