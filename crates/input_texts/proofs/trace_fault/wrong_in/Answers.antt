use Rattle.std.proofs.Common.{◌≡◌, ◌∙◌, ap, arith, false, sym, true}
use Rattle.counted_io.specs.Cuts.{trim}
use Rattle.input_texts.specs.TraceForms.{tells}
use Rattle.input_texts.specs.TraceFaults.{misfit}
use Rattle.input_texts.proofs.TraceReading.{wrong-long, wrong-quiet, wrong-told}
use Rattle.input_texts.proofs.trace_fault.wrong_in.Goals as goal

pub returns-then-line-gt-LONGEST_LINE : goal.returns-then-line-gt-LONGEST_LINE
returns-then-line-gt-LONGEST_LINE c =
    let long = c.if-line-gt-LONGEST_LINE.true in
    sym (wrong-long c.args.form c.args.line.now (omega (arith, long)))

pub returns-then-tells : goal.returns-then-tells
returns-then-tells c =
    let short = c.if-line-gt-LONGEST_LINE.false in
    let is : tells (trim c.args.line.now) ≡ true = ap tells (sym c.trim-text.ensures) ∙ sym c.tells.ensures ∙ c.if-tells.true in
    c.misfit.ensures ∙ ap (misfit c.args.form) c.trim-text.ensures ∙ sym (wrong-told c.args.form c.args.line.now (omega (arith, short)) is)

pub returns-else-tells : goal.returns-else-tells
returns-else-tells c =
    let short = c.if-line-gt-LONGEST_LINE.false in
    let is : tells (trim c.args.line.now) ≡ false = ap tells (sym c.trim-text.ensures) ∙ sym c.tells.ensures ∙ c.if-tells.false in
    sym (wrong-quiet c.args.form c.args.line.now (omega (arith, short)) is)
