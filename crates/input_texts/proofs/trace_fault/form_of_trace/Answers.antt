use Rattle.std.proofs.Common.{◌∙◌, ap, sym}
use Rattle.std.specs.Prelude.{Option}
use Rattle.counted_io.specs.Lines.{lines}
use Rattle.input_texts.specs.TraceFaults.{first_bad}
use Rattle.input_texts.specs.declared.trace_form.Form.{Form}
use Rattle.input_texts.proofs.TraceReading.{some-bad}
use Rattle.input_texts.proofs.trace_fault.form_of_trace.Goals as goal

pub unreachable-requires : goal.unreachable-requires
unreachable-requires c =
    let ls = lines c.args.file.now in
    some-bad 1 ls (sym c.first_form-form.ensures ∙ c.in-None-form.is)
    (ap (λ (form : Option Form). first_bad form 1 ls) (sym c.in-None-form.is) ∙ sym c.first_bad.ensures ∙ c.in-None.is)
