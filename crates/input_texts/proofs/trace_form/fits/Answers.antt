use Rattle.std.proofs.Common.{◌∙◌}
use Rattle.input_texts.proofs.TraceReading.{fits-registers, fits-steps}
use Rattle.input_texts.proofs.trace_form.fits.Goals as goal

pub returns-in-Steps : goal.returns-in-Steps
returns-in-Steps c = c.is_of_trace.ensures ∙ fits-steps c.args.form c.args.line.now c.in-Steps.is

pub returns-in-Registers : goal.returns-in-Registers
returns-in-Registers c = c.is_of_values.ensures ∙ fits-registers c.args.form c.args.line.now c.in-Registers.is
