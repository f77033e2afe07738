use Rattle.std.proofs.Common.{Some, Ok, ap, sym, ◌∙◌}
use Rattle.bpf_remote.proofs.LineTexts.{line-wrong, line-blank}
use Rattle.bpf_remote.proofs.obeying.obey_line.Goals as goal

pub returns-in-None : goal.returns-in-None
returns-in-None g c = line-wrong _ _ _ c.args.session.now _ _ _ (sym c.line_of.ensures ∙ c.in-None.is) (c.append_error.ensures _ c.requires.empty)

pub returns-in-Some-Ok-None : goal.returns-in-Some-Ok-None
returns-in-Some-Ok-None g c =
    line-blank _ _ _ c.args.session.now _ _ _
    (sym c.line_of.ensures ∙ c.in-Some-Ok-None.is ∙ ap Some (c.in-Some-Ok-None.field-0-is ∙ ap Ok c.in-Some-Ok-None.field-0-0-is))
    (c.append.ensures _ c.requires.empty)
