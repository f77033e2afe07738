use Rattle.std.proofs.Common.{◌∙◌, ap, unwrap_or, length}
use Rattle.bpf_suite.specs.Kinds.{is_name}
use Rattle.bpf_suite.proofs.Lists.{unwrap_or-position}
use Rattle.bpf_suite.proofs.section.find_name.Goals as goal

pub returns-clause-value : goal.returns-clause-value
returns-clause-value c =
    c.unwrap_or.ensures ∙ ap (λ at. unwrap_or at (length c.args.sections.now)) c.name_position.ensures
    ∙ unwrap_or-position (λ section. is_name section.kind) c.args.sections.now
