use Rattle.std.proofs.Common.{◌∙◌, ap}
use Rattle.std.proofs.lemmas.List.{take_rest}
use Rattle.bpf_suite.specs.Bodies.{trimmed}
use Rattle.bpf_suite.specs.Kinds.{kind_named}
use Rattle.bpf_suite.proofs.section.kind_in.Goals as goal

pub returns-in-len2-up : goal.returns-in-len2-up
returns-in-len2-up c =
    c.named-in-len2-up.ensures ∙ ap kind_named (c.trimmed.ensures ∙ ap trimmed (take_rest c.args.head.now 2))
