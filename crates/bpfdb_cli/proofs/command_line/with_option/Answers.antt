use Rattle.std.proofs.Common.{◌∙◌, ap}
use Rattle.std.proofs.lemmas.Result.{IfOk-weaker}
use Rattle.clap.specs.Words.{app_of, with_rule}
use Rattle.bpfdb_cli.proofs.command_line.with_option.Goals as goal

pub returns : goal.returns
returns c =
    IfOk-weaker c.arg.result _ _
    (λ whole adds. adds.shape c.in_ok-argument_of.ensures.local ∙ ap (with_rule (app_of c.args.above)) c.in_ok-argument_of.ensures.value)
    c.arg.ensures
