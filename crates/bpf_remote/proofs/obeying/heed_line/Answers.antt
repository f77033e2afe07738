use Rattle.std.proofs.Common.{sym, ◌∙◌}
use Rattle.bpf_remote.proofs.LineTexts.{heeded-help, heeded-line}
use Rattle.bpf_remote.proofs.obeying.heed_line.Goals as goal

pub returns-then-asks_help : goal.returns-then-asks_help
returns-then-asks_help g c = heeded-help _ _ _ c.args.session.now c.args.digits.now _ _ _ (sym c.asks_help.ensures ∙ c.if-asks_help.true) c.append_help.ensures

pub returns : goal.returns
returns g c = heeded-line _ _ _ c.args.session.now _ c.args.digits.now _ _ _ _ (sym c.asks_help.ensures ∙ c.if-asks_help.false) c.obey_line.ensures
