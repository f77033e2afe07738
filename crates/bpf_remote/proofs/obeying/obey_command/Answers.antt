use Rattle.std.proofs.Common.{sym, ◌∙◌}
use Rattle.bpf_remote.proofs.LineTexts.{told-quit, told-command}
use Rattle.bpf_remote.proofs.obeying.obey_command.Goals as goal

pub returns-then-is_quit : goal.returns-then-is_quit
returns-then-is_quit g c =
    told-quit _ _ _ c.args.session.now c.args.command.now _ _ _ (sym c.is_quit.ensures ∙ c.if-is_quit.true) (c.append.ensures _ c.requires)

pub returns : goal.returns
returns g c =
    told-command _ _ _ (λ a. a.items) _ _ c.args.session.now c.apply-said.new.self c.args.command.now _ _ _ _ (sym c.is_quit.ensures ∙ c.if-is_quit.false)
    c.apply-said.ensures c.moves_after.ensures c.append_text.ensures c.answer_text.ensures
