use Rattle.std.proofs.Common.{◌≡◌, ◌++◌, ◌+◌, drop, sym, ap, ◌∙◌, arith}
use Rattle.std.specs.Prelude.{flat_map}
use Rattle.bpf_suite.specs.Shown.{reg_command}
use Rattle.bpfdb_script.proofs.Telling.{Telling-start, Telling-step, Telling-end, pieces-next, pieces-end}
use Rattle.bpf_suite.proofs.shown.put_reg_commands.Goals as goal

pub loop-line-init : goal.loop-line-init
loop-line-init g c = Telling-start _ _ _ _

pub loop-line-preserved : goal.loop-line-preserved
loop-line-preserved g c =
    let i = c.loop-line.line-index in
    let regs = c.args.regs.now in
    let line = c.line-item.result in
    let next : flat_map reg_command (drop i regs) ≡ reg_command line ++ flat_map reg_command (drop (i + 1) regs) =
    pieces-next reg_command regs i line (omega arith) ∙ ap (λ l. reg_command l ++ flat_map reg_command (drop (i + 1) regs)) (sym c.line-item.is) in
    Telling-step _ _ _ _ _ _ _ _ _ _ _ c.loop-line.invariant c.put_reg_command-told.ensures next

pub returns : goal.returns
returns g c = Telling-end _ _ _ _ _ _ _ c.loop-line.invariant (pieces-end reg_command c.args.regs.now c.loop-line.line-index (omega arith))
