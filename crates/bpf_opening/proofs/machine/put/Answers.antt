use Rattle.std.proofs.Common.{◌∙◌, List, ℕ, None, ap, arith, get_or}
use Rattle.bpf_steps.specs.State.{State}
use Rattle.bpf_opening.specs.Openings.{with_value}
use Rattle.bpf_opening.proofs.Values.{value-more}
use Rattle.bpf_opening.proofs.machine.put.Goals as goal

pub loop-number-preserved : goal.loop-number-preserved
loop-number-preserved c =
    let i = c.loop-number.number in
    let values = c.args.opening.now.registers in
    let x = c.args.cpu.now in
    c.put_value.ensures
    ∙ ap (λ (y : State). record y { registers = with_value i (get_or values i None) y.registers }) c.loop-number.invariant
    ∙ ap (λ (ns : List ℕ). record x { registers = ns }) (value-more values i x.registers (omega (arith, c.loop-number-test.true, c.type_inv.opening)))
