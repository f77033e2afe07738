use Rattle.std.proofs.Common.{◌≡◌, ℕ, ◌+◌, ◌++◌, ap, arith}
use Rattle.bpf_remote.specs.Answers.{registers_below}
use Rattle.bpf_remote.specs.Layouts.{described_again}
use Rattle.bpf_remote.proofs.Telling.{Holds-text, registers-none, registers-more}
use Rattle.bpf_remote.proofs.answer.append_registers.Goals as goal

pub loop-n-init : goal.loop-n-init
loop-n-init c = λ text held. Holds-text c.args.body.now _ _ held (registers-none text c.args.cpu.now)

pub loop-n-preserved : goal.loop-n-preserved
loop-n-preserved c = λ text held. Holds-text _ _ _ (c.append_word.ensures _ (c.loop-n.invariant text held)) (registers-more text c.args.cpu.now c.loop-n.n _ c.value_of.ensures)

pub returns : goal.returns
returns c = λ text held.
    let e : c.loop-n.n ≡ 12 + described_again c.args.layout = omega (arith, c.described_again-count.ensures.value) in
    Holds-text _ _ _ (c.loop-n.invariant text held) (ap (λ (n : ℕ). text ++ registers_below c.args.cpu.now n) e)
