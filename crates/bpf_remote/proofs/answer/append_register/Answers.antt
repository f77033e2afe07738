use Rattle.std.proofs.Common.{ℕ, List, ◌++◌, ap}
use Rattle.bpf_remote.proofs.Telling.{Holds-text, register-other, register-there}
use Rattle.bpf_remote.proofs.answer.append_register.Goals as goal

pub returns-then-n-le22 : goal.returns-then-n-le22
returns-then-n-le22 c = λ text held.
    Holds-text _ _ _ (c.append_word.ensures text held)
    (ap (λ (v : List ℕ). text ++ v) (register-there c.args.manners c.args.cpu.now c.args.n c.value_of.result c.if-n-le22.true c.value_of.ensures))

pub returns-else-n-le22 : goal.returns-else-n-le22
returns-else-n-le22 c = λ text held.
    Holds-text _ _ _ (c.append_other.ensures text held) (ap (λ (v : List ℕ). text ++ v) (register-other c.args.manners c.args.cpu.now c.args.n c.if-n-le22.false))
