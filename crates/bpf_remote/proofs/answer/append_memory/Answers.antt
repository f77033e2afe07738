use Rattle.std.proofs.Common.{ℕ, List, ◌++◌, sym, ap, ◌∙◌}
use Rattle.bpf_remote.specs.Answers.{memory_part}
use Rattle.bpf_remote.proofs.Telling.{Holds-text, part-there, part-absent}
use Rattle.bpf_remote.proofs.answer.append_memory.Goals as goal

pub returns-then-has_memory : goal.returns-then-has_memory
returns-then-has_memory c = λ text held.
    Holds-text _ _ _ (c.append_present.ensures text held)
    (ap (λ (v : List ℕ). text ++ v)
    (part-there c.args.cpu.now c.args.address c.min-n.result (sym c.has_memory.ensures.value ∙ c.if-has_memory.true) ∙ ap (memory_part c.args.cpu.now c.args.address) c.min-n.ensures))

pub returns-else-has_memory : goal.returns-else-has_memory
returns-else-has_memory c = λ text held.
    Holds-text _ _ _ (c.append_error.ensures text held)
    (ap (λ (v : List ℕ). text ++ v)
    (part-absent c.args.cpu.now c.args.address c.min-n.result (sym c.has_memory.ensures.value ∙ c.if-has_memory.false) ∙ ap (memory_part c.args.cpu.now c.args.address) c.min-n.ensures))
