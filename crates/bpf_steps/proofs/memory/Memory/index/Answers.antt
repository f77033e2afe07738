use Rattle.bpf_steps.proofs.memory.Memory.index.Goals as goal

pub returns-clause-value : goal.returns-clause-value
returns-clause-value c = rw (← c.self.view_is) (c.run_index.ensures.value c.self.inside.bytes.items)
