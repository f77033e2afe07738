use Rattle.bpf_diff.proofs.against.put_against.Goals as goal

pub returns-in-Registers-clause-text : goal.returns-in-Registers-clause-text
returns-in-Registers-clause-text g c = rw c.in-Registers.is (rw c.of-lines.ensures at c.put_by_registers.ensures.text)
