use Rattle.bpf_machine.proofs.cpu.Cpu.apply.Goals as goal

pub returns-in-Fetch : goal.returns-in-Fetch
returns-in-Fetch c = rw c.in-Fetch.is (c.exchange.ensures c.in-Fetch.address)
