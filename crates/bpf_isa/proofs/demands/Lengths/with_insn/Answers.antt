use Rattle.bpf_isa.proofs.demands.Lengths.with_insn.Goals as goal

pub returns-in-None : goal.returns-in-None
returns-in-None c = λ maps are. (λ met. (met, c.in-None.ensures.none maps), λ both. both.0)
