use Rattle.bpf_suite.proofs.Shares.{bench-gone-on}
use Rattle.bpf_suite.proofs.bench.Bench.cover.Goals as goal

pub invariant_of-self : goal.invariant_of-self
invariant_of-self c = bench-gone-on _ _ _ _ _ _ _ c.self.invariant c.note.ensures.loads
