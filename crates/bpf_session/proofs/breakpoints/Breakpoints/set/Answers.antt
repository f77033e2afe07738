use Rattle.bpf_session.proofs.Breaks.{table_more}
use Rattle.bpf_session.proofs.breakpoints.Breakpoints.set.Goals as goal

pub invariant_of-self : goal.invariant_of-self
invariant_of-self c = rw (c.push.ensures.items, c.place_of.ensures.place, c.from.ensures) (table_more _ _ _ c.self.invariant)
