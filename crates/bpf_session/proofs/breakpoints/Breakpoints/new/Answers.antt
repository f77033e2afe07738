use Rattle.bpf_session.proofs.Breaks.{no_table}
use Rattle.bpf_session.proofs.breakpoints.Breakpoints.new.Goals as goal

pub invariant_of-result : goal.invariant_of-result
invariant_of-result c = no_table _ c.new.ensures
