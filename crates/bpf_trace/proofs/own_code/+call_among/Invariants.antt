use Rattle.bpf_trace.proofs.own_code.+call_among.Given as goal

abbrev pub decreases-call_among : goal.decreases-call_among
decreases-call_among l = l.count
