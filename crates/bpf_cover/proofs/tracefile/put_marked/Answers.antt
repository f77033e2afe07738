use Rattle.bpf_cover.proofs.tracefile.put_marked.Goals as goal

pub returns : goal.returns
returns g c = λ first front known.
    rw (c.count_starts-instructions.ensures, c.count_run-ran.ensures, c.count_forks-forks.ensures.count, c.count_ways-ways.ensures) at
    (c.put_totals.ensures first front known)
