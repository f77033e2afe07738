use Rattle.bpf_cover.proofs.coverage.put_counts.Goals as goal

pub returns : goal.returns
returns g c = λ first front known.
    rw (c.count_run-ran.ensures, c.count_starts-instructions.ensures, c.count_both-both.ensures, c.count_forks-branches.ensures.count) at (c.put_all.ensures first front known)
