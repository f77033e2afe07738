use Rattle.bpf_cover.proofs.tracefile.put_ways.Goals as goal

pub returns : goal.returns
returns g c = λ first front known. rw (c.taken-on.ensures, c.taken-off.ensures) at (c.put_all.ensures first front known)
