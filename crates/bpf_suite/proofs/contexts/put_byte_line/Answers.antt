use Rattle.bpf_suite.proofs.contexts.put_byte_line.Goals as goal

pub returns : goal.returns
returns g c = λ first front known. rw c.in-Ok.ensures.written at (c.put_all.ensures first front known)
