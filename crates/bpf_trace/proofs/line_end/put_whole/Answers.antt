use Rattle.bpf_trace.proofs.line_end.put_whole.Goals as goal

pub returns : goal.returns
returns g c = rw (c.as_slice.ensures, c.add.ensures, c.add_place.ensures) at c.put.ensures
