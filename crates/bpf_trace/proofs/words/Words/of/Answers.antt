use Rattle.bpf_trace.proofs.words.Words.of.Goals as goal

pub returns : goal.returns
returns c = record { texts = c.in_ok-texts.ensures; members = c.in_ok-members.ensures }
