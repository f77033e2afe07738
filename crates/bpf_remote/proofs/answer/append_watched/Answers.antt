use Rattle.bpf_remote.proofs.Telling.{Holds-text, watched-parts}
use Rattle.bpf_remote.proofs.answer.append_watched.Goals as goal

pub returns : goal.returns
returns c = λ text held.
    Holds-text _ _ _ (c.append-2.ensures _ (c.append_address.ensures _ (c.append.ensures text held))) (watched-parts text c.args.address)
