use Rattle.bpf_remote.proofs.Telling.{Holds-text, error-parts}
use Rattle.bpf_remote.proofs.answer.append_error.Goals as goal

pub returns : goal.returns
returns c = λ text held. Holds-text _ _ _ (c.append_hex.ensures _ (c.append.ensures text held)) (error-parts text c.args.number)
