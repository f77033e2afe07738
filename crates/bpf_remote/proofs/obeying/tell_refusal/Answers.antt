use Rattle.bpf_remote.proofs.LineTexts.{told}
use Rattle.bpf_remote.proofs.obeying.tell_refusal.Goals as goal

pub returns : goal.returns
returns c = told (λ a. a.items) _ _ _ c.append_text.ensures c.refusal_text.ensures
