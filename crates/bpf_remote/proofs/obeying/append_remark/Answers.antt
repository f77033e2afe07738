use Rattle.std.proofs.Common.{ℕ, List, [], ◌∷◌, ap, ◌∙◌}
use Rattle.bpf_remote.specs.Numbers.{hex_text}
use Rattle.bpf_remote.proofs.Telling.{Holds-text}
use Rattle.bpf_remote.proofs.obeying.append_remark.Goals as goal

pub returns-in-Ok : goal.returns-in-Ok
returns-in-Ok c = λ _.
    Holds-text _ _ _ (c.append_hex.ensures _ (c.append.ensures [] c.requires))
    (ap (λ (v : List ℕ). 79 ∷ hex_text v) (c.as_slice.ensures.value ∙ (rw c.in-Ok.is at c.line_text.ensures)))
