use Rattle.std.proofs.Common.{refl}
use Rattle.bpf_opening.proofs.laws.bare_is_initial.Goals as goal

pub returns : goal.returns
returns c = λ program context. refl
