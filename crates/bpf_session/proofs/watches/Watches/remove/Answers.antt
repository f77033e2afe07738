use Rattle.std.proofs.Common.{not, ◌==◌, ap, ◌∙◌, rules}
use Rattle.std.specs.Prelude.{filter}
use Rattle.arrayvec.proofs.ArrayVecLemmas.{filter-from_retain}
use Rattle.bpf_session.proofs.watches.Watches.remove.Goals as goal

pub returns : goal.returns
returns c = filter-from_retain _ _ _ (λ x b f' y called. search rules) _ _ c.retain.ensures.filtered ∙ ap (filter (λ other. not (other == c.args.address))) c.self.view_is
