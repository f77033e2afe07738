use Rattle.std.proofs.Common.{◌≡◌, not, ◌==◌, ap, ◌∙◌, rules}
use Rattle.std.specs.Prelude.{filter, map}
use Rattle.arrayvec.proofs.ArrayVecLemmas.{filter-from_retain}
use Rattle.bpf_agent.specs.Conditions.{without}
use Rattle.bpf_agent.proofs.Rows.{shown, shown-without}
use Rattle.bpf_agent.proofs.conditions.Conditions.remove.Goals as goal

pub returns : goal.returns
returns c =
    let left : c.retain.new.self.items ≡ filter (λ row. not (row.slot == c.args.slot)) c.self.inside.rows.items = filter-from_retain _ _ _ (λ x b f' y called. search rules) _ _ c.retain.ensures.filtered in
    ap (map shown) left ∙ shown-without c.args.slot c.self.inside.rows.items ∙ ap (without c.args.slot) c.self.view_is
