-- What an insertion changes.
use Rattle.std.proofs.Common.{◌∙◌, ap, sym, Some, Option, List, ℕ}
use Rattle.std.proofs.lemmas.Map.Text.{hash_map_updates_str}
use Rattle.bpf_text.specs.Scaffolding.Rounds.{labels_with}
use Rattle.bpf_text.specs.Scaffolding.Labels.{labels_in}
use Rattle.bpf_text.proofs.read.labels.put_label.Goals as goal

pub returns-in-Ok : goal.returns-in-Ok
returns-in-Ok c = λ q.
    let here = λ (label : Option (List ℕ)). labels_with (labels_in c.args.labels.now) c.args.definition label q in
    hash_map_updates_str _ c.args.labels.now c.insert.new.self _ c.in-Ok.ensures.updates q
    ∙ ap (λ name. here (Some name)) c.name.view_is ∙ ap here (sym c.in-Some.is)
