use Rattle.std.proofs.Common.{◌∙◌}
use Rattle.bpf_journal.proofs.Items.{item_found}
use Rattle.bpf_journal.proofs.entries.Entries.item.Goals as goal

pub returns : goal.returns
returns c = λ newer rest k whole count. item_found c.self.inside.items.items newer rest k c.self.inside.items.len c.args.older _ c.self.inside.items.ok.0 count c.get.ensures.variant.1 c.get.ensures.lookup (c.self.view_is ∙ whole)
