use Rattle.std.proofs.Common.{length, ap, sym, ◌∙◌}
use Rattle.bpf_journal.proofs.Items.{length-held}
use Rattle.bpf_journal.proofs.entries.Entries.len.Goals as goal

pub returns : goal.returns
returns c = c.len.ensures ∙ c.self.inside.items.ok.0 ∙ sym (length-held c.self.inside.items.items) ∙ ap length c.self.view_is
