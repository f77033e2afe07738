use Rattle.std.proofs.Common.{sym}
use Rattle.bpf_journal.proofs.Items.{newest_found}
use Rattle.bpf_journal.proofs.entries.Entries.newest.Goals as goal

pub returns : goal.returns
returns c =
    let v = c.back.ensures.variant in
    newest_found _ c.self.inside.items.items c.self.inside.items.len _ (sym c.self.view_is) c.self.inside.items.ok.0 v.1 v.0 c.back.ensures.lookup
