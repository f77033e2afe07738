use Rattle.std.proofs.Common.{◌∙◌, length, ap}
use Rattle.bpf_entries.proofs.Texts.{length-text}
use Rattle.bpf_journal.proofs.item.Item.weight.Goals as goal

pub returns : goal.returns
returns c = ap length c.text.ensures.text ∙ length-text c.args.self.now.0 c.args.self.now.1 c.text.ensures.fits
