use Rattle.std.proofs.Common.{◌*◌, ◌/◌, ◌∙◌, length, sym, ap}
use Rattle.bpf_link.specs.Layout.{symbol_entry}
use Rattle.bpf_link.proofs.Lists.{below_length}
use Rattle.bpf_link.proofs.tables.Symbols.len.Goals as goal

pub returns : goal.returns
returns c = let bytes = c.self.inside.bytes.now in sym (below_length (λ i. symbol_entry bytes (24 * i)) (length bytes / 24)) ∙ ap length c.self.view_is
