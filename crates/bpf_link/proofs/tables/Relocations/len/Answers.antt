use Rattle.std.proofs.Common.{◌*◌, ◌/◌, ◌∙◌, length, sym, ap}
use Rattle.bpf_link.specs.Layout.{relocation_entry}
use Rattle.bpf_link.proofs.Lists.{below_length}
use Rattle.bpf_link.proofs.tables.Relocations.len.Goals as goal

pub returns : goal.returns
returns c = let bytes = c.self.inside.bytes.now in sym (below_length (λ i. relocation_entry bytes (16 * i)) (length bytes / 16)) ∙ ap length c.self.view_is
