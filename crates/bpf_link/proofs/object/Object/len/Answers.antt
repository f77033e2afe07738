use Rattle.std.proofs.Common.{◌+◌, ◌*◌, ◌∙◌, length, sym, ap}
use Rattle.bpf_link.specs.Layout.{section_header}
use Rattle.bpf_link.proofs.Lists.{below_length}
use Rattle.bpf_link.proofs.object.Object.len.Goals as goal

pub returns : goal.returns
returns c =
    sym (below_length (λ i. section_header c.self.inside.bytes.now (c.self.inside.at + 64 * i)) c.self.inside.count) ∙ ap (λ object. length object.sections) c.self.view_is
