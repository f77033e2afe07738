use Rattle.std.proofs.Common.{◌∙◌, List, ap}
use Rattle.std.specs.List.{list_any}
use Rattle.bpf_origin.specs.Places.{has}
use Rattle.bpf_origin.specs.declared.place.Part.{Part}
use Rattle.bpf_diff.proofs.Writes.{wrote-is}
use Rattle.bpf_diff.proofs.writer.writes_place.Goals as goal

pub returns : goal.returns
returns c = λ x t.
    c.has_place.ensures
    ∙ ap (λ (parts : List Part). list_any (λ q. has q c.args.place) parts) (c.wrote_by.ensures ∙ wrote-is x c.args.cpu.now c.args.taken.now t)
