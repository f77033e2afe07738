use Rattle.std.proofs.Common.{◌++◌, ap, ◌∙◌}
use Rattle.bpf_join.specs.Moved.{relocation_bytes}
use Rattle.bpf_turns.proofs.relocations.with_relocation.Goals as goal

pub returns-in-Ok-clause-ok : goal.returns-in-Ok-clause-ok
returns-in-Ok-clause-ok c =
    c.in-Ok.ensures.items ∙ ap (λ more. c.args.bytes.items ++ more)
    (c.relocation_bytes.ensures ∙ ap (λ place. relocation_bytes place c.args.it.now.kind c.args.it.now.symbol) c.turned_place-place.ensures)
