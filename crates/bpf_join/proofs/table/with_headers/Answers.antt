use Rattle.std.proofs.Common.{ap, ◌∙◌, ◌++◌}
use Rattle.bpf_join.specs.Tables.{header_bytes}
use Rattle.bpf_join.proofs.Joining.{four_pieces}
use Rattle.bpf_join.proofs.table.with_headers.Goals as goal

pub returns-in-Ok-with_header-2-clause-ok : goal.returns-in-Ok-with_header-2-clause-ok
returns-in-Ok-with_header-2-clause-ok c =
    four_pieces c.args.bytes.items _ _ _ _ c.in-Ok.own.items c.in-Ok-with_second.both.items c.in-Ok-with_header.moved.items c.in-Ok-with_header-2.all.items
    c.in-Ok.ensures.ok c.in-Ok-with_second.ensures.ok
    (c.in-Ok-with_header.ensures.ok ∙ ap (λ it. c.in-Ok-with_second.both.items ++ header_bytes it) c.relocations_header.ensures)
    (c.in-Ok-with_header-2.ensures.ok ∙ ap (λ it. c.in-Ok-with_header.moved.items ++ header_bytes it) c.records_header.ensures)
