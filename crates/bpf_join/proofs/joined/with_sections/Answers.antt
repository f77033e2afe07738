use Rattle.bpf_join.proofs.Joining.{count_is, file_is}
use Rattle.bpf_join.proofs.joined.with_sections.Goals as goal

pub returns-clause-ok : goal.returns-clause-ok
returns-clause-ok c =
    file_is c.args.first.now c.args.second.now c.args.table c.args.places.now c.args.records.now _ _ _ _ _ c.with_u16.result.items c.in-Ok.ensures.ok.bytes c.in-Ok.ensures.ok.places_are
    c.in-Ok-with_headers.ensures.ok c.with_u64.ensures.value c.with_u16.ensures (count_is _ _ _ _ c.len.ensures c.len-2.ensures)
