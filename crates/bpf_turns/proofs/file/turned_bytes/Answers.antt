use Rattle.bpf_turns.proofs.Pieces.{tabled_is}
use Rattle.bpf_turns.proofs.file.turned_bytes.Goals as goal

pub returns-in-Ok-with_table-clause-ok : goal.returns-in-Ok-with_table-clause-ok
returns-in-Ok-with_table-clause-ok c =
    tabled_is c.args.source.now c.args.seats.now c.args.ext.now _ _ _ _ c.in-Ok-with_table.ensures.ok c.requires.calls.are
    c.in-Ok.ensures.ok.bytes c.in-Ok.ensures.ok.at_is
