use Rattle.std.proofs.Common.{◌+◌, ◌-◌, ◌∙◌, length, arith, ap}
use Rattle.bpf_ring.specs.Blocks.{around}
use Rattle.bpf_ring.proofs.block.write_around.Goals as goal
use Rattle.bpf_ring.proofs.Arounds.{around_more, put_pasted, wraps}

pub returns-then-end-bytes-clause-text : goal.returns-then-end-bytes-clause-text
returns-then-end-bytes-clause-text c =
    let block = c.args.block.now in
    let bytes = c.args.bytes.now in
    let end = c.place-end.result in
    let same = put_pasted block c.copy.new.into bytes end (end + length bytes - end) c.copy.ensures (omega arith) in
    ap (λ l. around l c.args.first (c.args.len + length bytes)) same
    ∙ around_more block bytes c.args.first c.args.len end c.place-end.ensures.value c.requires.first c.requires.len c.if-end-bytes.true

pub returns-else-end-bytes-clause-text : goal.returns-else-end-bytes-clause-text
returns-else-end-bytes-clause-text c =
    wraps c.args.block.now c.args.bytes.now c.copy_from_slice.new.self c.copy_from_slice-else-end-bytes.new.self c.args.first c.args.len c.place-end.result
    c.place-end.ensures.value c.place-end.ensures.within c.requires.first c.requires.len c.if-end-bytes.false c.copy_from_slice.ensures.after c.copy_from_slice-else-end-bytes.ensures.after
