use Rattle.std.proofs.Common.{◌+◌, ◌++◌, length, ◌∷◌, refl, arith}
use Rattle.byteorder.specs.Endian.{little_bytes}
use Rattle.bpf_entries.specs.Texts.{slot, tag}
use Rattle.bpf_entries.proofs.write.runs.put_call.Goals as goal
use Rattle.bpf_entries.proofs.Parts.{two_parts}

pub returns : goal.returns
returns c =
    let old = c.args.old.now in
    let weight = 7 + length old in
    two_parts 5 (length old + 2) weight c.args.room.now
    (little_bytes 2 weight ++ tag 3 c.args.mark ∷ slot c.args.pc)
    (old ++ little_bytes 2 weight) _ _ (omega arith) refl c.put_call_head.ensures c.put_tail.ensures
