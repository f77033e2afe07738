use Rattle.std.proofs.Common.{◌∷◌, ◌++◌, refl, arith}
use Rattle.byteorder.specs.Endian.{little_bytes}
use Rattle.bpf_entries.specs.Texts.{number, slot, tag}
use Rattle.bpf_entries.proofs.write.fixed.put_return_parts.Goals as goal
use Rattle.bpf_entries.proofs.Parts.{two_parts}

pub returns : goal.returns
returns c =
    two_parts 13 26 39 c.args.room.now
    (little_bytes 2 39 ++ tag 4 c.args.mark ∷ (slot c.args.pc ++ number c.args.r6))
    (number c.args.r7 ++ (number c.args.r8 ++ (number c.args.r9 ++ little_bytes 2 39))) _ _ (omega arith) refl
    c.put_return_head.ensures c.put_return_tail.ensures
