use Rattle.std.proofs.Common.{◌≡◌, ◌+◌, ◌++◌, ◌∙◌, suc, ap, sym, append_assoc, arith}
use Rattle.bpf_packet.specs.Holding.{state_of}
use Rattle.bpf_packet.specs.Rewriting.{bytes_of, patched, rewritten_below}
use Rattle.bpf_packet.specs.Slots.{slot_at}
use Rattle.bpf_packet.specs.Uses.{patch_of}
use Rattle.bpf_packet.proofs.rewriting.with_rewritten.Goals as goal

pub loop-p-preserved : goal.loop-p-preserved
loop-p-preserved c =
    let p = c.loop-p.p in
    let next = patched (bytes_of c.args.words.now p) (patch_of c.args.packet (slot_at c.args.words.now p) (state_of c.args.table.now p)) in
    let e : p + 1 ≡ suc p = omega arith in
    c.in-Ok.ensures ∙ ap (λ front. front ++ next) c.loop-p.invariant
    ∙ append_assoc c.args.begun.items (rewritten_below c.args.packet c.args.words.now c.args.table.now p) next
    ∙ ap (λ n. c.args.begun.items ++ rewritten_below c.args.packet c.args.words.now c.args.table.now n) (sym e)
