use Rattle.std.proofs.Common.{◌+◌, ◌++◌, List, ℕ, ap, codes, decimal, drop, length}
use Rattle.bpf_trace.proofs.Heads.{Held-add}
use Rattle.bpf_trace.proofs.head.put_object_head.Goals as goal

pub returns-clause-text : goal.returns-clause-text
returns-clause-text g c =
    let insn = drop (length (decimal c.args.head.now.slot) + 2) c.args.head.now.text.now in
    let lead = rw (c.add_decimal-2.ensures.text, c.add-2.ensures, c.add_decimal.ensures.text, c.add.ensures, c.clear.ensures, c.from.ensures) at c.add-3.ensures in
    let held = rw c.insn_in.ensures at c.put_long-told.ensures.text in
    Held-add g.W.Write.contents _ _ _ _ _ _ _ _ _ held c.add-4.ensures (ap (λ (t : List ℕ). t ++ insn ++ codes "\"") lead)
