use Rattle.std.proofs.Common.{ℕ, List, ◌++◌, sym, ap, append_assoc}
use Rattle.bpf_remote.proofs.Telling.{Holds-text, memory-more, memory-end, memory-all}
use Rattle.bpf_remote.proofs.answer.append_present.Goals as goal

pub returns-in-None : goal.returns-in-None
returns-in-None c = λ text held.
    let i = c.loop-k.invariant text held in
    Holds-text _ _ _ i.1
    (ap (λ (v : List ℕ). text ++ v) (sym (memory-end c.args.cpu.now c.args.address c.args.count c.loop-k.k i.0 c.loop-k-test.true (sym (rw c.in-None.is at c.byte_at.ensures)) i.2)))

pub loop-k-preserved : goal.loop-k-preserved
loop-k-preserved c = λ text held.
    let i = c.loop-k.invariant text held in (
      _,
      Holds-text _ _ _ (c.append_hex.ensures _ i.1) (append_assoc text i.0 _),
      memory-more c.args.cpu.now c.args.address c.args.count c.loop-k.k i.0 _ c.loop-k-test.true (sym (rw c.in-Some.is at c.byte_at.ensures)) i.2,
    )

pub returns : goal.returns
returns c = λ text held.
    let i = c.loop-k.invariant text held in
    Holds-text _ _ _ i.1 (ap (λ (v : List ℕ). text ++ v) (sym (memory-all c.args.cpu.now c.args.address c.args.count c.loop-k.k i.0 c.loop-k-test.false i.2)))
