use Rattle.std.proofs.Common.{◌≡◌, ◌∙◌, ◌<◌, ◌+◌, ◌-◌, ◌*◌, arith, get_or, subst, ℕ}
use Rattle.std.proofs.lemmas.List.{length-set}
use Rattle.bpf_diff.specs.Writers.{no_step}
use Rattle.bpf_diff.proofs.Noting.{handed-more, handed_to}
use Rattle.bpf_diff.proofs.told_writers.inherit.Goals as goal

pub loop-k-preserved : goal.loop-k-preserved
loop-k-preserved c =
    let inv = c.loop-k.invariant in
    let low = inv.low in
    record {
      full = length-set c.loop-k.notes (c.args.depth * 10 + c.loop-k.k) (get_or c.loop-k.notes (c.args.depth * 10 - 10 + c.loop-k.k) no_step) ∙ inv.full;
      low = omega (arith, low);
      each = handed-more c.args.depth c.loop-k.k c.args.notes.now c.loop-k.notes inv.full c.if-depth-gt0.true c.if-depth-lt8.true
          inv.low c.loop-k-test.true inv.each;
    }

pub returns-after-loop-k : goal.returns-after-loop-k
returns-after-loop-k c = λ some deep.
    let all : c.loop-k.k ≡ 10 = omega (arith, c.loop-k-test.false, c.loop-k.auto.k-end) in
    subst (λ (k : ℕ). (i : ℕ) → i < 80 → get_or c.loop-k.notes i no_step ≡ handed_to c.args.depth k c.args.notes.now i) all c.loop-k.invariant.each
