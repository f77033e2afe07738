use Rattle.std.proofs.Common.{◌≡◌, ◌∙◌, false, inr, sym, true}
use Rattle.bpf_diff.specs.Alike.{same_writes}
use Rattle.bpf_diff.specs.Following.{are_together}
use Rattle.bpf_diff.proofs.Following.{Both-apart, Both-differ, Both-step}
use Rattle.bpf_diff.proofs.follow.go_alike.Goals as goal

pub returns-then-not-are_together : goal.returns-then-not-are_together
returns-then-not-are_together c =
    let apart : are_together c.loop-k.first c.loop-k.second ≡ false = sym c.are_together.ensures ∙ c.if-not-are_together.true in
    (Both-apart c.args.limit c.args.first.now c.args.second.now c.loop-k.first c.loop-k.second c.loop-k.k c.loop-k.invariant apart, inr apart)

pub returns-then-not-did_alike : goal.returns-then-not-did_alike
returns-then-not-did_alike c =
    let p = c.loop-k.first in
    let q = c.loop-k.second in
    let one = c.take_step.ensures in
    let other = c.take_step-in-loop-k.ensures in
    let both : are_together p q ≡ true = sym c.are_together.ensures ∙ c.if-not-are_together.false in
    let differ : same_writes p q ≡ false = sym (c.did_alike.ensures p q one other) ∙ c.if-not-did_alike.true in
    record {
      p = p;
      q = q;
      goes = Both-differ c.args.limit c.args.first.now c.args.second.now p q c.loop-k.k c.loop-k.invariant both differ;
      less = c.loop-k-test.true;
      both = both;
      first = one;
      second = other;
    }

pub loop-k-preserved : goal.loop-k-preserved
loop-k-preserved c =
    let p = c.loop-k.first in
    let q = c.loop-k.second in
    let one = c.take_step.ensures in
    let other = c.take_step-in-loop-k.ensures in
    let both : are_together p q ≡ true = sym c.are_together.ensures ∙ c.if-not-are_together.false in
    let same : same_writes p q ≡ true = sym (c.did_alike.ensures p q one other) ∙ c.if-not-did_alike.false in
    rw (one.next, other.next) (Both-step c.args.limit c.args.first.now c.args.second.now p q c.loop-k.k c.loop-k.invariant c.loop-k-test.true both same)
