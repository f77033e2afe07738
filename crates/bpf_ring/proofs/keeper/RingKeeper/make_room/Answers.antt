use Rattle.std.proofs.Common.{◌≡◌, ◌-◌, ◌∙◌, ap, subst, arith}
use Rattle.bpf_entries.specs.Keeping.{kept_weight, fit}
use Rattle.bpf_ring.specs.Held.{IsHeld}
use Rattle.bpf_ring.proofs.keeper.RingKeeper.make_room.Goals as goal
use Rattle.bpf_ring.proofs.Held.{left_dropped, left_all}

pub loop-self-preserved : goal.loop-self-preserved
loop-self-preserved c =
    let now = c.loop-self.self in
    let new = c.drop_oldest.new.self in
    record {
      size = c.drop_oldest.ensures.size ∙ c.loop-self.invariant.size;
      left = λ ks held.
          left_dropped now.ring new.ring now.counts new.counts (c.size.result - c.args.room) ks
          (omega (arith, c.len.ensures.value, c.loop-self-test.true)) c.drop_oldest.ensures.held (c.loop-self.invariant.left ks held);
    }

pub returns : goal.returns
returns c =
    let now = c.loop-self.self in
    let was = c.size.ensures in
    let size = c.loop-self.invariant.size in
    record {
      size = size;
      sized = (omega (arith, size, was.value, was.sized.0), omega (arith, size, was.value, was.sized.1));
      within = omega (arith, size, was.value, was.sized.0, c.requires, c.len.ensures.value, c.loop-self-test.false);
      held = λ ks held.
          let at : c.size.result - c.args.room ≡ c.args.self.now.ring.size - c.args.room = ap (λ n. n - c.args.room) was.value in
          subst (λ n. IsHeld now.ring now.counts (fit kept_weight n ks)) at
          (left_all now.ring now.counts (c.size.result - c.args.room) ks
          (omega (arith, c.len.ensures.value, c.loop-self-test.false)) (c.loop-self.invariant.left ks held));
    }
