use Rattle.std.proofs.Common.{◌∙◌, add-one}
use Rattle.bpf_ring.specs.Held.{IsHeld}
use Rattle.bpf_ring.proofs.StretchLaws.{drop_one}
use Rattle.bpf_ring.proofs.keeper.RingKeeper.drop_some.Goals as goal

pub loop-init : goal.loop-init
loop-init c = record {
  size = c.drop_stretch.ensures.size;
  held = λ ks held. c.drop_stretch.ensures.held ks held (c.newest_stretch-stretch.ensures.stretch ks held);
}

pub loop-preserved : goal.loop-preserved
loop-preserved c =
    let i = c.loop.invariant in
    let new = c.drop_last.new.self in
    record {
      size = c.drop_last.ensures.size ∙ i.size;
      held = λ ks held. rw add-one (drop_one (IsHeld c.loop.self.ring c.loop.self.counts) (IsHeld new.ring new.counts) c.loop.counter ks c.drop_last.ensures.none c.drop_last.ensures.some (i.held ks held));
    }
