use Rattle.std.proofs.Common.{arith}
use Rattle.bpf_journal.proofs.Walks.{counted_on, walking_place, walking_step, walking_on}
use Rattle.bpf_journal.proofs.keeper.Keeper.steps.Goals as goal

pub walk_back-requires : goal.walk_back-requires
walk_back-requires g c =
    let r = c.requires in
    walking_place _ _ _ r.es _ _ _ r.held (c.loop.invariant.1 r.es r.held)

pub returns-in_default : goal.returns-in_default
returns-in_default g c = λ es held.
    let n = c.len-end.ensures es held in
    let here = c.loop-test.true in
    absurd (walking_on _ _ _ es _ _ _ held (omega arith) (c.loop.invariant.1 es held) (rw c.in_default.is at c.walk_back.ensures))

pub loop-preserved : goal.loop-preserved
loop-preserved g c = (
  rw c.step_count-steps.ensures (counted_on _ _ _ c.loop.invariant.0),
  λ es held.
      let n = c.len-end.ensures es held in
      let here = c.loop-test.true in
      rw c.step_count-steps.ensures (walking_step _ _ _ es _ _ _ _ _ _ held (omega arith) (c.loop.invariant.1 es held) (rw c.in-Some.is at c.walk_back.ensures)),
)
