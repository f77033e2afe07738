use Rattle.std.proofs.Common.{refl, arith}
use Rattle.bpf_whynot.proofs.Unmaking.{no_end, noticed_flags, noticed_more, noticed_newest, noticed_none, place_there, stands_first, stands_next, still_shallow, told}
use Rattle.bpf_whynot.proofs.made.leave_unmade.Goals as goal

pub loop-k-init : goal.loop-k-init
loop-k-init g c = record {
  stands = λ es held. stands_first _ _ _ es _ _ _ (c.end-at.ensures es held) refl;
  noticed = λ es program goals held are. noticed_none program goals es _ _ _ are refl;
}

pub walk_back-requires : goal.walk_back-requires
walk_back-requires g c = let r = c.requires.some in place_there _ _ _ r.0 _ _ _ _ r.1 (c.loop-k.invariant.stands r.0 r.1)

pub returns-in_default-clause-left : goal.returns-in_default-clause-left
returns-in_default-clause-left g c = λ es program goals held are.
    let n = c.len-k-end.ensures es held in
    let here = c.loop-k-test.true in
    absurd (no_end _ _ _ es _ _ _ _ held (omega (arith, n, here)) (c.loop-k.invariant.stands es held) (rw c.in_default.is at c.walk_back.ensures))

pub returns-in_default-clause-newest : goal.returns-in_default-clause-newest
returns-in_default-clause-newest g c = λ es program goals held are.
    let n = c.len-k-end.ensures es held in
    let here = c.loop-k-test.true in
    absurd (no_end _ _ _ es _ _ _ _ held (omega (arith, n, here)) (c.loop-k.invariant.stands es held) (rw c.in_default.is at c.walk_back.ensures))

pub depth_before-deep-requires : goal.depth_before-deep-requires
depth_before-deep-requires g c =
    let r = c.requires.some in
    let n = c.len-k-end.ensures r.0 r.1 in
    let here = c.loop-k-test.true in
    still_shallow _ _ _ r.0 _ _ _ _ _ c.requires.shallow (c.invariant.ensures r.0 r.1) (omega (arith, n, here)) (c.loop-k.invariant.stands r.0 r.1)

pub loop-k-preserved : goal.loop-k-preserved
loop-k-preserved g c = record {
  stands = λ es held.
      let n = c.len-k-end.ensures es held in
      let here = c.loop-k-test.true in
      let stands = c.loop-k.invariant.stands es held in
      stands_next _ _ _ es _ _ _ _ _ _ _ stands (told _ _ _ es _ _ _ _ _ _ _ held (omega (arith, n, here)) stands (rw c.in-Some.is at c.walk_back.ensures)) c.depth_before-deep.ensures;
  noticed = λ es program goals held are.
      let n = c.len-k-end.ensures es held in
      let here = c.loop-k-test.true in
      let stands = c.loop-k.invariant.stands es held in
      let t = told _ _ _ es _ _ _ _ _ _ _ held (omega (arith, n, here)) stands (rw c.in-Some.is at c.walk_back.ensures) in
      noticed_more program goals es _ _ _ _ _ (c.loop-k.invariant.noticed es program goals held are) t.found _ _ _ _ t.front t.entry_is
      (λ left flags. c.take_notice-newest.ensures.left program left flags)
      (λ left flags. c.take_notice-newest.ensures.newest program left flags) c.depth_before-deep.ensures;
}

pub returns-clause-left : goal.returns-clause-left
returns-clause-left g c = λ es program goals held are.
    let n = c.len-k-end.ensures es held in
    let fin = c.loop-k-test.false in
    noticed_flags program goals es _ _ _ _ _ (c.loop-k.invariant.noticed es program goals held are) (omega (arith, n, fin))

pub returns-clause-newest : goal.returns-clause-newest
returns-clause-newest g c = λ es program goals held are.
    let n = c.len-k-end.ensures es held in
    let fin = c.loop-k-test.false in
    noticed_newest program goals es _ _ _ _ _ (c.loop-k.invariant.noticed es program goals held are) (omega (arith, n, fin))
