use Rattle.std.proofs.Common.{◌∙◌, ap, arith, refl, sym}
use Rattle.bpf_journal.proofs.Walks.{entry_at}
use Rattle.bpf_whynot.specs.Overwrites.{branch_of}
use Rattle.bpf_whynot.proofs.Overwriting.{known_end, known_first, known_more, known_there, other_number, same_number}
use Rattle.bpf_whynot.proofs.Unmaking.{no_end, place_there, stands_first, stands_next, still_shallow, told}
use Rattle.bpf_whynot.proofs.over.branch_over.Goals as goal

pub loop-k-init : goal.loop-k-init
loop-k-init g c = record {
  stands = λ es held. stands_first _ _ _ es _ _ _ (c.end-at.ensures es held) refl;
  known = λ es held. known_first c.args.program.now c.args.made es _ _ refl;
}

pub walk_back-requires : goal.walk_back-requires
walk_back-requires g c = let r = c.requires.some in place_there _ _ _ r.0 _ _ _ _ r.1 (c.loop-k.invariant.stands r.0 r.1)

pub returns-in_default : goal.returns-in_default
returns-in_default g c = λ es held.
    let n = c.len-k-end.ensures es held in
    let here = c.loop-k-test.true in
    absurd (no_end _ _ _ es _ _ _ _ held (omega (arith, n, here)) (c.loop-k.invariant.stands es held) (rw c.in_default.is at c.walk_back.ensures))

pub depth_before-deep-requires : goal.depth_before-deep-requires
depth_before-deep-requires g c =
    let r = c.requires.some in
    let n = c.len-k-end.ensures r.0 r.1 in
    let here = c.loop-k-test.true in
    still_shallow _ _ _ r.0 _ _ _ _ _ c.requires.shallow (c.invariant.ensures r.0 r.1) (omega (arith, n, here)) (c.loop-k.invariant.stands r.0 r.1)

pub loop-k-preserved : goal.loop-k-preserved
loop-k-preserved g c = record {
  stands = λ es held.
      let n = c.len-k-end.ensures es held in
      let here = c.loop-k-test.true in
      let stands = c.loop-k.invariant.stands es held in
      stands_next _ _ _ es _ _ _ _ _ _ _ stands (told _ _ _ es _ _ _ _ _ _ _ held (omega (arith, n, here)) stands (rw c.in-Some.is at c.walk_back.ensures)) c.depth_before-deep.ensures;
  known = λ es held.
      let n = c.len-k-end.ensures es held in
      let here = c.loop-k-test.true in
      let stands = c.loop-k.invariant.stands es held in
      let t = told _ _ _ es _ _ _ _ _ _ _ held (omega (arith, n, here)) stands (rw c.in-Some.is at c.walk_back.ensures) in
      known_more c.args.program.now c.args.made es _ _ _ _ t.found _ _ _ t.front t.entry_is (c.loop-k.invariant.known es held) (other_number _ _ c.if-number-own.false)
      (rw c.part_made-place.ensures at c.seen-over.ensures) c.depth_before-deep.ensures;
}

pub returns-then-number-own : goal.returns-then-number-own
returns-then-number-own g c = λ es held.
    let n = c.len-k-end.ensures es held in
    let here = c.loop-k-test.true in
    let a = entry_at es c.loop-k.k (omega (arith, n, here)) in
    c.branch_of.ensures
    ∙ sym (ap branch_of (known_there c.args.program.now c.args.made es _ _ _ _ a.found a.front (c.loop-k.invariant.known es held) (same_number _ _ c.if-number-own.true)))

pub returns : goal.returns
returns g c = λ es held.
    let n = c.len-k-end.ensures es held in
    let fin = c.loop-k-test.false in
    c.branch_of-2.ensures ∙ sym (ap branch_of (known_end c.args.program.now c.args.made es _ _ _ _ (c.loop-k.invariant.known es held) (omega (arith, n, fin))))
