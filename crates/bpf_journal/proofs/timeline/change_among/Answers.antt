use Rattle.std.proofs.Common.{arith}
use Rattle.bpf_journal.proofs.ByteChanges.{looking_start, looking_place, looking_past, looking_shallow, looking_on, looking_step, looking_found, looking_end}
use Rattle.bpf_journal.proofs.timeline.change_among.Goals as goal

pub loop-k-init : goal.loop-k-init
loop-k-init g c = record {
  within = omega arith;
  looking = λ es held. looking_start _ _ _ es _ _ _ _ (c.end-at.ensures es held);
}

pub pass_over-passed-requires : goal.pass_over-passed-requires
pass_over-passed-requires g c =
    let r = c.requires.some in
    looking_place _ _ _ r.es _ _ _ _ _ _ r.held (c.loop-k.invariant.looking r.es r.held)

pub overflow_add-k : goal.overflow_add-k
overflow_add-k g c =
    let r = c.requires.some in
    let n = c.len-len.ensures r.es r.held in
    let past = looking_past _ _ _ r.es _ _ _ _ _ _ _ r.held (omega (arith, c.loop-k.invariant.within, n)) (c.loop-k.invariant.looking r.es r.held) c.pass_over-passed.ensures in
    omega (arith, past.1, n)

pub byte_before-requires-clause-place : goal.byte_before-requires-clause-place
byte_before-requires-clause-place g c =
    let r = c.requires.some in
    let n = c.len-len.ensures r.es r.held in
    let past = looking_past _ _ _ r.es _ _ _ _ _ _ _ r.held (omega (arith, c.loop-k.invariant.within, n)) (c.loop-k.invariant.looking r.es r.held) c.pass_over-passed.ensures in
    looking_place _ _ _ r.es _ _ _ _ _ _ r.held past.0

pub byte_before-requires-clause-shallow : goal.byte_before-requires-clause-shallow
byte_before-requires-clause-shallow g c =
    let r = c.requires.some in
    let n = c.len-len.ensures r.es r.held in
    let past = looking_past _ _ _ r.es _ _ _ _ _ _ _ r.held (omega (arith, c.loop-k.invariant.within, n)) (c.loop-k.invariant.looking r.es r.held) c.pass_over-passed.ensures in
    looking_shallow _ _ _ r.es _ _ _ _ _ _ _ c.requires.shallow (c.invariant.ensures r.es r.held) (omega (arith, c.if-k-len.false, n)) past.0

pub returns-then-k-len : goal.returns-then-k-len
returns-then-k-len g c = λ es held.
    let n = c.len-len.ensures es held in
    let past = looking_past _ _ _ es _ _ _ _ _ _ _ held (omega (arith, c.loop-k.invariant.within, n)) (c.loop-k.invariant.looking es held) c.pass_over-passed.ensures in
    looking_end _ _ _ es _ _ _ _ _ _ (omega (arith, c.if-k-len.true, past.1, n)) past.0

pub returns-in_default : goal.returns-in_default
returns-in_default g c = λ es held.
    let n = c.len-len.ensures es held in
    let past = looking_past _ _ _ es _ _ _ _ _ _ _ held (omega (arith, c.loop-k.invariant.within, n)) (c.loop-k.invariant.looking es held) c.pass_over-passed.ensures in
    absurd (looking_on _ _ _ es _ _ _ _ _ _ held (omega (arith, c.if-k-len.false, n)) past.0 (rw c.in_default.is at c.byte_before.ensures))

pub returns-then-old-value : goal.returns-then-old-value
returns-then-old-value g c = λ es held.
    let n = c.len-len.ensures es held in
    let past = looking_past _ _ _ es _ _ _ _ _ _ _ held (omega (arith, c.loop-k.invariant.within, n)) (c.loop-k.invariant.looking es held) c.pass_over-passed.ensures in
    looking_found _ _ _ es _ _ _ _ _ _ _ _ _ held (omega (arith, c.if-k-len.false, n)) past.0 (rw c.in-Some.is at c.byte_before.ensures) c.if-old-value.true

pub loop-k-preserved : goal.loop-k-preserved
loop-k-preserved g c = record {
  within = omega (arith, c.if-k-len.false);
  looking = λ es held.
      let n = c.len-len.ensures es held in
      let past = looking_past _ _ _ es _ _ _ _ _ _ _ held (omega (arith, c.loop-k.invariant.within, n)) (c.loop-k.invariant.looking es held) c.pass_over-passed.ensures in
      looking_step _ _ _ es _ _ _ _ _ _ _ _ _ held (omega (arith, c.if-k-len.false, n)) past.0 (rw c.in-Some.is at c.byte_before.ensures) c.if-old-value.false;
}

pub returns : goal.returns
returns g c = λ es held.
    let n = c.len-len.ensures es held in
    let fin = c.loop-k-test.false in
    looking_end _ _ _ es _ _ _ _ _ _ (omega (arith, fin, c.loop-k.invariant.within, n)) (c.loop-k.invariant.looking es held)
