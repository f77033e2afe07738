use Rattle.std.proofs.Common.{ℕ, refl, sym, subst, arith}
use Rattle.bpf_origin.specs.Pasts.{StandsThere, gone_from}
use Rattle.bpf_origin.proofs.Backs.{keeps_on}
use Rattle.bpf_origin.proofs.Going.{going_start, going_past, going_stays, going_step, going_cut, going_end}
use Rattle.bpf_origin.proofs.origin.put_origin.Goals as goal

pub loop-k-init : goal.loop-k-init
loop-k-init g c = (record { room = refl; refused = refl }, λ t stands. going_start g.P.Past.state g.P.Past.follows g.W.Write.contents c.args.question _ _ _ t (g.P.Past.state c.args.history.now) _ c.args.question.lines c.args.wanted.now c.args.history.now stands refl refl refl)

pub loop-k-preserved-then-pass_over : goal.loop-k-preserved-then-pass_over
loop-k-preserved-then-pass_over g c = (
  keeps_on g.P.Past.room g.P.Past.refused _ _ _ c.loop-k.invariant.0 c.pass_over.ensures.keeper,
  λ t stands.
      let n = c.moves-kept.ensures t stands in
      let here = c.loop-k-test.true in
      going_past g.P.Past.state g.P.Past.follows g.W.Write.contents c.args.question _ _ _ t (g.P.Past.state c.args.history.now) _ c.loop-k.k _ _ _ _ _ _ _ (c.loop-k.invariant.1 t stands) (omega arith) (c.pass_over.ensures.passed c.if-pass_over.true),
)

pub loop-k-preserved : goal.loop-k-preserved
loop-k-preserved g c = (
  keeps_on g.P.Past.room g.P.Past.refused _ _ _ (keeps_on g.P.Past.room g.P.Past.refused _ _ _ c.loop-k.invariant.0 c.pass_over.ensures.keeper) c.take_turn-turn.ensures.keeper,
  λ t stands.
      let n = c.moves-kept.ensures t stands in
      let here = c.loop-k-test.true in
      let stays = going_stays g.P.Past.state g.P.Past.follows g.W.Write.contents c.args.question _ _ _ t (g.P.Past.state c.args.history.now) _ c.loop-k.k _ _ _ _ _ _ _ (c.loop-k.invariant.1 t stands) (c.pass_over.ensures.stays c.if-pass_over.false).0 (c.pass_over.ensures.stays c.if-pass_over.false).1 in
      going_step g.P.Past.state g.P.Past.follows g.W.Write.contents c.args.question _ _ _ t (g.P.Past.state c.args.history.now) _ c.loop-k.k _ _ _ _ _ _ _ _ c.take_turn-turn.result stays (omega arith) c.take_turn-turn.ensures.takes c.in-None.is,
)

pub returns-in-Some : goal.returns-in-Some
returns-in-Some g c = record {
  text = λ t stands.
      let n = c.moves-kept.ensures t stands in
      let here = c.loop-k-test.true in
      let stays = going_stays g.P.Past.state g.P.Past.follows g.W.Write.contents c.args.question _ _ _ t (g.P.Past.state c.args.history.now) _ c.loop-k.k _ _ _ _ _ _ _ (c.loop-k.invariant.1 t stands) (c.pass_over.ensures.stays c.if-pass_over.false).0 (c.pass_over.ensures.stays c.if-pass_over.false).1 in
      (going_cut g.P.Past.state g.P.Past.follows g.W.Write.contents c.args.question _ _ _ t (g.P.Past.state c.args.history.now) _ c.loop-k.k _ _ _ _ _ _ _ _ c.take_turn-turn.result _ stays (omega arith) c.take_turn-turn.ensures.takes c.in-Some.is c.take_turn-turn.ensures.one).text;
  extent = λ t stands.
      let n = c.moves-kept.ensures t stands in
      let here = c.loop-k-test.true in
      let stays = going_stays g.P.Past.state g.P.Past.follows g.W.Write.contents c.args.question _ _ _ t (g.P.Past.state c.args.history.now) _ c.loop-k.k _ _ _ _ _ _ _ (c.loop-k.invariant.1 t stands) (c.pass_over.ensures.stays c.if-pass_over.false).0 (c.pass_over.ensures.stays c.if-pass_over.false).1 in
      (going_cut g.P.Past.state g.P.Past.follows g.W.Write.contents c.args.question _ _ _ t (g.P.Past.state c.args.history.now) _ c.loop-k.k _ _ _ _ _ _ _ _ c.take_turn-turn.result _ stays (omega arith) c.take_turn-turn.ensures.takes c.in-Some.is c.take_turn-turn.ensures.one).extent;
  back = λ t stands.
      let n = c.moves-kept.ensures t stands in
      let here = c.loop-k-test.true in
      let stays = going_stays g.P.Past.state g.P.Past.follows g.W.Write.contents c.args.question _ _ _ t (g.P.Past.state c.args.history.now) _ c.loop-k.k _ _ _ _ _ _ _ (c.loop-k.invariant.1 t stands) (c.pass_over.ensures.stays c.if-pass_over.false).0 (c.pass_over.ensures.stays c.if-pass_over.false).1 in
      (going_cut g.P.Past.state g.P.Past.follows g.W.Write.contents c.args.question _ _ _ t (g.P.Past.state c.args.history.now) _ c.loop-k.k _ _ _ _ _ _ _ _ c.take_turn-turn.result _ stays (omega arith) c.take_turn-turn.ensures.takes c.in-Some.is c.take_turn-turn.ensures.one).back;
  within = λ t stands.
      let n = c.moves-kept.ensures t stands in
      let here = c.loop-k-test.true in
      let stays = going_stays g.P.Past.state g.P.Past.follows g.W.Write.contents c.args.question _ _ _ t (g.P.Past.state c.args.history.now) _ c.loop-k.k _ _ _ _ _ _ _ (c.loop-k.invariant.1 t stands) (c.pass_over.ensures.stays c.if-pass_over.false).0 (c.pass_over.ensures.stays c.if-pass_over.false).1 in
      (going_cut g.P.Past.state g.P.Past.follows g.W.Write.contents c.args.question _ _ _ t (g.P.Past.state c.args.history.now) _ c.loop-k.k _ _ _ _ _ _ _ _ c.take_turn-turn.result _ stays (omega arith) c.take_turn-turn.ensures.takes c.in-Some.is c.take_turn-turn.ensures.one).within;
  keeper = keeps_on g.P.Past.room g.P.Past.refused _ _ _ (keeps_on g.P.Past.room g.P.Past.refused _ _ _ c.loop-k.invariant.0 c.pass_over.ensures.keeper) c.take_turn-turn.ensures.keeper;
}

pub returns : goal.returns
returns g c = record {
  text = λ t stands.
      let n = c.moves-kept.ensures t stands in
      let fin = c.loop-k-test.false in
      let within = c.loop-k.auto.k-end in
      (going_end g.P.Past.state g.P.Past.follows g.W.Write.contents c.args.question _ _ _ t (g.P.Past.state c.args.history.now) _ c.loop-k.k _ _ _ _ _ _ _ (c.loop-k.invariant.1 t stands) (omega arith) (rw (c.machine.ensures, c.as_slice.ensures.value) at c.put_left-last.ensures)).text;
  extent = λ t stands.
      let n = c.moves-kept.ensures t stands in
      let fin = c.loop-k-test.false in
      let within = c.loop-k.auto.k-end in
      (going_end g.P.Past.state g.P.Past.follows g.W.Write.contents c.args.question _ _ _ t (g.P.Past.state c.args.history.now) _ c.loop-k.k _ _ _ _ _ _ _ (c.loop-k.invariant.1 t stands) (omega arith) (rw (c.machine.ensures, c.as_slice.ensures.value) at c.put_left-last.ensures)).extent;
  back = λ t stands.
      let n = c.moves-kept.ensures t stands in
      let fin = c.loop-k-test.false in
      let within = c.loop-k.auto.k-end in
      subst (λ (m : ℕ). StandsThere g.P.Past.state g.P.Past.follows c.loop-k.history (gone_from m t (g.P.Past.state c.args.history.now))) (sym n)
      (going_end g.P.Past.state g.P.Past.follows g.W.Write.contents c.args.question _ _ _ t (g.P.Past.state c.args.history.now) _ c.loop-k.k _ _ _ _ _ _ _ (c.loop-k.invariant.1 t stands) (omega arith) (rw (c.machine.ensures, c.as_slice.ensures.value) at c.put_left-last.ensures)).back;
  within = λ t stands. let n = c.moves-kept.ensures t stands in omega (arith, n);
  keeper = c.loop-k.invariant.0;
}
