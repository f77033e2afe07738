use Rattle.std.proofs.Common.{◌∙◌, refl, sym, ap, arith}
use Rattle.bpf_origin.proofs.Backs.{keeps_on}
use Rattle.bpf_whynot.specs.Answers.{lies_at}
use Rattle.bpf_whynot.specs.Standings.{standing}
use Rattle.bpf_whynot.proofs.Overwriting.{other_number, same_number}
use Rattle.bpf_whynot.proofs.Passing.{found, never, passed_more, passed_none, passed_stop}
use Rattle.bpf_whynot.proofs.whynot.go_to.Goals as goal

pub loop-k-init : goal.loop-k-init
loop-k-init g c = (record { room = refl; refused = refl }, λ t stands. passed_none g.P.Past.state g.P.Past.follows (lies_at c.args.moves) t (g.P.Past.state c.args.history.now) c.args.history.now stands refl)

pub loop-k-preserved : goal.loop-k-preserved
loop-k-preserved g c = (
  keeps_on g.P.Past.room g.P.Past.refused _ _ _ c.loop-k.invariant.0 c.take_back.ensures.keeper,
  λ t stands.
      let n = c.moves-k-end.ensures t stands in
      let here = c.loop-k-test.true in
      passed_more g.P.Past.state g.P.Past.follows (lies_at c.args.moves) t (g.P.Past.state c.args.history.now) c.take_back.result c.loop-k.history c.take_back.new.self c.loop-k.k
      (c.loop-k.invariant.1 t stands) (omega (arith, n, here)) c.take_back.ensures.back
      (other_number _ _ c.if-number-moves.false),
)

pub returns-then-number-moves-clause-goes : goal.returns-then-number-moves-clause-goes
returns-then-number-moves-clause-goes g c = λ t stands.
    let n = c.moves-k-end.ensures t stands in
    let here = c.loop-k-test.true in
    found g.P.Past.state g.P.Past.follows (lies_at c.args.moves) t (g.P.Past.state c.args.history.now) c.take_back.result c.in-Some.taken c.loop-k.history c.take_back.new.self
    c.loop-k.k c.of-after.result (c.loop-k.invariant.1 t stands) (omega (arith, n, here)) c.in-Some.is (c.of-after.ensures ∙ ap standing c.machine.ensures) c.take_back.ensures.back
    (same_number _ _ c.if-number-moves.true)

pub returns-in_default-clause-goes : goal.returns-in_default-clause-goes
returns-in_default-clause-goes g c = λ t stands.
    let n = c.moves-k-end.ensures t stands in
    let here = c.loop-k-test.true in
    passed_stop g.P.Past.state g.P.Past.follows (lies_at c.args.moves) t (g.P.Past.state c.args.history.now) c.take_back.result c.loop-k.history c.take_back.new.self c.loop-k.k
    (c.loop-k.invariant.1 t stands) (omega (arith, n, here)) c.in_default.is c.take_back.ensures.back

pub returns-clause-goes : goal.returns-clause-goes
returns-clause-goes g c = λ t stands.
    let n = c.moves-k-end.ensures t stands in
    let here = c.loop-k-test.false in
    never g.P.Past.state g.P.Past.follows (lies_at c.args.moves) t (g.P.Past.state c.args.history.now) c.loop-k.history c.loop-k.k (c.loop-k.invariant.1 t stands) (omega (arith, n, here))
