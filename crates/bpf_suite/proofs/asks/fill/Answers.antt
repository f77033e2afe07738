use Rattle.std.proofs.Common.{◌≡◌, ◌+◌, ◌-◌, [], ◌∷◌, ◌++◌, append_assoc, length, replicate, ap, ◌∙◌, arith}
use Rattle.std.proofs.lemmas.List.{replicate_more}
use Rattle.bpf_suite.proofs.asks.fill.Goals as goal

pub loop-preserved : goal.loop-preserved
loop-preserved c =
    let old = c.args.spots.now.items in
    let spot = c.args.spot in
    let k = c.loop.counter - length old in
    let next : k + 1 ≡ c.loop.counter + 1 - length old = omega (arith, c.loop.auto.counter, c.len-begun.ensures) in (
      c.in-Ok.ensures.items ∙ ap (λ s. s ++ spot ∷ []) c.loop.invariant.0 ∙ append_assoc old (replicate k spot) (spot ∷ [])
          ∙ ap (λ s. old ++ s) (replicate_more k spot ∙ ap (λ n. replicate n spot) next),
      (λ past. absurd (omega (arith, past, c.loop.auto.counter, c.loop-test.true))),
    )

pub returns : goal.returns
returns c =
    let old = c.args.spots.now.items in
    let end : c.loop.counter - length old ≡ c.args.n - length old =
    grind (arith, c.loop.auto.counter-end, c.loop.invariant.1, c.loop-test.false, c.len-begun.ensures, c.loop.auto.counter) in
    c.loop.invariant.0 ∙ ap (λ n. old ++ replicate n c.args.spot) end
