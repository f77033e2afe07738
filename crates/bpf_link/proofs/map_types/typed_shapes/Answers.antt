use Rattle.std.proofs.Common.{◌∙◌, ◌+◌, [], ◌∷◌, ◌++◌, Ok, length, sym, ap}
use Rattle.std.proofs.lemmas.List.{length_push}
use Rattle.bpf_link.specs.MapTypes.{with_typed}
use Rattle.bpf_link.specs.Plans.{after}
use Rattle.bpf_link.proofs.Steps.{fails, one_more}
use Rattle.bpf_link.proofs.map_types.typed_shapes.Goals as goal

pub returns-in-Err-clause-err : goal.returns-in-Err-clause-err
returns-in-Err-clause-err c =
    fails (with_typed c.args.plan.now c.args.types.now c.args.places.now) [] c.loop-k.k (length c.args.places.now) c.loop-k.shapes.items c.in-Err.fault
    c.loop-k-test.true c.loop-k.invariant.made
    (ap (λ r. after r (λ shape. Ok (c.loop-k.shapes.items ++ shape ∷ []))) (sym c.typed_at.ensures ∙ c.in-Err.is))

pub loop-k-preserved : goal.loop-k-preserved
loop-k-preserved c = record {
  made = one_more (with_typed c.args.plan.now c.args.types.now c.args.places.now) [] c.loop-k.k c.loop-k.shapes.items (Ok c.push.new.self.items)
      c.loop-k.invariant.made
      (ap (λ r. after r (λ shape. Ok (c.loop-k.shapes.items ++ shape ∷ []))) (sym c.typed_at.ensures ∙ c.in-Ok.is) ∙ ap Ok (sym c.push.ensures.items));
  size = ap length c.push.ensures.items ∙ length_push c.loop-k.shapes.items c.in-Ok.shape ∙ ap (λ n. n + 1) c.loop-k.invariant.size;
}
