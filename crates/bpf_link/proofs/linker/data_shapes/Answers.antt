use Rattle.std.proofs.Common.{◌++◌, ◌∷◌, [], ◌∙◌, take, sym, ap, subst}
use Rattle.std.specs.Prelude.{map}
use Rattle.std.proofs.lemmas.List.Elements.{All-push}
use Rattle.bpf_isa.specs.Maps.{IsShape}
use Rattle.bpf_link.specs.Links.{data_shape, shape_of_data, AllShapes}
use Rattle.bpf_link.proofs.Mapped.{map_more}
use Rattle.bpf_link.proofs.linker.data_shapes.Goals as goal

pub loop-section-preserved : goal.loop-section-preserved
loop-section-preserved c =
    let of = shape_of_data c.args.plan.now in
    let shape = c.data_shape.ensures.value ∙ ap (λ header. data_shape header.size) c.section-header.ensures in
    record {
      made =
          c.push.ensures.items
          ∙ ap (λ shapes. shapes ++ c.data_shape.result ∷ []) c.loop-section.invariant.made
          ∙ ap (λ last. map of (take c.loop-section.section-index c.args.taken.now) ++ last ∷ []) shape
          ∙ sym (map_more of c.args.taken.now c.loop-section.section-index c.loop-section-test.true);
      possible =
          subst AllShapes (sym c.push.ensures.items) (All-push IsShape c.loop-section.shapes.items c.data_shape.result c.loop-section.invariant.possible c.data_shape.ensures.shape);
    }
