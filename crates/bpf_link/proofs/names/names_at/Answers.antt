use Rattle.std.proofs.Common.{◌∙◌, ap, sym, add-one, arith}
use Rattle.bpf_link.specs.Names.{built, with_name}
use Rattle.bpf_link.proofs.names.names_at.Goals as goal

pub loop-k-preserved : goal.loop-k-preserved
loop-k-preserved c =
    let step = with_name c.args.object.now c.args.places.now in
    let before = c.loop-k.invariant.size in
    let more = c.with_name-text.ensures.size in
    record {
      made = c.with_name-text.ensures.value ∙ ap (step c.loop-k.k) c.loop-k.invariant.made ∙ ap (built step) (sym (add-one c.loop-k.k));
      size = omega (arith, before, more);
    }
