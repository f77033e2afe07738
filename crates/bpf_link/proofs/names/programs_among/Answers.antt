use Rattle.std.proofs.Common.{◌∙◌, add-one, ap, sym}
use Rattle.bpf_link.specs.Names.{built, with_program}
use Rattle.bpf_link.proofs.names.programs_among.Goals as goal

pub loop-i-preserved : goal.loop-i-preserved
loop-i-preserved c =
    let step = with_program c.args.object.now c.args.names c.args.symbols.now in
    c.with_program-places.ensures ∙ ap (step c.loop-i.i) c.loop-i.invariant ∙ sym (ap (built step) (add-one c.loop-i.i))
