use Rattle.std.proofs.Common.{◌∙◌, ap}
use Rattle.bpf_link.specs.declared.fault.LinkFault.TheVariants.{Place}
use Rattle.bpf_link.specs.Objects.{provided}
use Rattle.bpf_link.specs.Parts.{part_of}
use Rattle.bpf_link.specs.Patches.{is_next, patch_at}
use Rattle.bpf_link.specs.Tables.{relocation_at}
use Rattle.bpf_link.proofs.patch.patch_of.Goals as goal

pub returns-clause-value : goal.returns-clause-value
returns-clause-value c =
    let made = patch_at c.args.placed.now c.args.side in
    let part = c.part.ensures.value ∙ ap (λ plan. part_of plan.parts c.args.side) c.plan.ensures in
    c.patch_at.ensures.value
    ∙ ap made c.at.ensures
    ∙ ap (λ b. provided b Place (made (relocation_at c.part.result.now.relocations c.args.i))) c.if-not-is_next.ensures
    ∙ ap (λ part. provided (is_next part.relocations c.args.i) Place (made (relocation_at part.relocations c.args.i))) part
