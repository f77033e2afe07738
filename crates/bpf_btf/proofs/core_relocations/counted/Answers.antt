use Rattle.std.proofs.Common.{◌∙◌, suc, ap}
use Rattle.bpf_btf.specs.CoreRelocations.{block_end, block_place, with_block}
use Rattle.bpf_btf.proofs.core_relocations.counted.Goals as goal

pub loop-at-preserved : goal.loop-at-preserved
loop-at-preserved c =
    let n = c.loop-at.invariant.0 in
    let at = c.loop-at.invariant.1 in (
      suc n,
      c.in-Some.ensures.found.0 ∙ ap (block_end c.args.listed.now) at,
      c.with_block-sum.ensures
          ∙ ap (λ a. with_block c.args.strings.now c.args.listed.now c.args.name.now a c.loop-at.sum) at
          ∙ ap (with_block c.args.strings.now c.args.listed.now c.args.name.now (block_place c.args.listed.now n)) c.loop-at.invariant.2,
      c.in-Some.ensures.found.1,
    )
