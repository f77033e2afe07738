use Rattle.std.proofs.Common.{◌∙◌, suc, ap, sym}
use Rattle.bpf_btf.specs.CoreRelocations.{block_end}
use Rattle.bpf_lines.proofs.Blocks.{block_is, block_stays}
use Rattle.bpf_lines.proofs.line_info.block_of.Goals as goal

pub loop-at-preserved-then-is_called : goal.loop-at-preserved-then-is_called
loop-at-preserved-then-is_called c =
    let n = c.loop-at.invariant.0 in
    let at = c.loop-at.invariant.1 in (
      suc n,
      c.in-Some.ensures.found.0 ∙ ap (block_end c.args.listed.now) at,
      block_is c.args.strings.now c.args.listed.now c.args.name.now n c.loop-at.at at
          (sym (rw c.u32_at.ensures at c.is_called.ensures) ∙ c.if-is_called.true),
      c.in-Some.ensures.found.1,
      c.loop-at-test.true,
    )

pub loop-at-preserved : goal.loop-at-preserved
loop-at-preserved c =
    let n = c.loop-at.invariant.0 in
    let at = c.loop-at.invariant.1 in (
      suc n,
      c.in-Some.ensures.found.0 ∙ ap (block_end c.args.listed.now) at,
      block_stays c.args.strings.now c.args.listed.now c.args.name.now n c.loop-at.at c.loop-at.found at
          (sym (rw c.u32_at.ensures at c.is_called.ensures) ∙ c.if-is_called.false) c.loop-at.invariant.2,
      c.in-Some.ensures.found.1,
      c.loop-at.invariant.4,
    )
