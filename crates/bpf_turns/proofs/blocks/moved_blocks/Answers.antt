use Rattle.std.proofs.Common.{◌∙◌, suc, ap}
use Rattle.bpf_btf.specs.CoreRelocations.{block_end}
use Rattle.bpf_turns.specs.Blocks.{records_at, rest_at}
use Rattle.bpf_turns.proofs.Lists.{records_are, rest_is}
use Rattle.bpf_turns.proofs.Pieces.{gathered_suc}
use Rattle.bpf_turns.proofs.blocks.moved_blocks.Goals as goal

pub loop-at-preserved : goal.loop-at-preserved
loop-at-preserved c =
    let object = c.args.object.now in
    let strings = c.args.strings.now in
    let calls = c.args.calls.now in
    let listed = c.args.listed.now in
    let n = c.loop-at.invariant.0 in
    let begins = c.loop-at.invariant.1 in
    let ends = c.in-Some.ensures.found.0 in
    let called = c.block_call-call.ensures.value in (
      suc n,
      ends ∙ ap (block_end listed) begins,
      c.in-Some.ensures.found.2,
      gathered_suc (records_at object strings calls listed) n c.loop-at.records.items _ c.in-Ok.new.items c.in-Ok.ensures.ok
          (records_are object strings calls listed n c.loop-at.at c.in-Some.end c.size_of-size.result c.block_call-call.result begins ends c.size_of-size.ensures called)
          c.loop-at.invariant.3,
      gathered_suc (rest_at object strings calls listed) n c.loop-at.rest.items _ c.in-Ok-with_rest.new.items c.in-Ok-with_rest.ensures.ok
          (rest_is object strings calls listed n c.loop-at.at c.in-Some.end c.block_call-call.result begins ends called) c.loop-at.invariant.4,
    )
