use Rattle.std.proofs.Common.{◌∙◌, Ok, length, sym, ap}
use Rattle.bpf_link.specs.Links.{with_relocation}
use Rattle.bpf_link.specs.Parts.{part_of}
use Rattle.bpf_link.proofs.Steps.{one_more, fails, patched, not_patched}
use Rattle.bpf_link.proofs.words.relocate.Goals as goal

pub returns-in-Err-clause-err : goal.returns-in-Err-clause-err
returns-in-Err-clause-err c =
    fails (with_relocation c.args.placed.now c.args.side) c.args.words.now c.loop-i.i (length (part_of c.args.placed.now.plan.parts c.args.side).relocations) c.loop-i.words c.in-Err.fault
    (rw (c.len-count.ensures ∙ ap (λ part. length part.relocations) (c.part.ensures.value ∙ ap (λ plan. part_of plan.parts c.args.side) c.plan.ensures)) at c.loop-i-test.true) c.loop-i.invariant
    (not_patched c.args.placed.now c.args.side c.loop-i.i c.loop-i.words c.in-Err.fault (sym c.in-Err.ensures.value))

pub loop-i-preserved : goal.loop-i-preserved
loop-i-preserved c =
    one_more (with_relocation c.args.placed.now c.args.side) c.args.words.now c.loop-i.i c.loop-i.words (Ok c.put_patch.new.words)
    c.loop-i.invariant
    (patched c.args.placed.now c.args.side c.loop-i.i c.loop-i.words c.in-Ok.patch (sym c.in-Ok.ensures.value) ∙ ap Ok (sym c.put_patch.ensures))
