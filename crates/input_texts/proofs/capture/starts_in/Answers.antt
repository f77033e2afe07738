use Rattle.std.proofs.Common.{ap, ◌∙◌, drop, arith}
use Rattle.std.proofs.lemmas.List.{take_rest}
use Rattle.input_texts.specs.Captures.{size_of}
use Rattle.input_texts.proofs.Rests.{all-begin, each-one, next-one}
use Rattle.input_texts.proofs.capture.starts_in.Goals as goal

pub loop-at-preserved : goal.loop-at-preserved
loop-at-preserved c =
    let o = c.args.order in
    let file = c.args.file.now in
    let xs = c.loop-at.starts.items in
    let at = c.loop-at.at in
    let next = c.loop-at.invariant.next in
    rw c.in_ok-push.ensures.items (record {
      next = next-one o (drop 24 file) file xs at c.size_of-at.result next
          (c.size_of-at.ensures ∙ ap (size_of o) (take_rest file at));
      each = each-one o (drop 24 file) file xs at c.size_of-at.result next c.loop-at.invariant.each;
    })

pub returns : goal.returns
returns c =
    all-begin c.args.order (drop 24 c.args.file.now) c.args.file.now c.loop-at.starts.items c.loop-at.at c.loop-at.invariant.next
    (grind (arith, c.loop-at-test.false)) c.loop-at.invariant.each
