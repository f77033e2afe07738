use Rattle.std.proofs.Common.{◌<◌, ◌∙◌, length, arith}
use Rattle.std.proofs.lemmas.Grind.{get_or_default_zero}
use Rattle.bpf_link.proofs.Reached.{few, has_begun, in_words, one_looked, reached_all}
use Rattle.bpf_link.proofs.reach.reached.Goals as goal

pub loop-k-init : goal.loop-k-init
loop-k-init c = has_begun c.args.words.now c.args.entry c.in-Ok.walk c.in-Ok-mark.walk (c.in-Ok.ensures.ok c.args.entry) c.in-Ok-mark.ensures.ok

pub look-requires : goal.look-requires
look-requires c =
    let inside : c.loop-k.k < length c.loop-k.walk.queue.items = omega (arith, c.if-k-len.false, c.len.ensures) in
    let slot = c.index-slot.ensures ∙ get_or_default_zero c.loop-k.walk.queue.items c.loop-k.k c.index-slot.result.now inside in
    in_words c.args.words.now c.args.entry c.loop-k.k c.index-slot.result.now c.loop-k.walk c.loop-k.invariant.walk inside slot

pub loop-k-preserved : goal.loop-k-preserved
loop-k-preserved c =
    let inside : c.loop-k.k < length c.loop-k.walk.queue.items = omega (arith, c.if-k-len.false, c.len.ensures) in
    let slot = c.index-slot.ensures ∙ get_or_default_zero c.loop-k.walk.queue.items c.loop-k.k c.index-slot.result.now inside in
    one_looked c.args.words.now c.args.entry c.loop-k.k c.index-slot.result.now c.loop-k.walk c.in-Ok-look.next slot inside c.loop-k.invariant c.in-Ok-look.ensures.ok

pub returns-clause-ok : goal.returns-clause-ok
returns-clause-ok c =
    let most = few c.args.words.now c.args.entry c.loop-k.walk c.loop-k.invariant.walk in
    reached_all c.args.words.now c.args.entry c.loop-k.k c.loop-k.walk c.loop-k.invariant (omega (arith, most, c.loop-k-test.false))
