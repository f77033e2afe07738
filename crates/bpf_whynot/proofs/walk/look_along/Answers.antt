use Rattle.std.proofs.Common.{◌<◌, ◌-◌, ◌∙◌, length, refl, arith}
use Rattle.std.proofs.lemmas.Grind.{get_or_default_zero}
use Rattle.bpf_whynot.proofs.Alongs.{begins, goes_along}
use Rattle.bpf_whynot.proofs.walk.look_along.Goals as goal

pub loop-at-init : goal.loop-at-init
loop-at-init c =
    let inside : c.args.slot < length c.args.sources.now.first.items = omega (arith, c.requires.within, c.requires.sources.firsts) in
    begins c.args.program.now c.args.sources.now c.args.but c.args.slot c.index-at.result.now c.args.walk c.requires.sources c.requires.within
    (c.index-at.ensures ∙ get_or_default_zero c.args.sources.now.first.items c.args.slot c.index-at.result.now inside)

pub loop-at-preserved : goal.loop-at-preserved
loop-at-preserved c =
    let inside : c.loop-at.at - 1 < length c.args.sources.now.next.items = omega (arith, c.loop-at-test.true, c.loop-at.invariant.0, c.requires.sources.nexts) in
    goes_along c.args.program.now c.args.sources.now c.args.but c.args.slot c.loop-at.at c.index-at-in-loop-at.result.now _ c.args.walk c.loop-at.walk c.in-Ok.next c.requires.sources
    c.requires.within c.loop-at-test.true c.loop-at.invariant.0
    (c.index-at-in-loop-at.ensures ∙ get_or_default_zero c.args.sources.now.next.items (c.loop-at.at - 1) c.index-at-in-loop-at.result.now inside)
    c.loop-at.invariant.1 refl c.in-Ok.ensures
