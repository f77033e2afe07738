use Rattle.std.proofs.Common.{◌≡◌, [], arith}
use Rattle.std.proofs.lemmas.Grind.{common_steps}
use Rattle.bpf_remote.proofs.OriginTexts.{showing-start, showing-step, showing-end}
use Rattle.bpf_remote.proofs.origin.show.Goals as goal

pub loop-rest-init : goal.loop-rest-init
loop-rest-init g c = showing-start g.W.Write.contents c.args.writer.now c.args.so_far c.args.text.now

pub loop-rest-preserved : goal.loop-rest-preserved
loop-rest-preserved g c =
    showing-step g.W.Write.contents _ _ _ _ _ _ c.args.text.now _ _ _ c.split_at.ensures.by_index.0 c.loop-rest.invariant c.show_part-told.ensures

pub returns : goal.returns
returns g c =
    let none : c.loop-rest.rest.now ≡ [] = grind (arith, common_steps) in
    showing-end g.W.Write.contents _ _ _ _ c.args.text.now _ none c.loop-rest.invariant
