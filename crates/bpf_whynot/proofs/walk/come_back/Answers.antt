use Rattle.std.proofs.Common.{◌<◌, ◌∙◌, length, arith}
use Rattle.std.proofs.lemmas.Grind.{get_or_default_zero}
use Rattle.bpf_whynot.specs.Flows.{behind, jump, unless}
use Rattle.bpf_whynot.specs.Tables.{is_in}
use Rattle.bpf_whynot.proofs.Walking.{few, has_begun, has_looked, in_program, looked_all}
use Rattle.bpf_whynot.proofs.walk.come_back.Goals as goal

pub loop-k-init : goal.loop-k-init
loop-k-init c =
    has_begun (unless c.args.but (behind c.args.program.now c.args.above.now)) (unless c.args.but (jump c.args.program.now)) c.args.seeds.now (length c.args.program.now.insns) c.in-Ok.walk c.requires.seeds
    c.in-Ok.ensures

pub look_back-requires-clause-within : goal.look_back-requires-clause-within
look_back-requires-clause-within c =
    let inside : c.loop-k.k < length c.loop-k.walk.queue.items = omega (arith, c.if-k-len.false, c.len.ensures) in
    let slot = c.index-slot.ensures ∙ get_or_default_zero c.loop-k.walk.queue.items c.loop-k.k c.index-slot.result.now inside in
    in_program (unless c.args.but (behind c.args.program.now c.args.above.now)) (unless c.args.but (jump c.args.program.now)) (is_in c.args.seeds.now) (length c.args.program.now.insns) c.loop-k.k
    c.index-slot.result.now c.loop-k.walk c.loop-k.invariant.is_walk inside slot

pub loop-k-preserved : goal.loop-k-preserved
loop-k-preserved c =
    let inside : c.loop-k.k < length c.loop-k.walk.queue.items = omega (arith, c.if-k-len.false, c.len.ensures) in
    let slot = c.index-slot.ensures ∙ get_or_default_zero c.loop-k.walk.queue.items c.loop-k.k c.index-slot.result.now inside in
    has_looked (unless c.args.but (behind c.args.program.now c.args.above.now)) (unless c.args.but (jump c.args.program.now)) (is_in c.args.seeds.now) (length c.args.program.now.insns) c.loop-k.k
    c.index-slot.result.now c.loop-k.walk c.in-Ok-look_back.next slot inside c.loop-k.invariant c.in-Ok-look_back.ensures

pub returns-then-k-len : goal.returns-then-k-len
returns-then-k-len c =
    looked_all (unless c.args.but (behind c.args.program.now c.args.above.now)) (unless c.args.but (jump c.args.program.now)) (is_in c.args.seeds.now) (length c.args.program.now.insns) c.loop-k.k c.loop-k.walk
    c.loop-k.invariant (omega (arith, c.if-k-len.true, c.len.ensures))

pub returns : goal.returns
returns c =
    let most = few (unless c.args.but (behind c.args.program.now c.args.above.now)) (unless c.args.but (jump c.args.program.now)) (is_in c.args.seeds.now) (length c.args.program.now.insns) c.loop-k.walk c.loop-k.invariant.is_walk in
    looked_all (unless c.args.but (behind c.args.program.now c.args.above.now)) (unless c.args.but (jump c.args.program.now)) (is_in c.args.seeds.now) (length c.args.program.now.insns) c.loop-k.k c.loop-k.walk
    c.loop-k.invariant (omega (arith, most, c.loop-k-test.false, c.len-k-end.ensures))
