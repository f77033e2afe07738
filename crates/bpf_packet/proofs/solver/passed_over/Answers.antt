use Rattle.std.proofs.Common.{◌≡◌, true, arith}
use Rattle.std.proofs.lemmas.Grind.{common_steps}
use Rattle.bpf_packet.specs.Holding.{state_of}
use Rattle.bpf_packet.specs.Slots.{jumps}
use Rattle.bpf_packet.specs.Tables.{is_reached}
use Rattle.bpf_packet.proofs.Leading.{target_reached}
use Rattle.bpf_packet.proofs.solver.passed_over.Goals as goal

pub returns-in-Ok-clause-least : goal.returns-in-Ok-clause-least
returns-in-Ok-clause-least c =
    let at : c.state_of-state.result.now ≡ state_of c.args.draft.table.items c.args.p = first_of (cc, grind (arith, common_steps)) in
    let reached : is_reached c.state_of-state.result.now ≡ true = grind arith in
    let jumping : jumps c.slot_at-slot.result ≡ true = grind arith in
    λ least other right. c.in-Ok.ensures.least other (least other right)
    (target_reached c.args.words.now c.slot_at-slot.result c.state_of-state.result.now c.args.draft.table.items c.taken-given.result other c.args.p c.target_of.result
    c.requires.inside c.slot_at-slot.ensures at reached jumping c.target_of.ensures c.taken-given.ensures.value (least other right) right)
