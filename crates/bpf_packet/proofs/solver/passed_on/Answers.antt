use Rattle.std.proofs.Common.{◌≡◌, true, arith}
use Rattle.std.proofs.lemmas.Grind.{common_steps}
use Rattle.bpf_packet.specs.Holding.{state_of}
use Rattle.bpf_packet.specs.Slots.{goes_on}
use Rattle.bpf_packet.specs.Tables.{is_reached}
use Rattle.bpf_packet.proofs.Leading.{next_reached}
use Rattle.bpf_packet.proofs.solver.passed_on.Goals as goal

pub returns-in-Ok-clause-least : goal.returns-in-Ok-clause-least
returns-in-Ok-clause-least c =
    let at : c.state_of-state.result.now ≡ state_of c.args.draft.table.items c.args.p = first_of (cc, grind (arith, common_steps)) in
    let reached : is_reached c.state_of-state.result.now ≡ true = grind arith in
    let on : goes_on c.slot_at-slot.result ≡ true = grind arith in
    λ least other right. c.in-Ok.ensures.least other (least other right)
    (next_reached c.args.words.now c.slot_at-slot.result c.state_of-state.result.now c.args.draft.table.items c.left-given.result other c.args.p
    c.requires.inside c.slot_at-slot.ensures at reached on c.left-given.ensures.value (least other right) right)
