use Rattle.std.proofs.Common.{◌≡◌, ◌*◌, replicate}
use Rattle.bpf_packet.specs.declared.held.Held.TheVariants.{Nothing}
use Rattle.bpf_packet.proofs.Leading.{nothing_reached}
use Rattle.bpf_packet.proofs.solver.unknown.Goals as goal

pub returns-in-Ok-clause-nothing : goal.returns-in-Ok-clause-nothing
returns-in-Ok-clause-nothing c =
    let e : c.in-Ok.table.items ≡ replicate (75 * c.args.slots) Nothing = c.in-Ok.ensures.items_if_clones_equal (λ y h. h) in
    λ other. nothing_reached other c.in-Ok.table.items (75 * c.args.slots) e
