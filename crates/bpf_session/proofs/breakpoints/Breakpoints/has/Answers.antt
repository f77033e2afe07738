use Rattle.std.proofs.Common.{◌∙◌, ◌%◌, ap}
use Rattle.bpf_session.specs.Stops.{has}
use Rattle.bpf_session.proofs.Breaks.{not_there}
use Rattle.bpf_session.proofs.breakpoints.Breakpoints.has.Goals as goal

pub returns-else-self-place_of : goal.returns-else-self-place_of
returns-else-self-place_of c =
    not_there c.self.inside.slots.items c.self.inside.table c.args.slot c.place_of.result c.self.invariant (c.place_of.ensures.place ∙ ap (λ s. s % 8192) c.from.ensures) c.place_of.ensures.within c.if-self-place_of.false
    ∙ ap (λ items. has items c.args.slot) c.self.view_is
