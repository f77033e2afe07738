use Rattle.std.proofs.Common.{ap, ◌∙◌}
use Rattle.bpf_steps.specs.State.{depth}
use Rattle.bpf_journal.proofs.ByteChanges.{change_told}
use Rattle.bpf_journal.specs.Changes.{change_in}
use Rattle.bpf_journal.specs.Histories.{kept_of}
use Rattle.std.specs.Prelude.{map}
use Rattle.bpf_journal.proofs.timeline.Timeline.last_change.Goals as goal

pub returns : goal.returns
returns g c = λ h stands.
    let s = rw (← c.self.view_is) at stands in
    rw (← c.self.view_is) (c.change_among.ensures (map kept_of h) s.0
    ∙ ap (λ d. change_in c.args.address d c.args.value (map kept_of h)) c.depth.ensures
    ∙ ap (λ v. change_in c.args.address (depth c.self.inside.cpu) v (map kept_of h)) (rw (← c.self.view_is) at c.requires)
    ∙ change_told c.args.address h _ s.1)
