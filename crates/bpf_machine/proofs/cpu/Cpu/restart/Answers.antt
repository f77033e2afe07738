use Rattle.std.proofs.Common.{◌∙◌, ap}
use Rattle.bpf_steps.specs.Regions.{Image}
use Rattle.bpf_steps.specs.State.{initial, restarted}
use Rattle.bpf_machine.proofs.cpu.Cpu.restart.Goals as goal

pub returns-in-Ok-clause-ok : goal.returns-in-Ok-clause-ok
returns-in-Ok-clause-ok c =
    let context = c.args.context.now in
    let kept = ap (λ (m : Image). record (initial c.self.inside.program context) { memory = m }) c.in-Ok.ensures.ok.1 in
    (c.in-Ok.ensures.ok.0, c.begin.ensures ∙ kept ∙ ap (restarted context) c.self.view_is)
