use Rattle.std.proofs.Common.{arith, ◌∙◌, ap, ◌++◌, length}
use Rattle.std.specs.Prelude.{replicate}
use Rattle.bpf_steps.specs.Regions.{Image, map_bytes}
use Rattle.bpf_steps.proofs.memory.Memory.restart.Goals as goal

pub returns-in-Ok-clause-ok : goal.returns-in-Ok-clause-ok
returns-in-Ok-clause-ok c =
    let context = c.args.context.now in
    let behind = ap (λ maps. context ++ (replicate 4096 0 ++ maps)) c.map_bytes.ensures.value in
    let given = ap (λ (m : Image). m.maps) c.self.view_is in (
      omega arith,
      ap (λ bytes. record { context_len = length context; maps = c.self.inside.maps; bytes = bytes }) (c.in-Ok.ensures ∙ behind)
          ∙ ap (λ maps. record { context_len = length context; maps = maps; bytes = context ++ (replicate 4096 0 ++ map_bytes c.args.self.now) }) given,
    )
