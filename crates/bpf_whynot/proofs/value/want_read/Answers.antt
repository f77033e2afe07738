use Rattle.std.proofs.Common.{◌∙◌, List, ap, sym}
use Rattle.std.specs.Prelude.{take}
use Rattle.bpf_origin.specs.Wanted.{most_places, want_parts}
use Rattle.bpf_origin.specs.declared.place.Part.{Part}
use Rattle.bpf_whynot.proofs.Turning.{read_by_edit, read_by_step}
use Rattle.bpf_whynot.proofs.value.want_read.Goals as goal

pub returns-then-is_step : goal.returns-then-is_step
returns-then-is_step c = λ m step.
    rw (c.as_slice.ensures.value, c.followed-read.ensures) at c.want_parts.ensures.value
    ∙ ap (λ (ps : List Part). take most_places (want_parts c.args.wanted.now ps))
    (sym (read_by_step c.args.addresses c.args.cpu.now m (sym step ∙ c.if-is_step.true)))

pub returns-else-is_step : goal.returns-else-is_step
returns-else-is_step c = λ m step.
    c.want_parts-else-is_step.ensures.value
    ∙ ap (λ (ps : List Part). take most_places (want_parts c.args.wanted.now ps))
    (sym (read_by_edit c.args.addresses c.args.cpu.now m (sym step ∙ c.if-is_step.false)))
