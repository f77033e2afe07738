use Rattle.std.proofs.Common.{◌∙◌, List, ap, subst}
use Rattle.bpf_turns.specs.Ext.{HasMovedExt}
use Rattle.bpf_turns.specs.Objects.{turned_bytes}
use Rattle.bpf_turns.specs.declared.calls.Call.{Call}
use Rattle.bpf_turns.proofs.file.turned_file.Goals as goal

pub returns-in-Ok-turned_bytes-clause-ok : goal.returns-in-Ok-turned_bytes-clause-ok
returns-in-Ok-turned_bytes-clause-ok c = (
  c.in-Ok-moved_ext.ext.items,
  subst (λ (calls : List Call). HasMovedExt c.args.source.now.plan calls c.in-Ok-moved_ext.ext.items) (c.as_slice.ensures.value ∙ c.in-Ok.ensures.ok)
      c.in-Ok-moved_ext.ensures.ok,
  c.in-Ok-turned_bytes.ensures.ok ∙ ap (turned_bytes c.args.source.now c.args.seats.now) c.as_slice-3.ensures.value,
)
