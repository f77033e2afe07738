use Rattle.std.proofs.Common.{◌∙◌, ap}
use Rattle.bpf_lines.specs.Lookups.{listed_slots}
use Rattle.bpf_lines.proofs.listing.listing_slots.Goals as goal

pub returns-in-Ok-listed_slots-clause-ok : goal.returns-in-Ok-listed_slots-clause-ok
returns-in-Ok-listed_slots-clause-ok c = (
  c.in-Ok.table.items,
  c.in-Ok.ensures.ok,
  c.in-Ok-listed_slots.ensures ∙ ap (λ table. listed_slots table c.args.what.now) c.as_slice.ensures.value,
)
