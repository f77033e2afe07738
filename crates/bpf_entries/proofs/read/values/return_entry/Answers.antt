use Rattle.std.proofs.Common.{ap, ◌∙◌}
use Rattle.std.specs.Prelude.{Some}
use Rattle.bpf_entries.specs.declared.entry.Entry.TheVariants as entry
use Rattle.bpf_entries.specs.Reading.{slot_at}
use Rattle.bpf_entries.proofs.read.values.return_entry.Goals as goal

pub returns : goal.returns
returns c = λ fits count.
    ap (λ pc. Some (entry.Return pc c.saved_in-saved.result)) c.slot_in-pc.ensures
    ∙ ap (λ saved. Some (entry.Return (slot_at 3 c.args.bytes.now) saved)) c.saved_in-saved.ensures
