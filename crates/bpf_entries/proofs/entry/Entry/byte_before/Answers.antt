use Rattle.std.proofs.Common.{Option, ap, ◌∙◌}
use Rattle.bpf_entries.specs.Past.{Run}
use Rattle.bpf_entries.specs.Before.{byte_in}
use Rattle.bpf_entries.proofs.entry.Entry.byte_before.Goals as goal

pub returns-in-Some : goal.returns-in-Some
returns-in-Some c =
    c.byte_in.ensures ∙ ap (λ (run : Option Run). byte_in run c.args.address c.args.after) c.in-Some.ensures

pub returns-in-None : goal.returns-in-None
returns-in-None c = ap (λ (run : Option Run). byte_in run c.args.address c.args.after) c.in-None.ensures
