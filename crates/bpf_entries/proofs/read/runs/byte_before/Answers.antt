use Rattle.std.proofs.Common.{Option, ap, ◌∙◌}
use Rattle.bpf_entries.specs.Past.{Run}
use Rattle.bpf_entries.specs.Before.{byte_in}
use Rattle.bpf_entries.proofs.read.runs.byte_before.Goals as goal

pub returns-in-Some : goal.returns-in-Some
returns-in-Some c = λ e mark fits h.
    c.byte_in.ensures ∙ ap (λ (run : Option Run). byte_in run c.args.address c.args.after) (c.in-Some.ensures e mark fits h)

pub returns-in-None : goal.returns-in-None
returns-in-None c = λ e mark fits h. ap (λ (run : Option Run). byte_in run c.args.address c.args.after) (c.in-None.ensures e mark fits h)
