-- A line without words changes nothing.
use Rattle.std.proofs.Common.{Ok, ap, refl, sym, ◌∙◌}
use Rattle.bpf_journal.specs.Tracks.{ring_room}
use Rattle.bpf_session.specs.Sessions.{bounds_of, point_of}
use Rattle.bpfdb_jobs.specs.Obeying.{arrived}
use Rattle.bpfdb_jobs.specs.Origins.{obeyed_line}
use Rattle.bpfdb_jobs.proofs.script.obey_line.Goals as goal

pub returns-in-Ok-None-clause-leads : goal.returns-in-Ok-None-clause-leads
returns-in-Ok-None-clause-leads c = λ t on past.
    let s = c.args.session.now in
    let says = sym c.parse_command.ensures.value ∙ c.in-Ok-None.is ∙ ap Ok c.in-Ok-None.field-0-is in
    (point_of s t, (refl, past), ap (λ answer. obeyed_line (bounds_of ring_room s) answer (arrived s t c.args.moves) on) says)
