use Rattle.std.proofs.Common.{sym, ◌∙◌}
use Rattle.counted_io.proofs.Appending.{Writes-none}
use Rattle.bpf_suite.specs.Shown.{options_text}
use Rattle.bpf_suite.proofs.shown.write_options.Goals as goal

pub returns-in-Some : goal.returns-in-Some
unfolding options_text
returns-in-Some g c =
    rw (sym c.maps.ensures ∙ c.in-Some.is)
    (rw (c.limit-limit.ensures, c.bytes_in-maps.ensures) at (c.put_all.ensures _ _ (Writes-none g.W.Write.contents c.args.writer.now _)))

pub returns-in-None : goal.returns-in-None
unfolding options_text
returns-in-None g c =
    rw (sym c.maps.ensures ∙ c.in-None.is)
    (rw c.limit-limit.ensures at (c.put_all-in-None.ensures _ _ (Writes-none g.W.Write.contents c.args.writer.now _)))
