use Rattle.std.proofs.Common.{sym, ap, ◌∙◌}
use Rattle.bpf_suite.specs.Bodies.{fits}
use Rattle.bpf_suite.proofs.Patterns.{solid-same}
use Rattle.bpf_suite.proofs.body.fits_body.Goals as goal

pub returns-then-is_solid : goal.returns-then-is_solid
returns-then-is_solid c = c.fits.ensures ∙ ap (λ digits. fits digits c.args.bytes.now) (sym (solid-same c.args.body.now (sym c.is_solid.ensures ∙ c.if-is_solid.true)))
