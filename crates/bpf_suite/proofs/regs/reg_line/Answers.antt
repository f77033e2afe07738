use Rattle.std.proofs.Common.{◌≡◌, ap, ◌∙◌}
use Rattle.counted_io.specs.Cuts.{after, before}
use Rattle.bpf_suite.specs.Bodies.{number_of}
use Rattle.bpf_suite.specs.Regs.{reg_of, register_in}
use Rattle.bpf_suite.proofs.regs.reg_line.Goals as goal

pub returns : goal.returns
returns c =
    let line = c.args.line.now in
    let register : c.register_in.result ≡ register_in (before 61 line) = c.register_in.ensures ∙ ap register_in c.sides.ensures.before in
    let value : c.number_of.result ≡ number_of (after 61 line) = c.number_of.ensures ∙ ap number_of c.sides.ensures.after in
    c.reg_of.ensures ∙ ap (λ r. reg_of r c.number_of.result) register ∙ ap (reg_of (register_in (before 61 line))) value
