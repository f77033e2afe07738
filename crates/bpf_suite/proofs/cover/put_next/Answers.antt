use Rattle.std.proofs.Common.{ap, sym, ◌∙◌}
use Rattle.bpf_suite.specs.Benches.{shares_program}
use Rattle.bpf_suite.proofs.Covering.{each-alone, if-ok}
use Rattle.bpf_suite.proofs.cover.put_next.Goals as goal

pub returns-else-shares_program-clause-text : goal.returns-else-shares_program-clause-text
returns-else-shares_program-clause-text g c =
    let own = sym (c.shares_program.ensures ∙ ap shares_program c.own.view_is) ∙ c.if-shares_program.false in
    if-ok c.put_alone.result _ _ (λ told p. (p.0, each-alone c.args.form.now c.args.bench.now.sections c.args.own.now p.0 own p.1, p.2)) c.put_alone.ensures.text
