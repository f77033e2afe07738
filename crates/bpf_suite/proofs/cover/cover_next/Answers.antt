use Rattle.std.proofs.Common.{◌≡◌, ◌++◌, ap, sym, subst, ◌∙◌}
use Rattle.bpf_suite.specs.Benches.{shares_program}
use Rattle.bpf_suite.specs.Covers.{Finds}
use Rattle.bpf_suite.proofs.Covering.{adds-sharing, on-ok}
use Rattle.bpf_suite.proofs.cover.cover_next.Goals as goal

pub returns-in_ok-read-clause-found : goal.returns-in_ok-read-clause-found
returns-in_ok-read-clause-found c =
    let shared = c.args.bench.now.sections in
    let shares = sym (c.shares_program.ensures ∙ ap shares_program c.own.view_is) ∙ c.if-shares_program.true in
    let same : c.in_ok-read.read ≡ c.args.own.now = c.in_ok-read.ensures ∙ c.own.view_is in
    on-ok c.cover.result
    (λ finds. adds-sharing shared c.args.own.now c.args.found.now c.cover.new.found shares
    (subst (λ own. Finds (own ++ shared) c.args.found.now c.cover.new.found) same finds)) c.cover.ensures.found
