use Rattle.std.proofs.Common.{◌≡◌, ◌++◌, None, subst, ◌∙◌}
use Rattle.bpf_suite.specs.Covers.{Finds}
use Rattle.bpf_suite.proofs.Covering.{found-alone, if-ok}
use Rattle.bpf_suite.proofs.cover.put_alone.Goals as goal

pub returns-clause-text : goal.returns-clause-text
returns-clause-text g c =
    let shared = c.args.bench.now.sections in
    let test = c.args.own.now ++ shared in
    let found = c.in_ok-found.found in
    let same : c.in_ok-read.read ≡ c.args.own.now = c.in_ok-read.ensures ∙ c.own.view_is in
    let finds : Finds test None found = subst (λ own. Finds (own ++ shared) None found) same c.in_ok-found.ensures.found in
    if-ok c.put_found.result _ _ (λ told p. (p.0, (found, found-alone test found finds, p.1), p.2)) (rw c.own.view_is at c.put_found.ensures)
