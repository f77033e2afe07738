use Rattle.bpf_suite.proofs.Covering.{begun-found, begun-nothing, if-ok}
use Rattle.bpf_suite.proofs.bench.found_or_begun.Goals as goal

pub returns-in-Some : goal.returns-in-Some
returns-in-Some c = λ known xs found. begun-found c.args.found c.in-Some.coverage c.args.program.now c.in-Some.is known xs found

pub returns-in-None : goal.returns-in-None
returns-in-None c =
    if-ok c.of.result _ _ (λ v is known xs found. begun-nothing c.args.found v c.args.program.now c.in-None.is is known xs found) c.of.ensures
