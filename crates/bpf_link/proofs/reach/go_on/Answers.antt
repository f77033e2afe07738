use Rattle.std.proofs.Common.{◌≡◌, ◌+◌, true, rules, tests}
use Rattle.std.proofs.lemmas.Result.{IfOk-weaker}
use Rattle.bpf_link.specs.Reach.{goes_on, opcode_at}
use Rattle.bpf_link.specs.ReachSteps.{ComesTo}
use Rattle.bpf_link.proofs.Reached.{goes_where}
use Rattle.bpf_link.proofs.reach.go_on.Goals as goal

pub returns-clause-ok : goal.returns-clause-ok
returns-clause-ok c =
    let test : goes_on (opcode_at c.args.words.now c.args.slot) ≡ true = search (rules, tests) in
    IfOk-weaker c.mark.result (ComesTo (c.args.slot + 1) c.args.walk) _
    (λ new comes. goes_where c.args.words.now c.args.slot (c.args.slot + 1) _ c.args.walk new test comes) c.mark.ensures.ok
