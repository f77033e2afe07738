use Rattle.std.proofs.Common.{◌≡◌, true, ◌∙◌, rules, tests}
use Rattle.std.proofs.lemmas.Result.{IfOk-weaker}
use Rattle.bpf_link.specs.Reach.{jumps, opcode_at, registers_at, target_of}
use Rattle.bpf_link.specs.ReachSteps.{ComesTo}
use Rattle.bpf_link.proofs.Reached.{goes_where}
use Rattle.bpf_link.proofs.reach.jump.Goals as goal

pub returns-clause-ok : goal.returns-clause-ok
returns-clause-ok c =
    let test : jumps (opcode_at c.args.words.now c.args.slot) (registers_at c.args.words.now c.args.slot) ≡ true = search (rules, tests) in
    IfOk-weaker c.mark.result (ComesTo (target_of c.args.words.now c.args.slot) c.args.walk) _
    (λ new comes. goes_where c.args.words.now c.args.slot (target_of c.args.words.now c.args.slot) _ c.args.walk new test comes)
    (rw (c.from.ensures ∙ c.distance_at.ensures) at c.mark.ensures.ok)
