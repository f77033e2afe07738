use Rattle.std.proofs.Common.{sym, ◌∙◌}
use Rattle.bpf_remote.proofs.Bodies.{by-asked, by-why}
use Rattle.bpf_remote.proofs.serving.answer_line.Goals as goal

pub returns-in-Some : goal.returns-in-Some
returns-in-Some g c = λ before.
    let aims = c.in-Some.ensures.some in
    by-why _ _ _ _ _ _ _ before c.args.digits.now _ _ aims.1 (c.answer_why.ensures aims.0 c.args.digits.now aims.2 before)

pub returns-in-Some-asked_in : goal.returns-in-Some-asked_in
returns-in-Some-asked_in g c = λ before.
    by-why _ _ _ _ _ _ _ before c.args.digits.now _ _ c.in-None.ensures.none
    (by-asked _ _ _ _ _ _ _ before c.args.digits.now _ _ (rw c.cpu.ensures at (sym c.asked_in.ensures ∙ c.in-Some-asked_in.is)) (c.answer_asked.ensures c.args.digits.now before))

pub returns-in-None-asked_in : goal.returns-in-None-asked_in
returns-in-None-asked_in g c = λ before.
    by-why _ _ _ _ _ _ _ before c.args.digits.now _ _ c.in-None.ensures.none
    (by-asked _ _ _ _ _ _ _ before c.args.digits.now _ _ (rw c.cpu.ensures at (sym c.asked_in.ensures ∙ c.in-None-asked_in.is)) (c.answer_script.ensures before))
