-- Both rounds.
use Rattle.std.proofs.Common.{◌∙◌, ap}
use Rattle.std.proofs.lemmas.Result.{IfOk-weaker, IfErr-weaker}
use Rattle.bpf_text.specs.Scaffolding.Rounds.{after_first_round}
use Rattle.bpf_text.proofs.Assembling.{is-listing, is-fault, fault-after, fault-before}
use Rattle.bpf_text.proofs.read.assembler.assemble.Goals as goal

pub returns-in-Ok-clause-ok : goal.returns-in-Ok-clause-ok
returns-in-Ok-clause-ok c =
    IfOk-weaker c.second_round.result _ _
    (λ bytes known. is-listing c.args.text.now bytes.items known.0 (ap after_first_round c.in-Ok.ensures.ok ∙ known.1) known.2)
    c.second_round.ensures.ok

pub returns-in-Ok-clause-err : goal.returns-in-Ok-clause-err
returns-in-Ok-clause-err c =
    IfErr-weaker c.second_round.result _ _
    (λ fault known. is-fault c.args.text.now fault (fault-after _ _ fault c.in-Ok.ensures.ok known))
    c.second_round.ensures.err

pub returns-in-Err-clause-err : goal.returns-in-Err-clause-err
returns-in-Err-clause-err c = is-fault c.args.text.now c.in-Err.fault (fault-before _ c.in-Err.fault c.in-Err.ensures.err)
