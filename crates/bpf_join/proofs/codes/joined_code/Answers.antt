use Rattle.bpf_join.proofs.Joining.{joined_is}
use Rattle.bpf_join.proofs.codes.joined_code.Goals as goal

pub returns-in-Ok-with_functions-clause-ok : goal.returns-in-Ok-with_functions-clause-ok
returns-in-Ok-with_functions-clause-ok c =
    joined_is c.args.first.now c.args.second.now _ _ _ _ c.own_slots.ensures.value c.in-Ok.ensures.ok c.in-Ok-called.ensures.ok c.in-Ok-with_functions.ensures.ok
