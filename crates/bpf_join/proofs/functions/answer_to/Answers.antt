use Rattle.std.proofs.Common.{◌<◌, ◌∙◌, length, arith}
use Rattle.std.specs.Prelude.{None}
use Rattle.std.proofs.lemmas.List.{get_or_default}
use Rattle.bpf_join.proofs.Asked.{found_before, found_now, none_behind}
use Rattle.bpf_join.proofs.functions.answer_to.Goals as goal

pub returns-then-number-len-clause-to : goal.returns-then-number-len-clause-to
returns-then-number-len-clause-to c = none_behind c.args.functions.now c.args.number (omega arith)

pub returns-in-Some-clause-to : goal.returns-in-Some-clause-to
returns-in-Some-clause-to c =
    let inside : c.args.number < length c.args.known.items = omega arith in
    let few : c.args.number < 212 = omega arith in
    found_before c.args.functions.now c.args.known.items c.args.number c.index.result.now c.in-Some.to c.requires few
    (c.index.ensures ∙ get_or_default c.args.known.items c.args.number c.index.result.now None inside) c.in-Some.is

pub returns-in-None-clause-to : goal.returns-in-None-clause-to
returns-in-None-clause-to c =
    let few : c.args.number < 212 = omega arith in
    found_now c.args.functions.now c.args.number c.callee-to.result few c.callee-to.ensures
