use Rattle.std.proofs.Common.{refl, rules, tests}
use Rattle.bpfdb.specs.Outputs.{Does, Exhausted}
use Rattle.bpfdb.proofs.output.do_for_file.Goals as goal

pub returns-then-failures-gt0-clause-does : goal.returns-then-failures-gt0-clause-does
returns-then-failures-gt0-clause-does g c = Exhausted _ _ c.do_plan-status.ensures.does refl c.give_up.ensures.told c.give_up.ensures.value

pub returns-clause-does : goal.returns-clause-does
returns-clause-does g c =
    Does c.as_slice.result.now c.as_slice-2.result.now c.do_plan-status.result
    (_, c.do_plan-status.ensures.does, record { empty = search (rules, tests); printed = search (rules, tests); quiet = search (rules, tests); said = search (rules, tests); spared = (search (rules, tests), search (rules, tests)) })
    c.end_for_file.ensures.ends
