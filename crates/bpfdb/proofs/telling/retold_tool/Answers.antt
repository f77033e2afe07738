use Rattle.std.proofs.Common.{refl, rules, tests}
use Rattle.bpfdb.specs.Telling.{Exhausted, Tells}
use Rattle.bpfdb.proofs.telling.retold_tool.Goals as goal

pub returns-then-failures-gt0-clause-does : goal.returns-then-failures-gt0-clause-does
returns-then-failures-gt0-clause-does g c = Exhausted _ _ c.tool-status.ensures.does refl c.give_up.ensures.told c.give_up.ensures.value

pub returns-in_default-clause-does : goal.returns-in_default-clause-does
returns-in_default-clause-does g c = Exhausted _ _ c.tool-status.ensures.does refl c.give_up-in_default.ensures.told c.give_up-in_default.ensures.value

pub returns-clause-does : goal.returns-clause-does
returns-clause-does g c =
    Tells c.as_slice.result.now c.as_slice-3.result.now c.tool-status.result
    (_, c.tool-status.ensures.does, record { empty = search (rules, tests); printed = search (rules, tests); quiet = search (rules, tests); said = search (rules, tests); spared = (search (rules, tests), search (rules, tests)) })
    (rw (c.as_slice-2.ensures.value, c.in-Ok.ensures) at c.write_told.ensures.ends)
