use Rattle.std.proofs.Common.{inr, sym, ◌∙◌}
use Rattle.bpf_join.proofs.joined.join.Goals as goal

pub returns-in-Ok-join_plans-clause-ok : goal.returns-in-Ok-join_plans-clause-ok
returns-in-Ok-join_plans-clause-ok c = record {
  pair = record {
    first = c.in-Ok.own;
    plans = sym c.planned.ensures ∙ c.in-Ok.is;
    second = c.in-Ok-planned.functions;
    functions = sym c.planned-2.ensures ∙ c.in-Ok-planned.is;
  };
  left = c.in-Ok-fields_of.ensures.ok;
  more = c.in-Ok-fields_of.ensures.functions.0;
  more_left = c.in-Ok-fields_of.ensures.functions.1;
  bytes_are = c.in-Ok-join_plans.ensures.ok;
}

pub returns-in-Err-join_plans-clause-err : goal.returns-in-Err-join_plans-clause-err
returns-in-Err-join_plans-clause-err c =
    inr (
      record {
        first = c.in-Ok.own;
        plans = sym c.planned.ensures ∙ c.in-Ok.is;
        second = c.in-Ok-planned.functions;
        functions = sym c.planned-2.ensures ∙ c.in-Ok-planned.is;
      },
      c.in-Err-join_plans.ensures.err,
    )
