use Rattle.std.proofs.Common.{◌∙◌, ap, sym}
use Rattle.bpf_link.specs.Blanked.{blanked}
use Rattle.bpf_link.proofs.linker.reached_code.Goals as goal

pub returns-in-Ok-flow_of-clause-ok : goal.returns-in-Ok-flow_of-clause-ok
returns-in-Ok-flow_of-clause-ok c =
    let reach = c.in-Ok-reach_of.reach.items in
    let flow = c.in-Ok-flow_of.flow.items in (
      record {
        plan = c.in-Ok.plan;
        plans = sym c.in-Ok.ensures;
        slot = c.in-Ok-entry_of.slot;
        begins = sym c.in-Ok-entry_of.ensures.value;
        reach = reach;
        reached = c.in-Ok-reach_of.ensures.ok;
      },
      c.blanked.ensures.value ∙ ap (λ r. blanked r flow) c.deref.ensures.value ∙ ap (blanked reach) c.in-Ok-flow_of.ensures.ok,
    )
