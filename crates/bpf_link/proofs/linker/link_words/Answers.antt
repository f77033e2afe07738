use Rattle.std.proofs.Common.{◌≤◌, inr, sym, subst}
use Rattle.bpf_link.specs.Kept.{IsKeptOf}
use Rattle.bpf_link.specs.Parts.{slots_in}
use Rattle.bpf_link.specs.Programs.{IsMade}
use Rattle.bpf_link.specs.Pruned.{pruned}
use Rattle.bpf_link.specs.Refusals.{IsPlanFault}
use Rattle.bpf_link.proofs.linker.link_words.Goals as goal

pub link_plan-requires-clause-inside : goal.link_plan-requires-clause-inside
link_plan-requires-clause-inside c =
    let plan = c.in-Ok.plan in
    let reach = c.in-Ok-reach_of.reach.items in
    let what = c.pruned.ensures reach (subst (λ r. IsKeptOf plan r c.in-Ok-kept_of.kept) c.deref.ensures.value c.in-Ok-kept_of.ensures.ok) in
    subst (λ p. c.in-Ok-entry_of.slot ≤ slots_in p.parts.code) (sym what) c.in-Ok-entry_of.ensures.inside

pub returns-in-Ok-link_plan-clause-ok : goal.returns-in-Ok-link_plan-clause-ok
returns-in-Ok-link_plan-clause-ok c =
    let plan = c.in-Ok.plan in
    let slot = c.in-Ok-entry_of.slot in
    let reach = c.in-Ok-reach_of.reach.items in
    let stubs = c.args.options.now.stubs.now in
    let linked = c.in-Ok-link_plan.linked in
    let what = c.pruned.ensures reach (subst (λ r. IsKeptOf plan r c.in-Ok-kept_of.kept) c.deref.ensures.value c.in-Ok-kept_of.ensures.ok) in
    record {
      begun = record { plan = plan; plans = sym c.in-Ok.ensures; slot = slot; begins = sym c.in-Ok-entry_of.ensures.value; reach = reach; reached = c.in-Ok-reach_of.ensures.ok };
      made =
          subst (λ r. IsMade (pruned reach plan) slot r stubs linked) c.deref-2.ensures.value
          (subst (λ p. IsMade p slot c.deref-2.result.now stubs linked) what c.in-Ok-link_plan.ensures.ok);
    }

pub returns-clause-err : goal.returns-clause-err
returns-clause-err c =
    let plan = c.in-Ok.plan in
    let slot = c.in-Ok-entry_of.slot in
    let reach = c.in-Ok-reach_of.reach.items in
    let stubs = c.args.options.now.stubs.now in
    let fault = c.in-Err-link_plan.fault in
    let what = c.pruned.ensures reach (subst (λ r. IsKeptOf plan r c.in-Ok-kept_of.kept) c.deref.ensures.value c.in-Ok-kept_of.ensures.ok) in
    inr (inr (
      record { plan = plan; plans = sym c.in-Ok.ensures; slot = slot; begins = sym c.in-Ok-entry_of.ensures.value; reach = reach; reached = c.in-Ok-reach_of.ensures.ok },
      subst (λ r. IsPlanFault (pruned reach plan) slot r stubs fault) c.deref-2.ensures.value
          (subst (λ p. IsPlanFault p slot c.deref-2.result.now stubs fault) what c.in-Err-link_plan.ensures.err),
    ))
