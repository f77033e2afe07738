use Rattle.std.proofs.Common.{◌≡◌, ◌≤◌, ◌∙◌, length, ap, subst, arith}
use Rattle.bpf_link.specs.Sections.{AreFound, roles_in}
use Rattle.std.proofs.lemmas.List.{take_all}
use Rattle.bpf_link.proofs.Searches.{roles_more, roles_within}
use Rattle.bpf_link.proofs.sections.roles_of.Goals as goal

pub loop-i-preserved : goal.loop-i-preserved
loop-i-preserved c =
    let inside = rw c.len-i-end.ensures at c.loop-i-test.true in
    record {
      value =
          roles_more c.args.object.now c.args.name.now c.loop-i.i c.section-section.result c.loop-i.roles c.roles_with-roles.result inside
          c.loop-i.invariant.value c.section-section.ensures c.roles_with-roles.ensures;
      within = roles_within c.args.object.now c.args.name.now c.loop-i.i c.section-section.result c.loop-i.roles c.roles_with-roles.result c.roles_with-roles.ensures c.loop-i.invariant.within;
    }

pub returns-clause-value : goal.returns-clause-value
returns-clause-value c =
    let end : length c.args.object.now.sections ≤ c.loop-i.i = omega arith in
    c.loop-i.invariant.value ∙ ap (roles_in c.args.object.now c.args.name.now) (take_all c.loop-i.i c.args.object.now.sections end)

pub returns-clause-within : goal.returns-clause-within
returns-clause-within c =
    let end : c.loop-i.i ≡ length c.args.object.now.sections = omega arith in
    subst (λ n. AreFound n c.loop-i.roles) end c.loop-i.invariant.within
