use Rattle.std.proofs.Common.{sym, ap, ◌∙◌, arith}
use Rattle.bpf_journal.specs.Items.{held}
use Rattle.bpf_journal.proofs.Items.{held_front, none_held, light_oldest, counted_drop}
use Rattle.bpf_journal.proofs.entries.Entries.pop_oldest.Goals as goal

pub overflow_sub-self : goal.overflow_sub-self
overflow_sub-self c = let l = light_oldest _ _ _ _ _ c.in-Some.ensures.items c.self.invariant in omega (arith, l.0, c.weight.ensures)

pub overflow_sub-self-in-Some : goal.overflow_sub-self-in-Some
overflow_sub-self-in-Some c = let l = light_oldest _ _ _ _ _ c.in-Some.ensures.items c.self.invariant in omega (arith, l.1, c.marks.ensures)

pub invariant_of-self : goal.invariant_of-self
invariant_of-self c = counted_drop _ _ _ _ _ _ _ c.in-Some.ensures.items c.weight.ensures c.marks.ensures c.self.invariant

pub returns-in-Some : goal.returns-in-Some
returns-in-Some c = sym c.self.view_is ∙ ap held c.in-Some.ensures.items ∙ held_front _ _

pub returns-in-None : goal.returns-in-None
returns-in-None c =
    let n = c.in-None.ensures.cases in
    sym c.self.view_is ∙ none_held _ (sym c.self.inside.items.ok.0 ∙ n.0)
