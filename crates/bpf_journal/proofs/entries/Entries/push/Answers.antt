use Rattle.std.proofs.Common.{◌<◌, ◌+◌, ◌^◌, ap, sym, ◌∙◌, subst, List, ◌∷◌, arith}
use Rattle.bpf_entries.specs.Keeping.{Kept}
use Rattle.bpf_journal.specs.Items.{held, IsCounted}
use Rattle.bpf_journal.proofs.Items.{held_push, counted_push, room_for_mark}
use Rattle.bpf_journal.proofs.entries.Entries.push.Goals as goal

pub overflow_add-self-2 : goal.overflow_add-self-2
overflow_add-self-2 c =
    let room : c.self.inside.marked + c.marks-marks.result < 2 ^ 64 = room_for_mark _ _ c.args.item _ _ _ c.self.view_is c.requires.few c.self.invariant c.marks-marks.ensures in
    omega arith

pub invariant_of-self : goal.invariant_of-self
invariant_of-self c = subst (λ (items : List Kept). IsCounted (held items) c.self.inside.weight c.self.inside.marked) (sym c.in-Err.ensures.items) c.self.invariant

pub invariant_of-self-2 : goal.invariant_of-self-2
invariant_of-self-2 c = counted_push _ _ _ _ _ _ _ c.in-Ok.ensures.items c.weight-weight.ensures c.marks-marks.ensures c.self.invariant

pub returns-clause-ok : goal.returns-clause-ok
returns-clause-ok c = ap held c.in-Ok.ensures.items ∙ held_push _ _ ∙ ap (λ es. c.args.item ∷ es) c.self.view_is
