use Rattle.std.proofs.Common.{List, ap, sym, subst, ◌∙◌}
use Rattle.bpf_entries.specs.Keeping.{Kept}
use Rattle.bpf_journal.specs.Items.{held, IsCounted}
use Rattle.bpf_journal.proofs.Items.{held_none, counted_none}
use Rattle.bpf_journal.proofs.entries.Entries.new.Goals as goal

pub invariant_of-result : goal.invariant_of-result
invariant_of-result c = subst (λ (items : List Kept). IsCounted (held items) 0 0) (sym c.new.ensures.items) counted_none

pub returns : goal.returns
returns c = ap held c.new.ensures.items ∙ held_none
