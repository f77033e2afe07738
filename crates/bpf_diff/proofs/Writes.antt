-- What two steps that were taken wrote.
use Rattle.std.proofs.Common.{◌≡◌, List, sym, ap, ap₂, ◌∙◌}
use lib.Pointwise.{pointwise}
use Rattle.bpf_steps.specs.Entries.{step_entry}
use Rattle.bpf_steps.specs.State.{State}
use Rattle.bpf_origin.specs.Writes.{written}
use Rattle.bpf_origin.specs.declared.place.Part.{Part}
use Rattle.bpf_trace.specs.Taken.{Took, parts_by}
use Rattle.bpf_trace.specs.declared.taken.Taken.{Taken}
use Rattle.bpf_trace.proofs.Steps.{step_wrote}
use Rattle.bpf_diff.specs.Alike.{same_part, same_writes, wrote}

pub wrote-is : (x a : State) (taken : Taken) → Took x a taken → parts_by a taken.change ≡ wrote x
wrote-is x a taken t =
    ap (parts_by a) t.change ∙ sym (step_wrote x a t.is) ∙ ap (λ (z : State). written z (step_entry x)) t.next

pub same-is : (x y a b : State) (one other : Taken) (ps qs : List Part) → Took x a one → Took y b other
    → ps ≡ parts_by a one.change → qs ≡ parts_by b other.change → pointwise (same_part a b) ps qs ≡ same_writes x y
unfolding same_writes
same-is x y a b one other ps qs t u e f =
    ap₂ (pointwise (same_part a b)) (e ∙ wrote-is x a one t) (f ∙ wrote-is y b other u)
    ∙ ap₂ (λ (s z : State). pointwise (same_part s z) (wrote x) (wrote y)) t.next u.next
