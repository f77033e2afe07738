use Rattle.std.proofs.Common.{◌≡◌, not, ◌==◌, ap, ◌∙◌, rules}
use Rattle.std.specs.Prelude.{filter}
use Rattle.arrayvec.proofs.ArrayVecLemmas.{filter-from_retain}
use Rattle.bpf_session.specs.SlotTables.{has_at}
use Rattle.bpf_session.proofs.Breaks.{table_fewer}
use Rattle.bpf_session.proofs.breakpoints.Breakpoints.remove.Goals as goal

pub invariant_of-self : goal.invariant_of-self
invariant_of-self c =
    let left : c.retain.new.self.items ≡ filter (λ other. not (other == c.args.slot)) c.self.inside.slots.items = filter-from_retain _ _ _ (λ x b f' y called. search rules) _ _ c.retain.ensures.filtered in
    let is = c.is_taken.ensures ∙ ap (λ items. has_at items c.place_of-place.result) (c.as_slice.ensures.value ∙ left) in
    rw (left, c.place_of-place.ensures.place) (table_fewer _ _ _ _ (rw c.place_of-place.ensures.place at is) c.self.invariant)

pub returns : goal.returns
returns c = filter-from_retain _ _ _ (λ x b f' y called. search rules) _ _ c.retain.ensures.filtered ∙ ap (filter (λ other. not (other == c.args.slot))) c.self.view_is
