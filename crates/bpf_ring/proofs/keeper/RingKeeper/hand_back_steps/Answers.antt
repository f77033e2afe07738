use Rattle.std.proofs.Common.{◌≡◌, ◌+◌, ◌-◌, ◌%◌, ◌^◌, ◌++◌, ◌∙◌, ℕ, List, length, map, take, refl, sym, ap, subst, arith}
use Rattle.bpf_ring.specs.Counted.{Counted}
use Rattle.bpf_ring.specs.Held.{IsHeld}
use Rattle.bpf_ring.specs.Ways.{HasText, kept_by}
use Rattle.bpf_ring.specs.declared.counts.Counts.{Counts}
use Rattle.bpf_ring.proofs.Held.{few_entries}
use Rattle.bpf_ring.proofs.Ways.{behind_others, hands_counted, held_so, others_left, text_so}
use Rattle.bpf_ring.proofs.keeper.RingKeeper.hand_back_steps.Goals as goal

pub take_run-handed-requires : goal.take_run-handed-requires
take_run-handed-requires c =
    let now = c.args.self.now in
    let text = c.newest_run-text.result.now in
    record {
      ws = c.requires.ws;
      front = take (length now.ring.bytes - length text) now.ring.bytes;
      held = subst (λ (l : List ℕ). HasText l (map kept_by c.requires.ws)) (sym (behind_others now.ring.bytes text c.newest_run-text.ensures.newest)) (text_so now.ring now.counts (map kept_by c.requires.ws) c.requires.held);
      way = c.requires.way;
    }

pub returns : goal.returns
returns c = record {
  within = c.take_run-handed.ensures.within.0;
  size = (c.drop_newest.ensures.size, c.take_run-handed.ensures.size);
  handed = λ ws ls held way.
      let now = c.args.self.now in
      let other = c.args.other.now in
      let new = c.take_run-handed.new.self in
      let text = c.newest_run-text.result.now in
      let n = c.take_run-handed.result.taken in
      let len = c.take_run-handed.result.len in
      let front = take (length now.ring.bytes - length text) now.ring.bytes in
      let whole : HasText (front ++ text) (map kept_by ws) =
      subst (λ (l : List ℕ). HasText l (map kept_by ws)) (sym (behind_others now.ring.bytes text c.newest_run-text.ensures.newest)) (text_so now.ring now.counts (map kept_by ws) held) in
      let left = c.drop_newest.ensures.bytes ∙ others_left now.ring.bytes text len c.newest_run-text.ensures.newest c.newest_run-text.ensures.within c.take_run-handed.ensures.within.1 in
      hands_counted c.args.marks.now c.args.stays c.take_run-handed.new.cpu
      (HasText (front ++ take (length text - len) text)) (λ ms. HasText other.ring.bytes ls → HasText new.bytes ms)
      (IsHeld c.drop_newest.new.self c.with_entries-self.result) (λ ms. IsHeld other.ring other.counts ls → IsHeld new c.with_entries-other.result ms)
      (IsHeld other.ring other.counts ls) now.counts other.counts n ws ls c.args.cpu.now
      (λ ks there counted. held_so c.drop_newest.new.self c.with_entries-self.result (front ++ take (length text - len) text) ks left there (subst (λ (k : Counts). Counted k ks) (sym (c.with_entries-self.ensures ∙ ap (λ (m : ℕ). record now.counts { entries = m }) c.saturating_sub-less.ensures)) counted))
      (λ ms into counts base.
      let there = into (text_so other.ring other.counts ls base) in
      let counted = counts base in
      let few = few_entries ms there.fit in
      let small : (other.counts.entries + n) % 2 ^ 64 ≡ other.counts.entries + n = omega (arith, counted.entries, few, ap length there.whole, c.invariant.ensures.within, c.invariant.ensures.sized.1) in
      held_so new c.with_entries-other.result new.bytes ms refl there
      (subst (λ (k : Counts). Counted k ms) (sym (c.with_entries-other.ensures ∙ ap (λ (m : ℕ). record other.counts { entries = m }) small)) counted))
      held.counted (λ base. base.counted)
      (c.take_run-handed.ensures.handed ws ls front way whole);
}
