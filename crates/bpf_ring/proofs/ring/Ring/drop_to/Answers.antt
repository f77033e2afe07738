use Rattle.std.proofs.Common.{◌≡◌, ℕ, List, length, ap, sym, subst}
use Rattle.bpf_ring.specs.Blocks.{Content, around}
use Rattle.bpf_ring.specs.Held.{IsHeld}
use Rattle.bpf_ring.specs.Left.{Left}
use Rattle.bpf_ring.specs.Spans.{HoldsIn, counts_of}
use Rattle.bpf_ring.specs.declared.run.Span.{Span}
use Rattle.bpf_ring.proofs.ring.Ring.drop_to.Goals as goal

pub returns-clause-left : goal.returns-clause-left
returns-clause-left c = λ ks held.
    let inside = c.self.inside in
    let counts = c.args.counts in
    let lent = c.make_contiguous-block.ensures in
    let size = c.capacity-size.result in
    let begins : Span = record { first = inside.first; len = inside.len; entries = counts.entries } in
    let ends = c.drop_in_place-left.result in
    let block = c.make_contiguous-block.result.now in
    let at_size : inside.buffer.capacity ≡ size = sym c.capacity-size.ensures.capacity in
    let inside_held = subst (λ (j : Content). IsHeld j counts ks) (sym c.self.view_is) held in
    let in_block = subst (λ (l : List ℕ). HoldsIn inside.buffer.capacity l counts begins ks) (sym lent.value) inside_held in
    let after = c.drop_in_place-left.ensures.left counts ks (subst (λ (k : ℕ). HoldsIn k block counts begins ks) at_size in_block) in
    let at_end = subst (λ (k : ℕ). Left (record { size = k; bytes = around block ends.first ends.len }) (counts_of counts ends) c.args.most ks) (sym at_size) after in
    subst (λ (l : List ℕ). Left (record { size = inside.buffer.capacity; bytes = around l ends.first ends.len }) (counts_of counts ends) c.args.most ks)
    (sym (lent.same_len block (ap length lent.value))) at_end
