use Rattle.std.proofs.Common.{◌≡◌, ◌<◌, List, ℕ, [], Ok, length, map, subst, sym}
use Rattle.std.proofs.lemmas.List.{get_or-map, length-map}
use Rattle.std.specs.Borrow.{Bor}
use Rattle.std.specs.Prelude.{get_or}
use Rattle.bpf_link.proofs.Steps.{one_more}
use Rattle.bpf_link.specs.Links.{MemoryOr}
use Rattle.bpf_turns.specs.Seats.{with_named, with_seat}
use Rattle.bpf_turns.proofs.seats.seats_of.Goals as goal

-- a text and what it holds
named : (texts : List (Bor (List ℕ))) (k : ℕ) (none : Bor (List ℕ)) → k < length texts → (get_or texts k none).now ≡ get_or (map (λ text. text.now) texts) k []
named texts k none inside = sym (get_or-map (λ text. text.now) texts k none [] inside)

pub loop-k-preserved : goal.loop-k-preserved
loop-k-preserved c =
    one_more (with_seat c.args.plan.now c.args.only (map (λ text. text.now) c.args.texts.now)) [] c.loop-k.k c.loop-k.seats.items (Ok c.in-Ok.new.items) c.loop-k.invariant
    (subst (λ text. with_named c.args.plan.now c.args.only text c.loop-k.seats.items ≡ Ok c.in-Ok.new.items)
    (named c.args.texts.now c.loop-k.k record { ref_ptr = (0, 0); now = [] } c.loop-k-test.true) (rw c.as_bytes.ensures.value at c.in-Ok.ensures.ok))

pub returns-in-Err-clause-err : goal.returns-in-Err-clause-err
returns-in-Err-clause-err c = record {
  inside = subst (λ n. c.loop-k.k < n) (sym (length-map c.args.texts.now (λ text. text.now))) c.loop-k-test.true;
  before = c.loop-k.seats.items;
  are_before = c.loop-k.invariant;
  why =
      subst (λ text. MemoryOr (with_named c.args.plan.now c.args.only text c.loop-k.seats.items) c.in-Err.fault)
      (named c.args.texts.now c.loop-k.k record { ref_ptr = (0, 0); now = [] } c.loop-k-test.true) (rw c.as_bytes.ensures.value at c.in-Err.ensures.err);
}
