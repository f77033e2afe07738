use Rattle.std.proofs.Common.{refl, sym, ◌∙◌}
use Rattle.bpf_remote.proofs.Turns.{Serving-start, Serves-ended, Breaks-read, after-more, after-left, after-failure}
use Rattle.bpf_remote.proofs.serving.serve.Goals as goal

pub items-init : goal.items-init
items-init g c = Serving-start _ _ _ _ _ _ _ _ _ _ refl c.new.ensures c.new-2.ensures

pub returns-in-Err-clause-err : goal.returns-in-Err-clause-err
returns-in-Err-clause-err g c =
    Breaks-read _ _ _ _ _ _ _ _ _ _ _ _ _ _ _ _ c.items.invariant (rw c.in-Err.is at c.next_item.ensures)

pub returns-then-is_end-clause-ok : goal.returns-then-is_end-clause-ok
returns-then-is_end-clause-ok g c =
    Serves-ended _ _ _ _ _ _ _ _ _ _ _ _ _ _ _ _ c.items.invariant (rw c.in-Ok.is at c.next_item.ensures) (sym c.is_end.ensures ∙ c.if-is_end.true)

pub returns-in-Err-take_turn-clause-err : goal.returns-in-Err-take_turn-clause-err
returns-in-Err-take_turn-clause-err g c =
    after-failure _ _ _ _ _ _ _ _ _ _ _ _ _ _ _ _ _ _ _ _ _ c.items.invariant (rw c.in-Ok.is at c.next_item.ensures) (sym c.is_end.ensures ∙ c.if-is_end.false)
    c.take_turn.ensures c.in-Err-take_turn.is

pub returns-then-not-on-clause-ok : goal.returns-then-not-on-clause-ok
returns-then-not-on-clause-ok g c =
    after-left _ _ _ _ _ _ _ _ _ _ _ _ _ _ _ _ _ _ _ _ _ c.items.invariant (rw c.in-Ok.is at c.next_item.ensures) (sym c.is_end.ensures ∙ c.if-is_end.false)
    c.take_turn.ensures c.in-Ok-take_turn.is c.if-not-on.true

pub items-preserved : goal.items-preserved
items-preserved g c =
    after-more _ _ _ _ _ _ _ _ _ _ _ _ _ _ _ _ _ _ _ _ _ c.items.invariant (rw c.in-Ok.is at c.next_item.ensures) (sym c.is_end.ensures ∙ c.if-is_end.false)
    c.take_turn.ensures c.in-Ok-take_turn.is c.if-not-on.false
