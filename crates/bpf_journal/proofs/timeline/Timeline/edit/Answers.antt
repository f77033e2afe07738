use Rattle.std.proofs.Common.{◌≡◌, sym}
use Rattle.bpf_machine.specs.declared.moves.Move.TheVariants as move
use Rattle.bpf_journal.proofs.Histories.{is_of_edit, kept_history, makes, stays, history_stays}
use Rattle.bpf_journal.proofs.timeline.Timeline.edit.Goals as goal

pub edit_fits-requires : goal.edit_fits-requires
edit_fits-requires g c = is_of_edit _ _ _ c.in-Ok.ensures.entry

pub invariant_of-self-in-Ok-push : goal.invariant_of-self-in-Ok-push
invariant_of-self-in-Ok-push g c =
    kept_history g.K.Keeper.holds _ _ _ _ _ (move.Edit c.args.edit.now) _ _
    (record { before = c.invariant.ensures; movable = c.in-Ok.ensures.ok; after = c.in-Ok.ensures.next })
    c.in-Ok.ensures.entry c.in-Ok-push.ensures.ok c.self.invariant

pub revert-requires : goal.revert-requires
revert-requires g c = record {
  x = c.self.inside.cpu;
  m = move.Edit c.args.edit.now;
  leads = record { before = c.invariant.ensures; movable = c.in-Ok.ensures.ok; after = c.in-Ok.ensures.next };
  held = sym c.in-Ok.ensures.entry;
}

pub invariant_of-self-in-Err-push : goal.invariant_of-self-in-Err-push
invariant_of-self-in-Err-push g c =
    history_stays g.K.Keeper.holds _ _ _ _
    (c.revert.ensures c.self.inside.cpu (move.Edit c.args.edit.now)
    (record { before = c.invariant.ensures; movable = c.in-Ok.ensures.ok; after = c.in-Ok.ensures.next })
    (sym c.in-Ok.ensures.entry))
    c.in-Err-push.ensures.err c.self.invariant

pub returns-in-Ok-push-clause-ok : goal.returns-in-Ok-push-clause-ok
returns-in-Ok-push-clause-ok g c =
    rw (← c.self.view_is) (makes g.K.Keeper.holds _ _ _ _ _ (move.Edit c.args.edit.now) _ _
    (record { before = c.invariant.ensures; movable = c.in-Ok.ensures.ok; after = c.in-Ok.ensures.next })
    c.in-Ok.ensures.entry c.in-Ok-push.ensures.ok)

pub returns-in-Err-push-clause-err : goal.returns-in-Err-push-clause-err
returns-in-Err-push-clause-err g c =
    let back : c.revert.new.self ≡ c.self.inside.cpu =
    c.revert.ensures c.self.inside.cpu (move.Edit c.args.edit.now)
    (record { before = c.invariant.ensures; movable = c.in-Ok.ensures.ok; after = c.in-Ok.ensures.next })
    (sym c.in-Ok.ensures.entry) in
    rw (← c.self.view_is) (c.in-Ok.ensures.ok, stays g.K.Keeper.holds _ _ _ _ back c.in-Err-push.ensures.err)
