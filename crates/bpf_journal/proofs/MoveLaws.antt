-- Laws of moves: one state after, one before, none after a refused one; and how much an entry weighs.
use Rattle.std.proofs.Common.{◌≡◌, ◌≤◌, sym, ap, ◌∙◌, arith}
use Rattle.bpf_entries.specs.declared.entry.Entry.{Entry}
use Rattle.bpf_entries.specs.declared.entry.Entry.TheVariants as entry
use Rattle.bpf_machine.specs.declared.moves.Move.{Move}
use Rattle.bpf_machine.specs.declared.moves.Move.TheVariants as move
use Rattle.bpf_entries.specs.Weights.{greatest_weight, weight}
use Rattle.bpf_machine.specs.Moves.{IsMovable, moved}
use Rattle.bpf_steps.specs.State.{State}
use Rattle.bpf_machine.specs.Undoing.{undone}
use Rattle.bpf_machine.proofs.Undoing.{undoing}
use Rattle.bpf_journal.specs.declared.fault.MoveFault.{MoveFault}
use Rattle.bpf_journal.specs.declared.fault.MoveFault.TheVariants as fault
use Rattle.bpf_entries.specs.Fields.{FitsFields}
use Rattle.bpf_entries.specs.Keeping.{kept_weight}
use Rattle.bpf_journal.specs.Laws.{OneAfter, OneBefore, ReplayIsExact, RefusedLeadsNowhere, EveryEntryIsKept}
use Rattle.bpf_journal.specs.Reverting.{RefusesMove}
use Rattle.bpf_entries.proofs.Keeping.{fit_in}

pub one_after : OneAfter
one_after x y z m l k = l.after ∙ sym k.after

pub one_before : OneBefore
one_before x z y m n l k e = sym (undoing x m y l) ∙ ap (λ en. undone en y) e ∙ undoing z n y k

pub replay : ReplayIsExact
replay x y z w m n l k e again =
    let same : x ≡ z = one_before x z y m n l k e in
    (sym same, again.after ∙ ap (λ s. moved s m) (sym same) ∙ sym l.after)

move_refused : (x : State) (m : Move) (f : MoveFault) → RefusesMove x m f → ¬ IsMovable x m
move_refused x move.Step fault.Ended why able = cc
move_refused x move.Step (fault.Edit f) why able = why
move_refused x (move.Edit e) fault.Ended why able = why
move_refused x (move.Edit e) (fault.Edit f) why able = cc

pub nowhere : RefusedLeadsNowhere
nowhere x y m f why leads = move_refused x m f why leads.movable

-- An entry that fits its fields weighs at most 519 bytes: a call.
pub weighs_at_most : (e : Entry) → FitsFields e → weight e ≤ greatest_weight
weighs_at_most (entry.Register pc register value) h = omega arith
weighs_at_most (entry.Jump pc) h = omega arith
weighs_at_most (entry.Call pc old) h = omega (arith, h.1.0)
weighs_at_most (entry.Return pc saved) h = omega arith
weighs_at_most (entry.Store pc address old) h = omega (arith, h.2.1)
weighs_at_most (entry.Fetch pc register value address old) h = omega (arith, h.4.1)
weighs_at_most (entry.Cell pc r0 address old) h = omega (arith, h.3.1)
weighs_at_most (entry.Trace pc r0) h = omega arith
weighs_at_most entry.End h = omega arith
weighs_at_most (entry.EditRegister register value) h = omega arith
weighs_at_most (entry.EditBytes address old) h = omega (arith, h.1.1)
weighs_at_most (entry.EditPc pc status) h = omega arith

pub every_kept : EveryEntryIsKept
every_kept room es e mark size fits =
    let least : 1024 ≤ room = size.0 in
    let at_most : weight e ≤ greatest_weight = weighs_at_most e fits in
    fit_in kept_weight room (e, mark) es (omega arith)
