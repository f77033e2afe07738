-- An entry of a move can be put back: its slot starts an instruction of the program, its register is not r10, and there
-- is room for its frame.
use Rattle.std.proofs.Common.{◌≡◌, ◌<◌, ◌-◌, length, length-take, Option, Some, None, refl, sym, subst, arith}
use Rattle.std.specs.Option.{option_map_or}
use Rattle.bpf_steps.specs.declared.change.Change.{Change}
use Rattle.bpf_steps.specs.declared.change.Change.TheVariants.{Set, Go, Store, Fetch, Call, Return, Cell, Trace, Stop}
use Rattle.bpf_machine.specs.declared.edit.Edit.{Edit}
use Rattle.bpf_machine.specs.declared.edit.Edit.TheVariants as edit
use Rattle.bpf_machine.specs.declared.moves.Move.{Move}
use Rattle.bpf_machine.specs.declared.moves.Move.TheVariants as move
use Rattle.bpf_entries.specs.declared.entry.Entry.{Entry}
use Rattle.bpf_entries.specs.declared.entry.Entry.TheVariants as entry
use Rattle.bpf_steps.specs.declared.frame.Frame.{Frame}
use Rattle.bpf_steps.specs.Calls.{saved, popped, innermost}
use Rattle.bpf_steps.specs.State.{State, IsState, depth}
use Rattle.bpf_steps.specs.Fetched.{Fits}
use Rattle.bpf_steps.specs.Next.{change, changed, returned}
use Rattle.bpf_steps.specs.Entries.{entry_of}
use Rattle.bpf_machine.specs.Edits.{IsEditable, edited, edit_entry}
use Rattle.bpf_machine.specs.Moves.{HasCome, IsMovable, moved, overwritten}
use Rattle.bpf_machine.specs.Undoing.{Restores}
use Rattle.bpf_machine.proofs.Editable.{able_register}
use Rattle.bpf_machine.proofs.Fitting.{change_fits}
use Rattle.bpf_machine.proofs.Undoing.{innermost_there}

restores_return : (x : State) (found : Option Frame) → IsState x → 0 < depth x → innermost x ≡ found → Restores (option_map_or (returned x) found x) (entry.Return x.pc (saved x))
restores_return x None is some e = absurd (innermost_there x.frames some e)
restores_return x (Some f) is some e =
    let count : length (popped x) ≡ depth x - 1 = omega (arith, length-take (depth x - 1) x.frames) in
    let shallow = is.shallow in
    (is.start, tt, omega (arith, some, count, shallow))

restores_change : (x : State) (c : Change) → IsState x → Fits x c → Restores (changed x c) (entry_of x c)
unfolding changed entry_of
restores_change x (Set r value after) is fits = (is.start, fits.0, tt)
restores_change x (Go after) is fits = (is.start, tt, tt)
restores_change x (Store a at size value after) is fits = (is.start, tt, tt)
restores_change x (Fetch a at size value r after) is fits = (is.start, fits.0, tt)
restores_change x (Call to) is fits = (is.start, tt, tt)
restores_change x Return is fits = restores_return x (innermost x) is fits refl
restores_change x (Cell a from n after) is fits = (is.start, omega arith, tt)
restores_change x (Trace word after) is fits = (is.start, omega arith, tt)
restores_change x (Stop status) is fits = (tt, tt, tt)

restores_edit : (x : State) (e : Edit) → IsState x → IsEditable x e → Restores (edited x e) (edit_entry x e)
unfolding edited edit_entry
restores_edit x (edit.Register r value) is able = (tt, able_register x r value able, tt)
restores_edit x (edit.Bytes a bytes) is able = (tt, tt, tt)
restores_edit x (edit.Cell map index bytes) is able = (tt, tt, tt)
restores_edit x (edit.Pc slot) is able = (is.start, tt, tt)

restores_move : (x : State) (m : Move) → IsState x → IsMovable x m → Restores (moved x m) (overwritten x m)
restores_move x move.Step is able = restores_change x (change x) is (change_fits x is)
restores_move x (move.Edit e) is able = restores_edit x e is able

pub restores : (y : State) (entry : Entry) → HasCome y entry → Restores y entry
restores y entry h =
    subst (Restores y) h.held (subst (λ s. Restores s (overwritten h.x h.m)) (sym h.leads.after) (restores_move h.x h.m h.leads.before h.leads.movable))
