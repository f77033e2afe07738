-- A move that was taken back is made again by what is kept of it: that is read off the state after it, weighs as much as the move's own
-- entry, and leads to the same state with the same entry.
use Rattle.std.proofs.Common.{◌≡◌, ◌≤◌, ◌<◌, ◌+◌, ℕ, true, false, List, Option, Some, None, length, refl, sym, ap, subst, ◌∙◌, arith}
use Rattle.std.proofs.lemmas.Grind.{elements}
use Rattle.std.proofs.lemmas.Bool.Decides.{nat_tests}
use Rattle.std.specs.Prelude.{IsSome, is_some, slice_set, slice_range, unwrap_or, option_map}
use Rattle.std.specs.Option.{option_map_or}
use Rattle.bpf_entries.specs.declared.entry.Entry.{Entry}
use Rattle.bpf_entries.specs.declared.entry.Entry.TheVariants as entry
use Rattle.bpf_entries.specs.Past.{is_of_step}
use Rattle.bpf_entries.specs.Weights.{weight}
use Rattle.bpf_machine.specs.declared.edit.Edit.{Edit}
use Rattle.bpf_machine.specs.declared.edit.Edit.TheVariants as edit
use Rattle.bpf_machine.specs.declared.edit.EditFault.TheVariants.{AddressNotPresent}
use Rattle.bpf_machine.specs.declared.moves.Move.{Move}
use Rattle.bpf_machine.specs.declared.moves.Move.TheVariants as move
use Rattle.bpf_machine.specs.Edits.{IsEditable, edited, edit_entry, replaced_run, unless, with_run}
use Rattle.bpf_steps.specs.Entries.{step_entry}
use Rattle.bpf_machine.specs.Moves.{IsMovable, Leads, moved, overwritten}
use Rattle.bpf_steps.specs.Platform.{cell_address}
use Rattle.bpf_steps.specs.Regions.{Image, IsImage, index_of, paste, put, run, run_at, with_bytes}
use Rattle.bpf_steps.specs.State.{State, IsState, register}
use Rattle.bpf_steps.proofs.ByAddress.{fits_within, length-run}
use Rattle.bpf_machine.proofs.Cells.{cell_present}
use Rattle.bpf_machine.proofs.Editable.{able_bytes, able_cell, able_register}
use Rattle.bpf_journal.specs.Again.{again_entry, move_again, seen_again, written}
use Rattle.bpf_journal.proofs.Histories.{of_move}

-- new bytes that were pasted in are read off again
paste_read : (old new : List ℕ) (at n : ℕ) → length new ≡ n → at + n ≤ length old → slice_range (paste old at new) at (at + n) ≡ new
paste_read old new at n len fits = grind (arith, elements)

-- a register that was written
register_read : (x : State) (r value : ℕ) → length x.registers ≡ 10 → r < 10 → register (record x { registers = slice_set x.registers r value }) r ≡ value
register_read x r value ten low = grind (arith, nat_tests, elements)

-- the run that an edit replaced is as long as what it wrote, and what it wrote stands there
run_long : (m : Image) (a n : ℕ) (other : List ℕ) (found : Option ℕ) → IsImage m → length other ≡ n → index_of m a n ≡ found → IsSome found → length (unwrap_or (option_map (λ at. run m at n) found) other) ≡ n
run_long m a n other None image len is there = cc
run_long m a n other (Some at) image len is there = length-run m.bytes at n (fits_within m image a n at is)

run_read : (m : Image) (a n : ℕ) (new other : List ℕ) (found : Option ℕ) → IsImage m → length new ≡ n → index_of m a n ≡ found → IsSome found → unwrap_or (run_at (put m a n new) a n) other ≡ new
run_read m a n new other None image len is there = cc
run_read m a n new other (Some at) image len is there =
    ap (λ (o : Option ℕ). unwrap_or (run_at (option_map_or (λ k. with_bytes m k new) o m) a n) other) is
    ∙ ap (λ (o : Option ℕ). unwrap_or (option_map (λ k. run (with_bytes m at new) k n) o) other) is
    ∙ paste_read m.bytes new at n len (fits_within m image a n at is)

replaced_long : (x : State) (a : ℕ) (bytes : List ℕ) → IsState x → IsSome (index_of x.memory a (length bytes)) → length (replaced_run x a bytes) ≡ length bytes
replaced_long x a bytes is there = run_long x.memory a (length bytes) bytes (index_of x.memory a (length bytes)) is.image refl refl there

replaced_read : (x : State) (a : ℕ) (bytes : List ℕ) → IsState x → IsSome (index_of x.memory a (length bytes)) → replaced_run (with_run x a bytes) a (replaced_run x a bytes) ≡ bytes
replaced_read x a bytes is there =
    ap (λ n. unwrap_or (run_at (put x.memory a (length bytes) bytes) a n) (replaced_run x a bytes)) (replaced_long x a bytes is there)
    ∙ run_read x.memory a (length bytes) bytes (replaced_run x a bytes) (index_of x.memory a (length bytes)) is.image refl refl there

-- what is read off the state after a step is its entry
pub seen_step : (y : State) (e : Entry) → is_of_step e ≡ true → seen_again y e ≡ e
seen_step y (entry.Register pc r value) of = refl
seen_step y (entry.Jump pc) of = refl
seen_step y (entry.Call pc old) of = refl
seen_step y (entry.Return pc saved) of = refl
seen_step y (entry.Store pc a old) of = refl
seen_step y (entry.Fetch pc r value a old) of = refl
seen_step y (entry.Cell pc r0 a old) of = refl
seen_step y (entry.Trace pc r0) of = refl
seen_step y entry.End of = refl
seen_step y (entry.EditRegister r value) of = cc
seen_step y (entry.EditBytes a old) of = cc
seen_step y (entry.EditPc pc status) of = cc

seen_edit : (x : State) (e : Edit) → IsState x → IsEditable x e → seen_again (edited x e) (edit_entry x e) ≡ written e
unfolding edited edit_entry
seen_edit x (edit.Register r value) is able = ap (λ v. entry.EditRegister r v) (register_read x r value is.ten (able_register x r value able))
seen_edit x (edit.Bytes a bytes) is able = ap (λ run. entry.EditBytes a run) (replaced_read x a bytes is (able_bytes x a bytes able))
seen_edit x (edit.Cell map index bytes) is able =
    let a = cell_address map index (length bytes) in
    ap (λ run. entry.EditBytes a run) (replaced_read x a bytes is (cell_present x map index (length bytes) is (able_cell x map index bytes able)))
seen_edit x (edit.Pc slot) is able = refl

pub seen_is : (x y : State) (m : Move) → Leads x m y → seen_again y (overwritten x m) ≡ again_entry x m
seen_is x y move.Step leads = seen_step y (step_entry x) (of_move x move.Step)
seen_is x y (move.Edit e) leads = ap (λ z. seen_again z (edit_entry x e)) leads.after ∙ seen_edit x e leads.before leads.movable

-- it weighs as much as the entry
weighs_edit : (x : State) (e : Edit) → IsState x → IsEditable x e → weight (written e) ≡ weight (edit_entry x e)
unfolding edit_entry
weighs_edit x (edit.Register r value) is able = refl
weighs_edit x (edit.Bytes a bytes) is able = let long = replaced_long x a bytes is (able_bytes x a bytes able) in omega (arith, long)
weighs_edit x (edit.Cell map index bytes) is able =
    let long = replaced_long x (cell_address map index (length bytes)) bytes is (cell_present x map index (length bytes) is (able_cell x map index bytes able)) in
    omega (arith, long)
weighs_edit x (edit.Pc slot) is able = refl

pub again_weighs : (x y : State) (m : Move) → Leads x m y → weight (again_entry x m) ≡ weight (overwritten x m)
again_weighs x y move.Step leads = refl
again_weighs x y (move.Edit e) leads = weighs_edit x e leads.before leads.movable

-- it is of a step where the move is one
pub again_of_edit : (e : Edit) → is_of_step (written e) ≡ false
again_of_edit (edit.Register r value) = refl
again_of_edit (edit.Bytes a bytes) = refl
again_of_edit (edit.Cell map index bytes) = refl
again_of_edit (edit.Pc slot) = refl

-- the move that is made again
pub again_step : (e : Entry) → is_of_step e ≡ true → move_again e ≡ move.Step
again_step (entry.Register pc r value) of = refl
again_step (entry.Jump pc) of = refl
again_step (entry.Call pc old) of = refl
again_step (entry.Return pc saved) of = refl
again_step (entry.Store pc a old) of = refl
again_step (entry.Fetch pc r value a old) of = refl
again_step (entry.Cell pc r0 a old) of = refl
again_step (entry.Trace pc r0) of = refl
again_step entry.End of = refl
again_step (entry.EditRegister r value) of = cc
again_step (entry.EditBytes a old) of = cc
again_step (entry.EditPc pc status) of = cc

there_is : {X : Type 0} (found : Option X) → IsSome found → is_some found ≡ true
there_is None some = cc
there_is (Some x) some = refl

-- leads to the same state, with the same entry
pub record SameMove (x : State) (m n : Move) : Type 0 where
  pub movable : IsMovable x n
  pub after : moved x n ≡ moved x m
  pub held : overwritten x n ≡ overwritten x m

same_edit : (x : State) (e : Edit) → IsState x → IsEditable x e → SameMove x (move.Edit e) (move_again (written e))
unfolding edited edit_entry
same_edit x (edit.Register r value) is able = record { movable = able; after = refl; held = refl }
same_edit x (edit.Bytes a bytes) is able = record { movable = able; after = refl; held = refl }
same_edit x (edit.Cell map index bytes) is able = record {
  movable = ap (λ b. unless b AddressNotPresent) (there_is (index_of x.memory (cell_address map index (length bytes)) (length bytes)) (cell_present x map index (length bytes) is (able_cell x map index bytes able)));
  after = refl;
  held = refl;
}
same_edit x (edit.Pc slot) is able = record { movable = able; after = refl; held = refl }

pub same_again : (x y : State) (m : Move) → Leads x m y → SameMove x m (move_again (again_entry x m))
same_again x y move.Step leads = subst (SameMove x move.Step) (sym (again_step (step_entry x) (of_move x move.Step))) (record { movable = leads.movable; after = refl; held = refl })
same_again x y (move.Edit e) leads = same_edit x e leads.before leads.movable
