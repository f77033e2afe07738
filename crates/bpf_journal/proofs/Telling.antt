-- An entry tells each byte before its move, and the depth.
use Rattle.std.proofs.Common.{◌≡◌, ◌≤◌, ◌<◌, ◌⊎◌, ◌+◌, ◌-◌, ℕ, Bool, true, false, List, [], ◌∷◌, Option, Some, None, length, refl, sym, ap, subst, ◌∙◌, inl, inr, arith}
use Rattle.std.specs.Prelude.{◌&&◌, nat_le, nat_lt, if◌then◌else◌, IsSome, unwrap_or, option_map, slice_index}
use Rattle.std.proofs.lemmas.Bool.Decides.{nat_tests}
use Rattle.std.proofs.lemmas.List.{length-append}
use Rattle.bpf_steps.specs.declared.change.Change.{Change}
use Rattle.bpf_steps.specs.declared.change.Change.TheVariants.{Set, Go, Store, Fetch, Call, Return, Cell, Trace, Stop}
use Rattle.bpf_machine.specs.declared.edit.Edit.{Edit}
use Rattle.bpf_machine.specs.declared.edit.Edit.TheVariants as edit
use Rattle.bpf_entries.specs.declared.entry.Entry.{Entry}
use Rattle.bpf_entries.specs.declared.entry.Entry.TheVariants as entry
use Rattle.bpf_machine.specs.declared.moves.Move.{Move}
use Rattle.bpf_machine.specs.declared.moves.Move.TheVariants as move
use Rattle.bpf_steps.specs.Platform.{cell_address, frame_base, frame_len}
use Rattle.bpf_steps.specs.Regions.{Image, IsImage, index_of, run, run_at}
use Rattle.bpf_steps.specs.ByAddress.{byte_at, byte}
use Rattle.bpf_steps.specs.Fetched.{Fits}
use Rattle.bpf_steps.specs.State.{State, IsState, depth}
use Rattle.bpf_steps.specs.Calls.{entered, saved}
use Rattle.bpf_steps.specs.Next.{change, changed, next}
use Rattle.bpf_machine.specs.Edits.{IsEditable, edited, edit_entry, with_run, replaced_run}
use Rattle.bpf_steps.specs.Entries.{entry_of}
use Rattle.bpf_machine.specs.Moves.{Leads, IsMovable, moved, overwritten}
use Rattle.bpf_machine.specs.StepLaws.{KeepsOtherBytes, MovesFrames}
use Rattle.bpf_entries.specs.Past.{Same, past, replaced, stood}
use Rattle.bpf_machine.proofs.Editable.{able_bytes, able_cell}
use Rattle.bpf_steps.proofs.ByAddress.{byte_within, run_reads, length-run, fits_within}
use Rattle.bpf_machine.proofs.Cells.{cell_present}
use Rattle.bpf_machine.proofs.Fitting.{change_fits}
use Rattle.bpf_machine.proofs.StepLaws.{keeps_cell, law_bytes, law_rest}
use Rattle.bpf_machine.proofs.Undoing.{pushed_depth}
use Rattle.bpf_journal.specs.Replaced.{replaces_bytes, byte_in, byte_before, depth_before, TellsBefore, EntriesTellBefore}

-- What stood in a run of an image, and what is as it was in another.
record Tells (before : Image) (a : ℕ) (old : List ℕ) (after : Image) : Type 0 where
  inside : (j : ℕ) → j < length old → byte_at before (a + j) ≡ Some (slice_index old j)
  outside : (b : ℕ) → (b < a) ⊎ (a + length old ≤ b) → byte_at after b ≡ byte_at before b

tells_byte : (before after : Image) (a : ℕ) (old : List ℕ) (b : ℕ) → Tells before a old after → unwrap_or (byte_at before b) 0 ≡ byte_in (Some (record { address = a; bytes = old })) b (unwrap_or (byte_at after b) 0)
tells_byte before after a old b t = at (nat_le a b) (nat_lt b (a + length old)) refl refl
  where
    at : (past below : Bool) → nat_le a b ≡ past → nat_lt b (a + length old) ≡ below → unwrap_or (byte_at before b) 0 ≡ (if past && below then slice_index old (b - a) else unwrap_or (byte_at after b) 0)
    at true true p q =
        let from : a ≤ b = grind (arith, nat_tests) in
        let to : b < a + length old = grind (arith, nat_tests) in
        let here : b ≡ a + (b - a) = omega arith in
        ap (λ (n : ℕ). unwrap_or (byte_at before n) 0) here ∙ ap (λ (o : Option ℕ). unwrap_or o 0) (t.inside (b - a) (omega arith))
    at true false p q =
        let to : a + length old ≤ b = grind (arith, nat_tests) in
        ap (λ (o : Option ℕ). unwrap_or o 0) (sym (t.outside b (inr to)))
    at false below p q =
        let from : b < a = grind (arith, nat_tests) in
        ap (λ (o : Option ℕ). unwrap_or o 0) (sym (t.outside b (inl from)))

-- The bytes of a run that is there.
run_tells : (m : Image) → IsImage m → (a n at : ℕ) → index_of m a n ≡ Some at → (j : ℕ) → j < length (run m at n) → byte_at m (a + j) ≡ Some (slice_index (run m at n) j)
run_tells m image a n at found j low =
    let count : length (run m at n) ≡ n = length-run m.bytes at n (fits_within m image a n at found) in
    let within : j < n = omega (arith, count, low) in
    byte_within m image a n at j found within ∙ ap Some (sym (run_reads m.bytes at n j within))

told_run : (m after : Image) → IsImage m → (a n at b : ℕ) → index_of m a n ≡ Some at → KeepsOtherBytes m (stood a (run m at n)) after → unwrap_or (byte_at m b) 0 ≡ byte_in (stood a (run m at n)) b (unwrap_or (byte_at after b) 0)
told_run m after image a n at b found keeps =
    tells_byte m after a (run m at n) b (record { inside = run_tells m image a n at found; outside = keeps })

found_tells : (m : Image) → IsImage m → (a n : ℕ) (other : List ℕ) (found : Option ℕ) → index_of m a n ≡ found → IsSome found → (j : ℕ) → j < length (unwrap_or (run_at m a n) other) → byte_at m (a + j) ≡ Some (slice_index (unwrap_or (run_at m a n) other) j)
found_tells m image a n other None e some j low = cc
found_tells m image a n other (Some at) e some j low =
    let was : unwrap_or (run_at m a n) other ≡ run m at n = ap (λ o. unwrap_or (option_map (λ k. run m k n) o) other) e in
    let within : j < length (run m at n) = omega (arith, ap length was, low) in
    run_tells m image a n at e j within ∙ ap (λ (xs : List ℕ). Some (slice_index xs j)) (sym was)

-- Steps.
step_tells : (x : State) (c : Change) → IsState x → Fits x c → KeepsOtherBytes x.memory (replaced (depth (changed x c)) (entry_of x c)) (changed x c).memory → (b : ℕ) → byte x b ≡ byte_before (depth (changed x c)) (entry_of x c) b (byte (changed x c) b)
unfolding entry_of changed
step_tells x (Set r value after) is fits keeps b = ap (λ (m : Image). unwrap_or (byte_at m b) 0) (sym keeps)
step_tells x (Go after) is fits keeps b = ap (λ (m : Image). unwrap_or (byte_at m b) 0) (sym keeps)
step_tells x (Store a at size value after) is fits keeps b =
    told_run x.memory (changed x (Store a at size value after)).memory is.image a _ at b fits.0.found keeps
step_tells x (Fetch a at size value r after) is fits keeps b =
    told_run x.memory (changed x (Fetch a at size value r after)).memory is.image a _ at b fits.1.found keeps
step_tells x (Call to) is fits keeps b =
    tells_byte x.memory (changed x (Call to)).memory (frame_base (depth (changed x (Call to)))) (entered x) b
    (record {
      inside = subst (λ (d : ℕ). (j : ℕ) → j < length (entered x) → byte_at x.memory (frame_base d + j) ≡ Some (slice_index (entered x) j)) (sym (pushed_depth x (x.pc + 1)))
          (found_tells x.memory is.image (frame_base (depth x + 1)) frame_len [] (index_of x.memory (frame_base (depth x + 1)) frame_len) refl fits.3);
      outside = keeps;
    })
step_tells x Return is fits keeps b = ap (λ (m : Image). unwrap_or (byte_at m b) 0) (sym keeps)
step_tells x (Cell a from n after) is fits keeps b =
    tells_byte x.memory (changed x (Cell a from n after)).memory a (unwrap_or (run_at x.memory a n) []) b
    (record { inside = found_tells x.memory is.image a n [] (index_of x.memory a n) refl fits.3.found; outside = keeps })
step_tells x (Trace word after) is fits keeps b = ap (λ (m : Image). unwrap_or (byte_at m b) 0) (sym keeps)
step_tells x (Stop status) is fits keeps b = ap (λ (m : Image). unwrap_or (byte_at m b) 0) (sym keeps)

step_depths : (x y : State) (c : Change) → MovesFrames x (past (depth y) (entry_of x c)).frames y → depth x ≡ depth_before (depth y) (entry_of x c)
unfolding entry_of
step_depths x y (Call to) moves =
    let more : depth y ≡ depth x + 1 = ap length moves ∙ length-append x.frames _ in
    omega (arith, more)
step_depths x y Return moves = ap length moves.1 ∙ length-append y.frames (moves.0 ∷ [])
step_depths x y (Set r value after) moves = sym (ap length moves)
step_depths x y (Go after) moves = sym (ap length moves)
step_depths x y (Store a at size value after) moves = sym (ap length moves)
step_depths x y (Fetch a at size value r after) moves = sym (ap length moves)
step_depths x y (Cell a from n after) moves = sym (ap length moves)
step_depths x y (Trace word after) moves = sym (ap length moves)
step_depths x y (Stop status) moves = sym (ap length moves)

-- Edits.
run_edited : (x : State) (a : ℕ) (bytes : List ℕ) → IsState x → IsSome (index_of x.memory a (length bytes)) → Tells x.memory a (replaced_run x a bytes) (with_run x a bytes).memory
run_edited x a bytes is some = tells (index_of x.memory a (length bytes)) refl some
  where
    tells : (found : Option ℕ) → index_of x.memory a (length bytes) ≡ found → IsSome found → Tells x.memory a (replaced_run x a bytes) (with_run x a bytes).memory
    tells None e some = cc
    tells (Some i) e some =
        let was : replaced_run x a bytes ≡ run x.memory i (length bytes) = ap (λ o. unwrap_or (option_map (λ k. run x.memory k (length bytes)) o) bytes) e in
        let empty : unwrap_or (run_at x.memory a (length bytes)) [] ≡ run x.memory i (length bytes) = ap (λ o. unwrap_or (option_map (λ k. run x.memory k (length bytes)) o) []) e in
        record {
          inside = found_tells x.memory is.image a (length bytes) bytes (Some i) e some;
          outside = λ b beside.
              let apart : (b < a) ⊎ (a + length (unwrap_or (run_at x.memory a (length bytes)) []) ≤ b) = elim beside [ inl low ↦ inl low | inr high ↦ inr (omega (arith, ap length was, ap length empty, high)) ] in
              keeps_cell x.memory is.image a (length bytes) bytes (Some i) refl e some b apart;
        }

edit_tells : (x : State) (e : Edit) → IsState x → IsEditable x e → (d b : ℕ) → byte x b ≡ byte_before d (edit_entry x e) b (byte (edited x e) b)
unfolding edited edit_entry
edit_tells x (edit.Register r value) is able d b = refl
edit_tells x (edit.Bytes a bytes) is able d b =
    tells_byte x.memory (with_run x a bytes).memory a (replaced_run x a bytes) b (run_edited x a bytes is (able_bytes x a bytes able))
edit_tells x (edit.Cell map index bytes) is able d b =
    let a = cell_address map index (length bytes) in
    tells_byte x.memory (with_run x a bytes).memory a (replaced_run x a bytes) b (run_edited x a bytes is (cell_present x map index (length bytes) is (able_cell x map index bytes able)))
edit_tells x (edit.Pc slot) is able d b = refl

edit_depths : (x : State) (e : Edit) → depth x ≡ depth_before (depth (edited x e)) (edit_entry x e)
unfolding edited edit_entry
edit_depths x (edit.Register r value) = refl
edit_depths x (edit.Bytes a bytes) = refl
edit_depths x (edit.Cell map index bytes) = refl
edit_depths x (edit.Pc slot) = refl

move_tells : (x : State) (m : Move) → IsState x → IsMovable x m → TellsBefore x (moved x m) (overwritten x m)
move_tells x move.Step is runs = record {
  depths = step_depths x (next x) (change x) (law_rest x is runs).1;
  bytes = λ a. step_tells x (change x) is (change_fits x is) (law_bytes x is runs) a;
}
move_tells x (move.Edit e) is able = record {
  depths = edit_depths x e;
  bytes = λ a. edit_tells x e is able (depth (edited x e)) a;
}

pub tells_before : EntriesTellBefore
tells_before x y m leads =
    subst (λ (z : State). TellsBefore x z (overwritten x m)) (sym leads.after) (move_tells x m leads.before leads.movable)

-- Where no frame was entered or left the depth is as it was.
pub level_by : (d : ℕ) (e : Entry) → (past 0 e).frames ≡ Same → depth_before d e ≡ d
level_by d (entry.Register pc r value) same = refl
level_by d (entry.Jump pc) same = refl
level_by d (entry.Call pc old) same = absurd cc
level_by d (entry.Return pc saved) same = absurd cc
level_by d (entry.Store pc a old) same = refl
level_by d (entry.Fetch pc r value a old) same = refl
level_by d (entry.Cell pc r0 a old) same = refl
level_by d (entry.Trace pc r0) same = refl
level_by d entry.End same = refl
level_by d (entry.EditRegister r value) same = refl
level_by d (entry.EditBytes a old) same = refl
level_by d (entry.EditPc pc status) same = refl

-- Where no bytes were replaced each is as it was.
pub no_run : (e : Entry) → replaces_bytes e ≡ false → (d a after : ℕ) → byte_before d e a after ≡ after
no_run (entry.Register pc r value) none d a after = refl
no_run (entry.Jump pc) none d a after = refl
no_run (entry.Call pc old) none d a after = cc
no_run (entry.Return pc saved) none d a after = refl
no_run (entry.Store pc address old) none d a after = cc
no_run (entry.Fetch pc r value address old) none d a after = cc
no_run (entry.Cell pc r0 address old) none d a after = cc
no_run (entry.Trace pc r0) none d a after = refl
no_run entry.End none d a after = refl
no_run (entry.EditRegister r value) none d a after = refl
no_run (entry.EditBytes address old) none d a after = cc
no_run (entry.EditPc pc status) none d a after = refl

pub kept_bytes : (x y : State) (m : Move) → Leads x m y → replaces_bytes (overwritten x m) ≡ false → (a : ℕ) → byte x a ≡ byte y a
kept_bytes x y m leads none a = (tells_before x y m leads).bytes a ∙ no_run (overwritten x m) none (depth y) a (byte y a)
