-- Going back: what a move replaced, put back, gives the state before the move.
use Rattle.std.proofs.Common.{◌≡◌, ◌≤◌, ◌<◌, ◌+◌, ◌-◌, ℕ, List, [], ◌∷◌, ◌++◌, take, length, get_or, length-append, Option, Some, None, false, refl, sym, ap, subst, ◌∙◌, arith, inl, inr}
use Rattle.std.specs.Prelude.{All, IsSome, slice_set, slice_index, slice_get, slice_range, unwrap_or, option_map}
use Rattle.std.specs.Option.{option_map_or}
use Rattle.std.proofs.lemmas.Grind.{elements}
use Rattle.std.proofs.lemmas.Bool.{cases_lt}
use Rattle.std.proofs.lemmas.Bool.Decides.{nat_tests}
use Rattle.std.proofs.lemmas.List.{length-replicate, set-set, set-get_or, set_past, take_more, take_all}
use Rattle.std.proofs.lemmas.List.Elements.{All-get_or}
use Rattle.std.proofs.lemmas.Option.{slice_get_cases}
use Rattle.std.proofs.Math.Seq.{take-append_seam}
use Rattle.byteorder.specs.Endian.{little_bytes}
use Rattle.byteorder.specs.Numbers.{length-bytes_low_first}
use Rattle.bpf_isa.specs.Sizes.{size_len}
use Rattle.bpf_isa.specs.Programs.{Checked}
use Rattle.bpf_entries.specs.declared.entry.Entry.TheVariants as entry
use Rattle.bpf_steps.specs.declared.frame.Frame.{Frame}
use Rattle.bpf_steps.specs.Calls.{saved, with_saved, frame_of, pushed, popped, innermost, entered, cleared}
use Rattle.bpf_steps.specs.Fetched.{Fits}
use Rattle.bpf_steps.specs.declared.change.Change.{Change}
use Rattle.bpf_steps.specs.declared.change.Change.TheVariants.{Set, Go, Store, Fetch, Call, Return, Cell, Trace, Stop}
use Rattle.bpf_machine.specs.declared.edit.Edit.{Edit}
use Rattle.bpf_machine.specs.declared.edit.Edit.TheVariants as edit
use Rattle.bpf_machine.specs.declared.moves.Move.{Move}
use Rattle.bpf_machine.specs.declared.moves.Move.TheVariants as move
use Rattle.bpf_entries.specs.declared.status.Status.{Status}
use Rattle.bpf_entries.specs.declared.status.Status.TheVariants.{Running, Exited, Faulted}
use Rattle.bpf_entries.specs.Status.{has_ended}
use Rattle.bpf_steps.specs.Platform.{cell_address, frame_base, frame_len}
use Rattle.bpf_steps.specs.Regions.{Image, IsImage, index_of, run, run_at, number_at, paste, with_bytes, put, zeros}
use Rattle.bpf_steps.specs.State.{State, IsState, IsFrame, register, depth}
use Rattle.bpf_steps.specs.Next.{change, changed, returned}
use Rattle.bpf_steps.specs.Entries.{entry_of}
use Rattle.bpf_machine.specs.Edits.{IsEditable, edited, edit_entry}
use Rattle.bpf_machine.specs.Moves.{Leads, IsMovable, moved, overwritten}
use Rattle.bpf_machine.specs.Undoing.{undone}
use Rattle.bpf_machine.proofs.Editable.{able_bytes, able_cell}
use Rattle.bpf_steps.proofs.ByAddress.{fits_within, length-run}
use Rattle.bpf_machine.proofs.Cells.{cell_present}
use Rattle.bpf_machine.proofs.Fitting.{change_fits}

-- Old bytes put back over new ones give the old list.
pub paste_back : (old new : List ℕ) (at n : ℕ) → length new ≡ n → at + n ≤ length old → paste (paste old at new) at (slice_range old at (at + n)) ≡ old
paste_back old new at n len fits = grind (arith, elements)

-- A register's old value put back gives the old registers.
pub register_back : (x : State) (r value : ℕ) → length x.registers ≡ 10 → slice_set (slice_set x.registers r value) r (register x r) ≡ x.registers
register_back x r value ten = elim (cases_lt r 10) [
  | inl low ↦
      let is : register x r ≡ slice_index x.registers r = grind (arith, nat_tests) in
      set-set x.registers r value (register x r) ∙ ap (λ v. slice_set x.registers r v) is ∙ set-get_or x.registers r 0
  | inr high ↦
      set-set x.registers r value (register x r) ∙ set_past x.registers r (register x r) (omega arith)
]

-- Old bytes put back at their address give the old memory.
put_at : (m : Image) (found : Option ℕ) (at : ℕ) (new : List ℕ) → found ≡ Some at → option_map_or (λ k. with_bytes m k new) found m ≡ with_bytes m at new
put_at m None at new e = cc
put_at m (Some k) at new e =
    let same : k ≡ at = cc in
    ap (λ k. with_bytes m k new) same

pub memory_back : (m : Image) (a n at : ℕ) (new : List ℕ) → IsImage m → length new ≡ n → index_of m a n ≡ Some at → put (with_bytes m at new) a (length (run m at n)) (run m at n) ≡ m
memory_back m a n at new image len found =
    let fits : at + n ≤ length m.bytes = fits_within m image a n at found in
    let count : length (run m at n) ≡ n = length-run m.bytes at n fits in
    put_at (with_bytes m at new) (index_of m a (length (run m at n))) at (run m at n) (ap (index_of m a) count ∙ found)
    ∙ ap (λ bytes. record m { bytes = bytes }) (paste_back m.bytes new at n len fits)

-- Only a running state has not ended.
pub runs : (status : Status) → has_ended status ≡ false → status ≡ Running
runs Running e = refl
runs Exited e = cc
runs (Faulted fault) e = cc

-- So many zeros are as many bytes.
pub length-zeros : (n : ℕ) → length (zeros n) ≡ n
unfolding zeros
length-zeros n = length-replicate n 0

-- A call makes the depth one more.
pub pushed_depth : (x : State) (to : ℕ) → length (pushed x to) ≡ depth x + 1
pushed_depth x to = omega (arith, length-append x.frames (frame_of x to ∷ []))

-- What a push adds to a list, a pop takes off; and what a pop took off, a push adds.
pub pop_push : {X : Type 0} (xs : List X) (x : X) → take (length (xs ++ x ∷ []) - 1) (xs ++ x ∷ []) ≡ xs
pop_push xs x =
    let count : length (xs ++ x ∷ []) - 1 ≡ length xs = omega (arith, length-append xs (x ∷ [])) in
    ap (λ n. take n (xs ++ x ∷ [])) count ∙ take-append_seam xs (x ∷ [])

pub push_pop : {X : Type 0} (xs : List X) (x : X) → 0 < length xs → slice_get xs (length xs - 1) ≡ Some x → take (length xs - 1) xs ++ x ∷ [] ≡ xs
push_pop xs x some e =
    let last : get_or xs (length xs - 1) x ≡ x = elim ((slice_get_cases xs (length xs - 1)).1) [
      | inl found ↦ let same : found.0 ≡ x = cc in rw (← same) (subst (λ y. get_or xs (length xs - 1) y ≡ y) refl (found.3))
      | inr past ↦ cc
    ] in
    let all : length xs - 1 + 1 ≡ length xs = omega (arith, some) in
    ap (λ y. take (length xs - 1) xs ++ y ∷ []) (sym last)
    ∙ sym (take_more xs (length xs - 1) x (omega (arith, some)))
    ∙ ap (λ n. take n xs) all
    ∙ take_all (length xs) xs (omega arith)

-- r6 to r9, given other numbers and then their own again; and what stands in them in between.
pub restored_back : (rs ns : List ℕ) → length rs ≡ 10 → with_saved (with_saved rs ns) (slice_index rs 6 ∷ slice_index rs 7 ∷ slice_index rs 8 ∷ slice_index rs 9 ∷ []) ≡ rs
restored_back (a ∷ b ∷ c ∷ d ∷ e ∷ f ∷ g ∷ h ∷ i ∷ j ∷ []) ns ten = refl
restored_back _ ns ten = absurd (omega (arith, ten))

four_of : (ns : List ℕ) → length ns ≡ 4 → (slice_index ns 0 ∷ slice_index ns 1 ∷ slice_index ns 2 ∷ slice_index ns 3 ∷ []) ≡ ns
four_of (a ∷ b ∷ c ∷ d ∷ []) four = refl
four_of _ four = absurd (omega (arith, four))

pub saved_now : (rs ns : List ℕ) → length rs ≡ 10 → length ns ≡ 4 → (slice_index (with_saved rs ns) 6 ∷ slice_index (with_saved rs ns) 7 ∷ slice_index (with_saved rs ns) 8 ∷ slice_index (with_saved rs ns) 9 ∷ []) ≡ ns
saved_now (a ∷ b ∷ c ∷ d ∷ e ∷ f ∷ g ∷ h ∷ i ∷ j ∷ []) ns ten four = four_of ns four
saved_now _ ns ten four = absurd (omega (arith, ten))

-- The innermost frame is there below depth 0, and is a frame.
pub innermost_there : (xs : List Frame) → 0 < length xs → slice_get xs (length xs - 1) ≡ None → ⊥
innermost_there xs some e = elim ((slice_get_cases xs (length xs - 1)).1) [
  | inl found ↦ cc
  | inr past ↦ omega (arith, some, past.0)
]

pub frame_is : (program : Checked) (xs : List Frame) (k : ℕ) (f : Frame) → All (IsFrame program) xs → slice_get xs k ≡ Some f → IsFrame program f
frame_is program xs k f all e = elim ((slice_get_cases xs k).1) [
  | inl found ↦ let same : get_or xs k f ≡ f = cc in subst (IsFrame program) same (All-get_or (IsFrame program) xs k f found.1 all)
  | inr past ↦ cc
]

return_back : (x : State) (found : Option Frame) → IsState x → 0 < depth x → innermost x ≡ found → undone (entry.Return x.pc (saved x)) (option_map_or (returned x) found x) ≡ x
unfolding undone
return_back x None is some e = absurd (innermost_there x.frames some e)
return_back x (Some f) is some e =
    let four : length f.saved ≡ 4 = (frame_is x.program x.frames (depth x - 1) f is.framed e).four in
    let frame : frame_of (returned x f) f.return_pc ≡ f = ap (λ (ns : List ℕ). record f { saved = ns }) (saved_now x.registers f.saved is.ten four) in
    ap (λ (fs : List Frame). record x { registers = with_saved (with_saved x.registers f.saved) (saved x); frames = fs }) (ap (λ (g : Frame). popped x ++ g ∷ []) frame ∙ push_pop x.frames f some e)
    ∙ ap (λ (rs : List ℕ). record x { registers = rs }) (restored_back x.registers f.saved is.ten)

-- A register and memory put back, or a register and the trace.
stored_back : (x : State) (rs : List ℕ) (m : Image) → rs ≡ x.registers → m ≡ x.memory → record x { registers = rs; memory = m } ≡ x
stored_back x rs m e f = ap (λ (qs : List ℕ). record x { registers = qs; memory = m }) e ∙ ap (λ (k : Image). record x { memory = k }) f

called_back : (x : State) (fs : List Frame) (m : Image) → fs ≡ x.frames → m ≡ x.memory → record x { frames = fs; memory = m } ≡ x
called_back x fs m e f = ap (λ (gs : List Frame). record x { frames = gs; memory = m }) e ∙ ap (λ (k : Image). record x { memory = k }) f

traced_back : (x : State) (rs ws : List ℕ) → rs ≡ x.registers → ws ≡ x.trace → record x { registers = rs; trace = ws } ≡ x
traced_back x rs ws e f = ap (λ (qs : List ℕ). record x { registers = qs; trace = ws }) e ∙ ap (λ (ks : List ℕ). record x { trace = ks }) f

-- Bytes at an address, put back.
bytes_back : (x : State) (a n : ℕ) (bytes other : List ℕ) (found : Option ℕ) → IsState x → length bytes ≡ n → index_of x.memory a n ≡ found → IsSome found → put (put x.memory a n bytes) a (length (unwrap_or (run_at x.memory a n) other)) (unwrap_or (run_at x.memory a n) other) ≡ x.memory
bytes_back x a n bytes other None is len e some = cc
bytes_back x a n bytes other (Some at) is len e some =
    let old : run_at x.memory a n ≡ Some (run x.memory at n) = ap (option_map (λ at. run x.memory at n)) e in
    let was : unwrap_or (run_at x.memory a n) other ≡ run x.memory at n = ap (λ o. unwrap_or o other) old in
    let new : put x.memory a n bytes ≡ with_bytes x.memory at bytes = put_at x.memory (index_of x.memory a n) at bytes e in
    ap (λ old. put (put x.memory a n bytes) a (length old) old) was
    ∙ ap (λ m. put m a (length (run x.memory at n)) (run x.memory at n)) new
    ∙ memory_back x.memory a n at bytes is.image len e

-- The entry of a change, put back.
change_back : (x : State) (c : Change) → IsState x → Fits x c → has_ended x.status ≡ false → undone (entry_of x c) (changed x c) ≡ x
unfolding undone entry_of changed
change_back x (Set r value after) is fits e =
    ap (λ registers. record x { registers = registers }) (register_back x r value is.ten)
change_back x (Go after) is fits e = refl
change_back x (Store a at size value after) is fits e =
    ap (λ memory. record x { memory = memory }) (memory_back x.memory a (size_len size) at (little_bytes (size_len size) value) is.image (length-bytes_low_first 0 (size_len size) value) fits.0.found)
change_back x (Fetch a at size value r after) is fits e =
    stored_back x _ _ (register_back x r (number_at x.memory at (size_len size)) is.ten) (memory_back x.memory a (size_len size) at (little_bytes (size_len size) value) is.image (length-bytes_low_first 0 (size_len size) value) fits.1.found)
change_back x (Call to) is fits e =
    called_back x _ _ (pop_push x.frames (frame_of x (x.pc + 1)))
    (ap (λ (d : ℕ). put (cleared x) (frame_base d) (length (entered x)) (entered x)) (pushed_depth x (x.pc + 1))
    ∙ bytes_back x (frame_base (depth x + 1)) frame_len (zeros frame_len) [] (index_of x.memory (frame_base (depth x + 1)) frame_len) is (length-zeros frame_len) refl fits.3)
change_back x Return is fits e = return_back x (innermost x) is fits refl
change_back x (Cell a from n after) is fits e =
    stored_back x _ _ (register_back x 0 0 is.ten) (bytes_back x a n (run x.memory from n) [] (index_of x.memory a n) is (length-run x.memory.bytes from n fits.2) refl fits.3.found)
change_back x (Trace word after) is fits e =
    traced_back x _ _ (register_back x 0 0 is.ten) (pop_push x.trace word)
change_back x (Stop status) is fits e = ap (λ s. record x { status = s }) (sym (runs x.status e))

-- The entry of an edit, put back.
edit_back : (x : State) (e : Edit) → IsState x → IsEditable x e → undone (edit_entry x e) (edited x e) ≡ x
unfolding undone edit_entry edited
edit_back x (edit.Register r value) is able =
    ap (λ registers. record x { registers = registers }) (register_back x r value is.ten)
edit_back x (edit.Bytes a bytes) is able =
    ap (λ memory. record x { memory = memory }) (bytes_back x a (length bytes) bytes bytes (index_of x.memory a (length bytes)) is refl refl (able_bytes x a bytes able))
edit_back x (edit.Cell map index bytes) is able =
    let a = cell_address map index (length bytes) in
    ap (λ memory. record x { memory = memory }) (bytes_back x a (length bytes) bytes bytes (index_of x.memory a (length bytes)) is refl refl (cell_present x map index (length bytes) is (able_cell x map index bytes able)))
edit_back x (edit.Pc slot) is able = refl

move_back : (x : State) (m : Move) → IsState x → IsMovable x m → undone (overwritten x m) (moved x m) ≡ x
move_back x move.Step is able = change_back x (change x) is (change_fits x is) able
move_back x (move.Edit e) is able = edit_back x e is able

-- What a move replaced, put back, gives the state before it.
pub undoing : (x : State) (m : Move) (y : State) → Leads x m y → undone (overwritten x m) y ≡ x
undoing x m y leads = ap (undone (overwritten x m)) leads.after ∙ move_back x m leads.before leads.movable
