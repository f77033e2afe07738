-- A move changes no place but those that it writes.
use Rattle.std.proofs.Common.{◌≡◌, ◌≢◌, ◌≤◌, ◌<◌, ◌⊎◌, ℕ, ◌+◌, ◌-◌, List, [], ◌∷◌, ◌++◌, length, length-append, Bool, true, false, Option, Some, None, refl, sym, ap, subst, ◌∙◌, inl, inr, arith, get_or-set_other}
use Rattle.std.specs.Prelude.{IsSome, ◌==◌, ◌&&◌, ◌||◌, nat_lt, nat_le, unwrap_or, option_map, slice_get, slice_index, slice_set, if◌then◌else◌}
use Rattle.std.specs.Option.{option_map_or}
use Rattle.std.specs.List.{list_any}
use Rattle.std.proofs.lemmas.Bool.{cases_lt}
use Rattle.std.proofs.lemmas.Bool.Decides.{nat_tests}
use Rattle.std.proofs.lemmas.Grind.{elements}
use Rattle.std.proofs.lemmas.Option.{slice_get_cases, slice_get_past, slice_get-get_or}
use Rattle.std.proofs.Math.Seq.{get_or-append_seam}
use Rattle.std.proofs.lemmas.List.{get_or_append_left, get_or_past}
use Rattle.bpf_entries.specs.Past.{Run, Frames, Same, Fewer, More, past, replaced}
use Rattle.bpf_steps.specs.declared.frame.Frame.{Frame}
use Rattle.bpf_steps.specs.declared.change.Change.{Change}
use Rattle.bpf_steps.specs.declared.change.Change.TheVariants.{Set, Go, Store, Fetch, Call, Return, Cell, Trace, Stop}
use Rattle.bpf_machine.specs.declared.edit.Edit.{Edit}
use Rattle.bpf_machine.specs.declared.edit.Edit.TheVariants as edit
use Rattle.bpf_machine.specs.declared.moves.Move.{Move}
use Rattle.bpf_machine.specs.declared.moves.Move.TheVariants as move
use Rattle.bpf_steps.specs.Calls.{frame_of, pushed, saved, with_saved, innermost, popped}
use Rattle.bpf_steps.specs.Fetched.{Fits}
use Rattle.bpf_machine.specs.Edits.{IsEditable, edited, edit_entry}
use Rattle.bpf_machine.specs.Moves.{IsMovable, moved, overwritten}
use Rattle.bpf_steps.specs.Platform.{cell_address}
use Rattle.bpf_entries.specs.Status.{has_ended}
use Rattle.bpf_origin.specs.Laws.{MovesKeepOtherPlaces}
use Rattle.bpf_steps.specs.Regions.{Image, number_at, index_of, run, run_at, put}
use Rattle.bpf_steps.specs.ByAddress.{byte_at}
use Rattle.bpf_steps.specs.State.{State, IsState, depth, register}
use Rattle.bpf_machine.specs.StepLaws.{KeepsOtherBytes}
use Rattle.bpf_steps.specs.Next.{change, changed, returned, next}
use Rattle.bpf_steps.specs.Entries.{entry_of, step_entry}
use Rattle.bpf_isa.specs.Sizes.{size_len}
use Rattle.bpf_machine.proofs.Editable.{able_bytes, able_cell}
use Rattle.bpf_machine.proofs.Cells.{cell_present}
use Rattle.bpf_machine.proofs.Fitting.{change_fits}
use Rattle.bpf_machine.proofs.StepLaws.{law_bytes, law_rest, low_kept, keeps_cell}
use Rattle.bpf_machine.proofs.Undoing.{saved_now, frame_is, innermost_there, push_pop}
use Rattle.bpf_origin.specs.declared.place.Place.{Place}
use Rattle.bpf_origin.specs.declared.place.Place.TheVariants.{Register, Word, Byte}
use Rattle.bpf_origin.specs.Places.{depth_for, own_register, value, IsPlace, same, has}
use Rattle.bpf_origin.specs.declared.place.Part.{Part}
use Rattle.bpf_origin.specs.Writes.{register_written, bytes_written, word_written, writes, inherited, came_from}

-- A place that none of the written parts has is none of each.
abbrev in_run : ℕ → Run → Bool
in_run a run = nat_le run.address a && nat_lt a (run.address + length run.bytes)

abbrev wrote_register : ℕ → Option (ℕ × ℕ) → ℕ → ℕ → Bool
wrote_register d kept e r = option_map_or (λ (w : ℕ × ℕ). same (Register (depth_for d w.0) w.0) (Register e r)) kept false

first_false : (b c : Bool) → (b || c) ≡ false → b ≡ false
first_false false c e = refl
first_false true c e = e

register_left : (d : ℕ) (kept : Option (ℕ × ℕ)) (rest : List Part) (e r : ℕ) → list_any (λ q. has q (Register e r)) (register_written d kept ++ rest) ≡ false → wrote_register d kept e r ≡ false
register_left d None rest e r other = refl
register_left d (Some w) rest e r other = first_false _ _ other

bytes_left : (d n : ℕ) (kept : Option (ℕ × ℕ)) (run : Option Run) (traces : Bool) (a : ℕ) → list_any (λ q. has q (Byte a)) (register_written d kept ++ (bytes_written run ++ word_written n traces)) ≡ false → option_map_or (in_run a) run false ≡ false
bytes_left d n None None traces a other = refl
bytes_left d n None (Some run) traces a other = first_false _ _ other
bytes_left d n (Some w) None traces a other = refl
bytes_left d n (Some w) (Some run) traces a other = first_false _ _ other

word_left : (d n : ℕ) (kept : Option (ℕ × ℕ)) (run : Option Run) (traces : Bool) (i : ℕ) → list_any (λ q. has q (Word i)) (register_written d kept ++ (bytes_written run ++ word_written n traces)) ≡ false → (traces && (n - 1 == i)) ≡ false
word_left d n kept run false i other = refl
word_left d n None None true i other = first_false _ _ other
word_left d n None (Some run) true i other = first_false _ _ other
word_left d n (Some w) None true i other = first_false _ _ other
word_left d n (Some w) (Some run) true i other = first_false _ _ other

-- A register's value among the registers and the frames.
abbrev among : List ℕ → List Frame → ℕ → ℕ → ℕ
among registers frames d r = if nat_lt r 6 then slice_index registers r else own_register (slice_get frames d) registers r

own_same : (o : Option Frame) (rs qs : List ℕ) (r : ℕ) → slice_index qs r ≡ slice_index rs r → own_register o qs r ≡ own_register o rs r
own_same None rs qs r e = e
own_same (Some f) rs qs r e = refl

among_same : (rs qs : List ℕ) (fs : List Frame) (d r : ℕ) → slice_index qs r ≡ slice_index rs r → among qs fs d r ≡ among rs fs d r
among_same rs qs fs d r e =
    ap (λ k. if nat_lt r 6 then k else own_register (slice_get fs d) qs r) e
    ∙ ap (λ k. if nat_lt r 6 then slice_index rs r else k) (own_same (slice_get fs d) rs qs r e)

-- A frame that is there keeps its function's registers, whatever the present ones are.
own_kept : (fs : List Frame) (rs qs : List ℕ) (d r : ℕ) → d < length fs → own_register (slice_get fs d) qs r ≡ own_register (slice_get fs d) rs r
own_kept fs rs qs d r low = elim ((slice_get_cases fs d).1) [
  | inl found ↦ let there : slice_get fs d ≡ Some found.0 = found.2 in ap (λ o. own_register o qs r) there ∙ sym (ap (λ o. own_register o rs r) there)
  | inr past ↦ absurd (omega (arith, low, past.0))
]

-- One register gets a number: each other place among the registers is left.
set_kept : (rs : List ℕ) (fs : List Frame) (s v d r : ℕ) → d ≤ (if nat_lt r 6 then 0 else length fs) → same (Register (depth_for (length fs) s) s) (Register d r) ≡ false → among (slice_set rs s v) fs d r ≡ among rs fs d r
set_kept rs fs s v d r within other = by_number (s == r) refl
  where
    shared : (low : Bool) → nat_lt r 6 ≡ low → s ≡ r → among (slice_set rs s v) fs d r ≡ among rs fs d r
    shared true e same = absurd (grind (arith, nat_tests))
    shared false e same = ap (λ (b : Bool). if b then slice_index (slice_set rs s v) r else own_register (slice_get fs d) (slice_set rs s v) r) e
        ∙ own_kept fs rs (slice_set rs s v) d r (grind (arith, nat_tests))
        ∙ sym (ap (λ (b : Bool). if b then slice_index rs r else own_register (slice_get fs d) rs r) e)

    by_number : (b : Bool) → (s == r) ≡ b → among (slice_set rs s v) fs d r ≡ among rs fs d r
    by_number true e = shared (nat_lt r 6) refl (grind (arith, nat_tests))
    by_number false e = let apart : r ≢ s = grind (arith, nat_tests) in among_same rs (slice_set rs s v) fs d r (get_or-set_other rs s r v 0 apart)

-- Bytes.
outside : (a : ℕ) (run : Run) → in_run a run ≡ false → (a < run.address) ⊎ (run.address + length run.bytes ≤ a)
outside a run e = elim (cases_lt a run.address) [
  | inl below ↦ inl below
  | inr from ↦ inr (grind (arith, nat_tests))
]

byte_kept : (m k : Image) (o : Option Run) (a : ℕ) → KeepsOtherBytes m o k → option_map_or (in_run a) o false ≡ false → byte_at k a ≡ byte_at m a
byte_kept m k None a keeps e = ap (λ (i : Image). byte_at i a) keeps
byte_kept m k (Some run) a keeps e = keeps a (outside a run e)

-- Words.
word_kept : (xs ys : List ℕ) (w i : ℕ) (traces : Bool) → ys ≡ (if traces then xs ++ w ∷ [] else xs) → (traces && (length ys - 1 == i)) ≡ false → slice_index ys i ≡ slice_index xs i
word_kept xs ys w i false e other = ap (λ zs. slice_index zs i) e
word_kept xs ys w i true e other =
    let count : length ys ≡ length xs + 1 = ap length e ∙ length-append xs (w ∷ []) in
    let apart : i ≢ length xs = grind (arith, nat_tests) in
    ap (λ zs. slice_index zs i) e ∙ past_or_there apart
  where
    past_or_there : i ≢ length xs → slice_index (xs ++ w ∷ []) i ≡ slice_index xs i
    past_or_there apart = elim (cases_lt i (length xs)) [
      | inl low ↦ get_or_append_left xs (w ∷ []) 0 i low
      | inr from ↦ get_or_past (xs ++ w ∷ []) i 0 (omega (arith, from, apart, length-append xs (w ∷ []))) ∙ sym (get_or_past xs i 0 from)
    ]

-- Registers: a call leaves its frame with the caller's, a return takes them from there.
frame_before : (fs : List Frame) (f : Frame) (d : ℕ) → d < length fs → slice_get (fs ++ f ∷ []) d ≡ slice_get fs d
frame_before fs f d low =
    slice_get-get_or (fs ++ f ∷ []) d f (omega (arith, low, length-append fs (f ∷ [])))
    ∙ ap Some (get_or_append_left fs (f ∷ []) f d low)
    ∙ sym (slice_get-get_or fs d f low)

frame_last : (fs : List Frame) (f : Frame) → slice_get (fs ++ f ∷ []) (length fs) ≡ Some f
frame_last fs f =
    slice_get-get_or (fs ++ f ∷ []) (length fs) f (omega (arith, length-append fs (f ∷ [])))
    ∙ ap Some (get_or-append_seam fs f [] f)

saved_read : (x : State) (r : ℕ) → 6 ≤ r → r < 10 → slice_index (saved x) (r - 6) ≡ slice_index x.registers r
saved_read x r from low = grind (arith, elements)

saved_back : (rs ns : List ℕ) (r : ℕ) → length rs ≡ 10 → length ns ≡ 4 → 6 ≤ r → r < 10 → slice_index (with_saved rs ns) r ≡ slice_index ns (r - 6)
saved_back rs ns r ten four from low =
    let now = saved_now rs ns ten four in
    let at : (k : ℕ) → r ≡ k → slice_index (with_saved rs ns) k ≡ slice_index ns (k - 6) → slice_index (with_saved rs ns) r ≡ slice_index ns (r - 6) = λ k e same. subst (λ n. slice_index (with_saved rs ns) n ≡ slice_index ns (n - 6)) (sym e) same in
    elim (cases_lt r 7) [
      | inl a ↦ at 6 (omega (arith, from, a)) (ap (λ xs. slice_index xs 0) now)
      | inr b ↦ elim (cases_lt r 8) [
        | inl a ↦ at 7 (omega (arith, b, a)) (ap (λ xs. slice_index xs 1) now)
        | inr c ↦ elim (cases_lt r 9) [
          | inl a ↦ at 8 (omega (arith, c, a)) (ap (λ xs. slice_index xs 2) now)
          | inr d ↦ at 9 (omega (arith, d, low)) (ap (λ xs. slice_index xs 3) now)
        ]
      ]
    ]

call_kept : (x : State) (to e r : ℕ) → r < 10 → e ≤ (if nat_lt r 6 then 0 else length (pushed x to)) → among x.registers (pushed x to) e r ≡ value x (inherited Fewer (length (pushed x to)) (Register e r))
call_kept x to e r low within = split (e == length (pushed x to)) refl (nat_lt r 6) refl
  where
    count : length (pushed x to) ≡ length x.frames + 1
    count = length-append x.frames (frame_of x to ∷ [])

    within_own : nat_lt r 6 ≡ false → e ≤ length (pushed x to)
    within_own f = subst (λ (b : Bool). e ≤ (if b then 0 else length (pushed x to))) f within

    from_six : nat_lt r 6 ≡ false → 6 ≤ r
    from_six f = grind (arith, nat_tests)

    shared : (fs gs : List Frame) (d g : ℕ) → nat_lt r 6 ≡ true → among x.registers fs d r ≡ among x.registers gs g r
    shared fs gs d g f =
        ap (λ (b : Bool). if b then slice_index x.registers r else own_register (slice_get fs d) x.registers r) f
        ∙ sym (ap (λ (b : Bool). if b then slice_index x.registers r else own_register (slice_get gs g) x.registers r) f)

    own : (fs : List Frame) (d : ℕ) → nat_lt r 6 ≡ false → among x.registers fs d r ≡ own_register (slice_get fs d) x.registers r
    own fs d f = ap (λ (b : Bool). if b then slice_index x.registers r else own_register (slice_get fs d) x.registers r) f

    unpushed : (fs : List Frame) (d : ℕ) → length fs ≤ d → own_register (slice_get fs d) x.registers r ≡ slice_index x.registers r
    unpushed fs d past = ap (λ o. own_register o x.registers r) (slice_get_past fs d past)

    split : (b : Bool) → (e == length (pushed x to)) ≡ b → (c : Bool) → nat_lt r 6 ≡ c → among x.registers (pushed x to) e r ≡ value x (if b then Register (length (pushed x to) - 1) r else Register e r)
    split true at true f = shared (pushed x to) x.frames e (length (pushed x to) - 1) f
    split false at true f = shared (pushed x to) x.frames e e f
    split true at false f =
        let here : e ≡ length (pushed x to) = grind (arith, nat_tests) in
        own (pushed x to) e f ∙ unpushed (pushed x to) e (omega (arith, here))
        ∙ sym (own x.frames (length (pushed x to) - 1) f ∙ unpushed x.frames (length (pushed x to) - 1) (omega (arith, count)))
    split false at false f =
        let apart : e ≢ length (pushed x to) = grind (arith, nat_tests) in
        own (pushed x to) e f
        ∙ elim (cases_lt e (length x.frames)) [
          | inl inside ↦ ap (λ o. own_register o x.registers r) (frame_before x.frames (frame_of x to) e inside)
          | inr from ↦
              let last : e ≡ length x.frames = omega (arith, from, apart, count, within_own f) in
              ap (λ o. own_register o x.registers r) (ap (slice_get (pushed x to)) last ∙ frame_last x.frames (frame_of x to))
              ∙ saved_read x r (from_six f) low
              ∙ sym (unpushed x.frames e from)
        ]
        ∙ sym (own x.frames e f)

return_kept : (x : State) (f : Frame) (e r : ℕ) → IsState x → length f.saved ≡ 4 → popped x ++ f ∷ [] ≡ x.frames → r < 10 → e ≤ (if nat_lt r 6 then 0 else length (popped x)) → among (with_saved x.registers f.saved) (popped x) e r ≡ among x.registers x.frames e r
return_kept x f e r is four whole low within = split (nat_lt r 6) refl
  where
    now : List ℕ
    now = with_saved x.registers f.saved

    split : (c : Bool) → nat_lt r 6 ≡ c → among (with_saved x.registers f.saved) (popped x) e r ≡ among x.registers x.frames e r
    split true g =
        ap (λ (b : Bool). if b then slice_index (with_saved x.registers f.saved) r else own_register (slice_get (popped x) e) (with_saved x.registers f.saved) r) g
        ∙ low_kept x.registers f.saved r (grind (arith, nat_tests))
        ∙ sym (ap (λ (b : Bool). if b then slice_index x.registers r else own_register (slice_get x.frames e) x.registers r) g)
    split false g =
        let bound : e ≤ length (popped x) = subst (λ (b : Bool). e ≤ (if b then 0 else length (popped x))) g within in
        ap (λ (b : Bool). if b then slice_index (with_saved x.registers f.saved) r else own_register (slice_get (popped x) e) (with_saved x.registers f.saved) r) g
        ∙ elim (cases_lt e (length (popped x))) [
          | inl inside ↦
              own_kept (popped x) x.registers (with_saved x.registers f.saved) e r inside
              ∙ ap (λ o. own_register o x.registers r) (sym (frame_before (popped x) f e inside) ∙ ap (λ fs. slice_get fs e) whole)
          | inr from ↦
              let last : e ≡ length (popped x) = omega (arith, from, bound) in
              ap (λ o. own_register o (with_saved x.registers f.saved) r) (slice_get_past (popped x) e from)
              ∙ saved_back x.registers f.saved r is.ten four (grind (arith, nat_tests)) low
              ∙ sym (ap (λ o. own_register o x.registers r) (ap (λ fs. slice_get fs e) (sym whole) ∙ ap (slice_get (popped x ++ f ∷ [])) last ∙ frame_last (popped x) f))
        ]
        ∙ sym (ap (λ (b : Bool). if b then slice_index x.registers r else own_register (slice_get x.frames e) x.registers r) g)

step_kept : (x : State) (c : Change) → IsState x → Fits x c → (d r : ℕ) → IsPlace (changed x c) (Register d r) → wrote_register (depth (changed x c)) (past (depth (changed x c)) (entry_of x c)).register d r ≡ false → value (changed x c) (Register d r) ≡ value x (came_from (changed x c) (entry_of x c) (Register d r))
unfolding changed entry_of
step_kept x (Set s v after) is fits d r there other = set_kept x.registers x.frames s v d r there.1 other
step_kept x (Go after) is fits d r there other = refl
step_kept x (Store a at size v after) is fits d r there other = refl
step_kept x (Fetch a at size v s after) is fits d r there other =
    set_kept x.registers x.frames s (number_at x.memory at (size_len size)) d r there.1 other
step_kept x (Call to) is fits d r there other = call_kept x (x.pc + 1) d r there.0 there.1
step_kept x Return is fits d r there other = by_frame (innermost x) refl there
  where
    by_frame : (found : Option Frame) → innermost x ≡ found → IsPlace (option_map_or (returned x) found x) (Register d r) → value (option_map_or (returned x) found x) (Register d r) ≡ value x (Register d r)
    by_frame None e there = absurd (innermost_there x.frames fits e)
    by_frame (Some f) e there =
        return_kept x f d r is (frame_is x.program x.frames (depth x - 1) f is.framed e).four (push_pop x.frames f fits e) there.0 there.1
step_kept x (Cell a from n after) is fits d r there other = set_kept x.registers x.frames 0 0 d r there.1 other
step_kept x (Trace word after) is fits d r there other = set_kept x.registers x.frames 0 0 d r there.1 other
step_kept x (Stop status) is fits d r there other = refl

-- A step.
step_places : (x : State) → IsState x → has_ended x.status ≡ false → (p : Place) → IsPlace (next x) p → writes (next x) (step_entry x) p ≡ false → value (next x) p ≡ value x (came_from (next x) (step_entry x) p)
step_places x is running (Register d r) there other =
    step_kept x (change x) is (change_fits x is) d r there (register_left (depth (next x)) (past (depth (next x)) (step_entry x)).register _ d r other)
step_places x is running (Word i) there other =
    word_kept x.trace (next x).trace (register x 1) i (past (depth (next x)) (step_entry x)).traces (law_rest x is running).2
    (word_left (depth (next x)) (length (next x).trace) (past (depth (next x)) (step_entry x)).register (past (depth (next x)) (step_entry x)).run (past (depth (next x)) (step_entry x)).traces i other)
    ∙ sym (stays (past (depth (next x)) (step_entry x)).frames (depth (next x)))
  where
    stays : (f : Frames) (d : ℕ) → value x (inherited f d (Word i)) ≡ value x (Word i)
    stays Same d = refl
    stays Fewer d = refl
    stays (More saved) d = refl
step_places x is running (Byte a) there other =
    ap (λ o. unwrap_or o 0) (byte_kept x.memory (next x).memory (replaced (depth (next x)) (step_entry x)) a (law_bytes x is running)
    (bytes_left (depth (next x)) (length (next x).trace) (past (depth (next x)) (step_entry x)).register (past (depth (next x)) (step_entry x)).run (past (depth (next x)) (step_entry x)).traces a other))
    ∙ sym (stays (past (depth (next x)) (step_entry x)).frames (depth (next x)))
  where
    stays : (f : Frames) (d : ℕ) → value x (inherited f d (Byte a)) ≡ value x (Byte a)
    stays Same d = refl
    stays Fewer d = refl
    stays (More saved) d = refl

-- An edit.
bytes_edited : (x : State) (a : ℕ) (bytes : List ℕ) (b : ℕ) → IsState x → IsSome (index_of x.memory a (length bytes)) → in_run b (record { address = a; bytes = unwrap_or (run_at x.memory a (length bytes)) bytes }) ≡ false → byte_at (put x.memory a (length bytes) bytes) b ≡ byte_at x.memory b
bytes_edited x a bytes b is some other =
    by_index (index_of x.memory a (length bytes)) refl
  where
    by_index : (found : Option ℕ) → index_of x.memory a (length bytes) ≡ found → byte_at (put x.memory a (length bytes) bytes) b ≡ byte_at x.memory b
    by_index None e = absurd (none_is_not (index_of x.memory a (length bytes)) e some)
      where
        none_is_not : (o : Option ℕ) → o ≡ None → IsSome o → ⊥
        none_is_not None e some = cc
        none_is_not (Some k) e some = cc
    by_index (Some at) e =
        let both : (other : List ℕ) → unwrap_or (run_at x.memory a (length bytes)) other ≡ run x.memory at (length bytes) = λ other. ap (λ o. unwrap_or (option_map (λ k. run x.memory k (length bytes)) o) other) e in
        keeps_cell x.memory is.image a (length bytes) bytes (index_of x.memory a (length bytes)) refl refl some b
        (subst (λ (old : List ℕ). (b < a) ⊎ (a + length old ≤ b)) (both bytes ∙ sym (both [])) (outside b (record { address = a; bytes = unwrap_or (run_at x.memory a (length bytes)) bytes }) other))

pub edit_places : (x : State) (e : Edit) → IsState x → IsEditable x e → (p : Place) → IsPlace (edited x e) p → writes (edited x e) (edit_entry x e) p ≡ false → value (edited x e) p ≡ value x p
unfolding edited edit_entry
edit_places x (edit.Register s v) is able (Register d r) there other = set_kept x.registers x.frames s v d r there.1 (first_false _ _ other)
edit_places x (edit.Register s v) is able (Word i) there other = refl
edit_places x (edit.Register s v) is able (Byte a) there other = refl
edit_places x (edit.Bytes a bytes) is able (Register d r) there other = refl
edit_places x (edit.Bytes a bytes) is able (Word i) there other = refl
edit_places x (edit.Bytes a bytes) is able (Byte b) there other =
    ap (λ o. unwrap_or o 0) (bytes_edited x a bytes b is (able_bytes x a bytes able) (first_false _ _ other))
edit_places x (edit.Cell map index bytes) is able (Register d r) there other = refl
edit_places x (edit.Cell map index bytes) is able (Word i) there other = refl
edit_places x (edit.Cell map index bytes) is able (Byte b) there other =
    ap (λ o. unwrap_or o 0) (bytes_edited x (cell_address map index (length bytes)) bytes b is (cell_present x map index (length bytes) is (able_cell x map index bytes able)) (first_false _ _ other))
edit_places x (edit.Pc slot) is able (Register d r) there other = refl
edit_places x (edit.Pc slot) is able (Word i) there other = refl
edit_places x (edit.Pc slot) is able (Byte b) there other = refl

edit_came : (x : State) (e : Edit) (p : Place) → came_from (edited x e) (edit_entry x e) p ≡ p
unfolding edited edit_entry
edit_came x (edit.Register s v) p = refl
edit_came x (edit.Bytes a bytes) p = refl
edit_came x (edit.Cell map index bytes) p = refl
edit_came x (edit.Pc slot) p = refl

move_places : (x : State) (m : Move) → IsState x → IsMovable x m → (p : Place) → IsPlace (moved x m) p → writes (moved x m) (overwritten x m) p ≡ false → value (moved x m) p ≡ value x (came_from (moved x m) (overwritten x m) p)
move_places x move.Step is able p there other = step_places x is able p there other
move_places x (move.Edit e) is able p there other = edit_places x e is able p there other ∙ ap (value x) (sym (edit_came x e p))

pub law_places : MovesKeepOtherPlaces
law_places x m y leads p there other =
    ap (λ (z : State). value z p) leads.after
    ∙ move_places x m leads.before leads.movable p (subst (λ (z : State). IsPlace z p) leads.after there) (subst (λ (z : State). writes z (overwritten x m) p ≡ false) leads.after other)
    ∙ sym (ap (λ (z : State). value x (came_from z (overwritten x m) p)) leads.after)
