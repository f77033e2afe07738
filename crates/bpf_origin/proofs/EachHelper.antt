-- The law that each read matters, of helpers.
use Rattle.std.proofs.Common.{◌≡◌, ◌≢◌, ◌≤◌, ◌<◌, ℕ, zero, suc, ◌+◌, ◌-◌, ◌*◌, ◌^◌, List, [], ◌∷◌, ◌++◌, length, length-append, flat_map, Bool, true, false, Option, Some, None, refl, sym, ap, subst, ◌∙◌, inl, inr, arith}
use Rattle.std.specs.Prelude.{All, IsSome, ◌==◌, ◌&&◌, ◌||◌, nat_lt, nat_le, unwrap_or, slice_get, if◌then◌else◌}
use Rattle.std.specs.Option.{option_map_or}
use Rattle.std.proofs.lemmas.Bool.{cases_lt}
use Rattle.std.proofs.lemmas.Bool.Decides.{nat_tests}
use Rattle.std.proofs.lemmas.Option.{slice_get_within}
use Rattle.bpf_isa.specs.Helpers.{helper_of}
use Rattle.bpf_isa.specs.declared.helpers.Helper.{Helper}
use Rattle.bpf_isa.specs.declared.helpers.Helper.TheVariants as named
use Rattle.bpf_isa.specs.declared.maps.MapShape.{MapShape}
use Rattle.bpf_isa.specs.Maps.{IsShape}
use Rattle.bpf_isa.specs.Programs.{Checked, insn_at}
use Rattle.bpf_isa.specs.declared.instruction.Insn.{Insn}
use Rattle.bpf_isa.specs.declared.instruction.Insn.TheVariants as insn
use Rattle.bpf_entries.specs.Status.{has_ended}
use Rattle.bpf_entries.specs.declared.status.Fault.TheVariants.{Access, Token}
use Rattle.bpf_entries.specs.declared.status.Status.TheVariants.{Faulted}
use Rattle.bpf_steps.specs.declared.change.Change.{Change}
use Rattle.bpf_steps.specs.declared.change.Change.TheVariants.{Set, Cell, Trace, Stop}
use Rattle.bpf_steps.specs.Access.{access, accessible, fault}
use Rattle.bpf_steps.specs.ByAddress.{byte_at}
use Rattle.bpf_machine.specs.Edits.{with_run}
use Rattle.bpf_steps.specs.Entries.{entry_of}
use Rattle.bpf_steps.specs.Helpers.{map_shape, with_key, update_of, update, helper, answer}
use Rattle.bpf_steps.specs.Next.{change_by, change, changed}
use Rattle.bpf_steps.specs.Platform.{frame_base, map_address, cell_address, token_base, trace_limit}
use Rattle.bpf_steps.specs.Regions.{Image, IsImage, index_of, run, number_at, put, with_bytes}
use Rattle.bpf_steps.specs.State.{State, IsState, register, depth}
use Rattle.bpf_steps.proofs.ByAddress.{byte_within, fits_within, law_runs, law_stores, law_accessible, past_frames, length-run, run_reads}
use Rattle.bpf_machine.proofs.Cells.{law_cells}
use Rattle.bpf_steps.proofs.Spans.{first_shape, later_shapes}
use Rattle.bpf_machine.proofs.StepLaws.{change_at}
use Rattle.bpf_origin.specs.declared.place.Place.{Place}
use Rattle.bpf_origin.specs.declared.place.Place.TheVariants.{Register, Byte}
use Rattle.bpf_origin.specs.declared.place.Part.TheVariants as part
use Rattle.bpf_origin.specs.Laws.{WroteAlike}
use Rattle.bpf_origin.specs.Matters.{Matters, places}
use Rattle.bpf_origin.specs.Places.{bytes_from, places_of}
use Rattle.bpf_origin.specs.Wanted.{is_in}
use Rattle.bpf_origin.specs.Reads.{of_value, of_helper, helper_bases, reads_by, bases_by}
use Rattle.bpf_origin.proofs.Mattering.{with_register, register_here, register_else, one_small, put_found, Ready, ready, ready_register, ready_run, ready_cleared, differ_register, differ_byte, Holds, number_held, cleared_first, cleared_holds, byte_found, set_holds}
use Rattle.bpf_origin.proofs.Writing.{some_index, run_count}
use Rattle.bpf_origin.proofs.Unlike.{trace_alike, cell_unlike, cell_alike}
use Rattle.bpf_origin.proofs.EachRead.{access_goes, access_stops, pick_one, pick_two, told_in, byte_told, count_bytes, no_register, by_changes, by_sets, by_stop}

-- Numbers that differ.
answers_apart : ◌≡◌ {A = ℕ} (2 ^ 64 - 22) (2 ^ 64 - 17) → ⊥
answers_apart e = absurd (omega (arith, e))

one_two : ◌≡◌ {A = ℕ} 1 2 → ⊥
one_two e = cc

one_three : ◌≡◌ {A = ℕ} 1 3 → ⊥
one_three e = cc

one_four : ◌≡◌ {A = ℕ} 1 4 → ⊥
one_four e = cc

two_three : ◌≡◌ {A = ℕ} 2 3 → ⊥
two_three e = cc

two_four : ◌≡◌ {A = ℕ} 2 4 → ⊥
two_four e = cc

three_four : ◌≡◌ {A = ℕ} 3 4 → ⊥
three_four e = cc

four_three : ◌≡◌ {A = ℕ} 4 3 → ⊥
four_three e = cc

zero_one : ◌≡◌ {A = ℕ} 0 1 → ⊥
zero_one e = cc

-- The places behind a key.
past_key : (a : ℕ) (rest : List Place) (n : ℕ) → slice_get (Register 0 1 ∷ (bytes_from a 4 ++ rest)) (suc (suc (suc (suc (suc n))))) ≡ slice_get rest n
unfolding bytes_from
past_key a rest n = refl

counted_key : (a : ℕ) (rest : List Place) → length (bytes_from a 4 ++ rest) ≡ 4 + length rest
counted_key a rest = length-append (bytes_from a 4) rest ∙ omega (arith, count_bytes a 4)

-- What a call does, by its helper.
call_is : (s : State) (number : ℕ) (h : Helper) → helper_of number ≡ Some h → change_by s (insn.CallHelper number) ≡ helper s h
unfolding change_by
call_is s number h e = ap (λ o. option_map_or (helper s) o (Stop s.status)) e

reads_of : (s : State) (number : ℕ) (h : Helper) → helper_of number ≡ Some h → reads_by s (insn.CallHelper number) ≡ of_helper s (change s) h
reads_of s number h e = ap (λ o. option_map_or (of_helper s (change s)) o []) e

bases_of : (s : State) (number : ℕ) (h : Helper) → helper_of number ≡ Some h → bases_by s (insn.CallHelper number) ≡ helper_bases s h
bases_of s number h e = ap (λ o. option_map_or (helper_bases s) o []) e

-- The first map.
first_map : (maps : List MapShape) → maps ≢ [] → (shape : MapShape) × (slice_get maps 0 ≡ Some shape)
first_map [] some = absurd (some refl)
first_map (shape ∷ maps) some = (shape, refl)

shape_of : (maps : List MapShape) (q : ℕ) (shape : MapShape) → All IsShape maps → slice_get maps q ≡ Some shape → IsShape shape
shape_of [] q shape all e = cc
shape_of (s ∷ maps) zero shape all e = let same : s ≡ shape = cc in subst IsShape same (first_shape s maps all)
shape_of (s ∷ maps) (suc q) shape all e = shape_of maps q shape (later_shapes s maps all) e

-- What lookup does with a key.
abbrev lookup_key : State → ℕ → MapShape → ℕ → Change
lookup_key s i shape key = answer s (if nat_lt key shape.entries then cell_address i key shape.value_size else 0)

-- The map that a token names.
map_at : (s : State) (q : ℕ) → map_shape s (token_base + q) ≡ slice_get s.program.maps q
map_at s q =
    ap (λ b. if b then None else slice_get s.program.maps (token_base + q - token_base)) (past q)
    ∙ ap (slice_get s.program.maps) (omega arith)
  where
    past : (q : ℕ) → nat_lt (token_base + q) token_base ≡ false
    past q = grind (arith, nat_tests)

-- What a call does with a key of map q.
key_is : (s : State) (f : ℕ → MapShape → ℕ → Change) (shape : MapShape) (q j v : ℕ) → j < 4 → IsState s → register s 1 ≡ token_base + q → register s 2 ≡ frame_base 0 → Holds s.memory j v → slice_get s.program.maps q ≡ Some shape → with_key s f ≡ f q shape (v * 256 ^ j)
key_is s f shape q j v low is token key held found =
    let goes = access_goes s 4 (λ at. f q shape (number_at s.memory at 4)) is (omega arith) (omega arith) in
    let map : token_base + q - token_base ≡ q = omega arith in
    ap (λ n. option_map_or (λ m. access s (register s 2) 4 (λ at. f (n - token_base) m (number_at s.memory at 4))) (map_shape s n) (Stop (Faulted (Token n)))) token
    ∙ ap (λ o. option_map_or (λ m. access s (register s 2) 4 (λ at. f (token_base + q - token_base) m (number_at s.memory at 4))) o (Stop (Faulted (Token (token_base + q))))) (map_at s q ∙ found)
    ∙ ap (λ a. access s a 4 (λ at. f (token_base + q - token_base) shape (number_at s.memory at 4))) key
    ∙ ap (λ k. access s (frame_base 0) 4 (λ at. f k shape (number_at s.memory at 4))) map
    ∙ goes.2
    ∙ ap (f q shape) (number_held s.memory j v 4 goes.0 is.image held low (omega arith) goes.1)

no_token : (s : State) (f : ℕ → MapShape → ℕ → Change) → register s 1 ≡ 0 → with_key s f ≡ Stop (Faulted (Token 0))
no_token s f token =
    ap (λ n. option_map_or (λ m. access s (register s 2) 4 (λ at. f (n - token_base) m (number_at s.memory at 4))) (map_shape s n) (Stop (Faulted (Token n)))) token

no_key : (s : State) (f : ℕ → MapShape → ℕ → Change) (shape : MapShape) (q : ℕ) → register s 1 ≡ token_base + q → register s 2 ≡ 0 → slice_get s.program.maps q ≡ Some shape → with_key s f ≡ Stop (Faulted (Access 0))
no_key s f shape q token key found =
    ap (λ n. option_map_or (λ m. access s (register s 2) 4 (λ at. f (n - token_base) m (number_at s.memory at 4))) (map_shape s n) (Stop (Faulted (Token n)))) token
    ∙ ap (λ o. option_map_or (λ m. access s (register s 2) 4 (λ at. f (token_base + q - token_base) m (number_at s.memory at 4))) o (Stop (Faulted (Token (token_base + q))))) (map_at s q ∙ found)
    ∙ ap (λ a. access s a 4 (λ at. f (token_base + q - token_base) shape (number_at s.memory at 4))) key
    ∙ access_stops s 4 _

-- A state at a call with a token in r1, a key at r2, and two numbers in r3 and r4.
record Called (x : State) (i : Insn) (q value flags : ℕ) : Type 0 where
  s : State
  t : Ready x i s
  token : register s 1 ≡ token_base + q
  key : register s 2 ≡ frame_base 0
  third : register s 3 ≡ value
  fourth : register s 4 ≡ flags
  held : (j : ℕ) → j < 8 → Holds s.memory j 0

called_on : (x : State) (i : Insn) (q value flags : ℕ) (m : State) → q < 2 ^ 32 → Ready x i m → ((j : ℕ) → j < 8 → Holds m.memory j 0) → value < 2 ^ 64 → flags < 2 ^ 64 → Called x i q value flags
called_on x i q value flags m map k held small few =
    let a = with_register m 1 (token_base + q) in
    let ta = ready_register x i m 1 (token_base + q) (omega (arith, map)) k in
    let b = with_register a 2 (frame_base 0) in
    let tb = ready_register x i a 2 (frame_base 0) (omega arith) ta in
    let c = with_register b 3 value in
    let tc = ready_register x i b 3 value small tb in
    let d = with_register c 4 flags in
    record {
      s = d;
      t = ready_register x i c 4 flags few tc;
      token = register_else c 4 flags 1 one_four ∙ register_else b 3 value 1 one_three ∙ register_else a 2 (frame_base 0) 1 one_two ∙ register_here m 1 (token_base + q) k.is (omega arith);
      key = register_else c 4 flags 2 two_four ∙ register_else b 3 value 2 two_three ∙ register_here a 2 (frame_base 0) ta.is (omega arith);
      third = register_else c 4 flags 3 three_four ∙ register_here b 3 value tb.is (omega arith);
      fourth = register_here c 4 flags tc.is (omega arith);
      held = held;
    }

called : (x : State) (i : Insn) (q value flags : ℕ) → q < 2 ^ 32 → Ready x i x → value < 2 ^ 64 → flags < 2 ^ 64 → Called x i q value flags
called x i q value flags map t small few =
    called_on x i q value flags (cleared_first x) map (ready_cleared x i x t) (λ j low. cleared_holds x j low t.is) small few

-- A cell that is copied to itself, the first of map q.
copied : (q : ℕ) (m : Image) (at n k j : ℕ) → IsImage m → j < n → index_of m (map_address q) n ≡ Some at → k ≡ map_address q → byte_at (put m k n (run m at n)) (map_address q + j) ≡ byte_at m (map_address q + j)
copied q m at n k j is low found e =
    let count : length (run m at n) ≡ n = length-run m.bytes at n (fits_within m is (map_address q) n at found) in
    ap (λ c. byte_at (put m c n (run m at n)) (map_address q + j)) e
    ∙ ap (λ o. byte_at (option_map_or (λ l. with_bytes m l (run m at n)) o m) (map_address q + j)) found
    ∙ (law_stores m is (map_address q) at (run m at n) (ap (index_of m (map_address q)) count ∙ found)).0 j (omega (arith, low, count))
    ∙ ap Some (run_reads m.bytes at n j low)
    ∙ sym (byte_within m is (map_address q) n at j found low)

index_some : (o : Option ℕ) (at : ℕ) → o ≡ Some at → IsSome o
index_some None at e = cc
index_some (Some k) at e = refl

byte_among : (q k n j : ℕ) → k ≡ map_address q → j < n → (nat_le k (map_address q + j) && nat_lt (map_address q + j) (k + n)) ≡ true
byte_among q k n j e low = grind (arith, nat_tests)

copy_unlike : (q : ℕ) (a b : State) (at to n k j : ℕ) (m l : ℕ) → IsState a → IsState b → j < n → index_of a.memory (map_address q) n ≡ Some at → index_of b.memory (map_address q) n ≡ Some to → k ≡ map_address q → byte_at a.memory (map_address q + j) ≡ Some 0 → byte_at b.memory (map_address q + j) ≡ Some 1 → WroteAlike (changed a (Cell k at n m)) (entry_of a (Cell k at n m)) (changed b (Cell k to n l)) (entry_of b (Cell k to n l)) → ⊥
unfolding changed entry_of
copy_unlike q a b at to n k j m l ha hb low found also e held other alike =
    let count = run_count a.memory k n [] ha.image (index_some (index_of a.memory k n) at (ap (λ c. index_of a.memory c n) e ∙ found)) in
    zero_one
    (sym (ap (λ o. unwrap_or o 0) (copied q a.memory at n k j ha.image low found e ∙ held))
    ∙ alike.values (Byte (map_address q + j)) (ap (λ c. c || false) (byte_among q k _ j e (omega (arith, low, count))))
    ∙ ap (λ o. unwrap_or o 0) (copied q b.memory to n k j hb.image low also e ∙ other))

-- A byte of map q, written.
cell_byte : (q : ℕ) (s : State) (j at v : ℕ) → IsState s → index_of s.memory (map_address q + j) 1 ≡ Some at → byte_at (with_run s (map_address q + j) (v ∷ [])).memory (map_address q + j) ≡ Some v
cell_byte q s j at v is found =
    let same : map_address q + j + 0 ≡ map_address q + j = omega arith in
    ap (λ (m : Image). byte_at m (map_address q + j)) (put_found s.memory (map_address q + j) at (v ∷ []) found)
    ∙ ap (byte_at (with_bytes s.memory at (v ∷ []))) (sym same)
    ∙ (law_stores s.memory is.image (map_address q + j) at (v ∷ []) found).0 0 (omega arith)

held_past : (q : ℕ) (s : State) (j at v : ℕ) → IsState s → index_of s.memory (map_address q + j) 1 ≡ Some at → Holds s.memory 0 0 → Holds (with_run s (map_address q + j) (v ∷ [])).memory 0 0
held_past q s j at v is found h =
    let law = (law_stores s.memory is.image (map_address q + j) at (v ∷ []) found).1 in
    subst (λ (k : Image). Holds k 0 0) (sym (put_found s.memory (map_address q + j) at (v ∷ []) found)) (record {
      here = law (frame_base 0) (inl (omega arith)) ∙ h.here;
      rest = λ k low other. law (frame_base 0 + k) (inl (omega (arith, low))) ∙ h.rest k low other;
    })

-- What lookup answers of a key.
abbrev found_at : ℕ → MapShape → ℕ → ℕ
found_at q shape key = if nat_lt key shape.entries then cell_address q key shape.value_size else 0

found_apart : (q : ℕ) (shape : MapShape) (k : ℕ) → IsShape shape → map_address q ≢ map_address q + shape.value_size * k → found_at q shape 0 ≢ found_at q shape k
found_apart q shape k is apart = by_test (nat_lt 0 shape.entries) (nat_lt k shape.entries) (there shape.entries is.filled.1)
  where
    there : (n : ℕ) → 0 < n → nat_lt 0 n ≡ true
    there n some = grind (arith, nat_tests)

    by_test : (b c : Bool) → b ≡ true → (if b then cell_address q 0 shape.value_size else 0) ≢ (if c then cell_address q k shape.value_size else 0)
    by_test false c e = cc
    by_test true true e = λ f. let same : map_address q ≡ map_address q + shape.value_size * k = omega (arith, f) in apart same
    by_test true false e = λ f. absurd (omega (arith, f))

-- Another key is another cell.
key_apart : (q n j : ℕ) → 0 < n → j < 4 → map_address q ≢ map_address q + n * (1 * 256 ^ j)
key_apart q n zero some low = λ e. absurd (omega (arith, some, e))
key_apart q n (suc zero) some low = λ e. absurd (omega (arith, some, e))
key_apart q n (suc (suc zero)) some low = λ e. absurd (omega (arith, some, e))
key_apart q n (suc (suc (suc zero))) some low = λ e. absurd (omega (arith, some, e))
key_apart q n (suc (suc (suc (suc j)))) some low = absurd (omega (arith, low))

module _ (x : State) (hx : IsState x) (on : has_ended x.status ≡ false) (number : ℕ) (here : insn_at x.program x.pc ≡ Some (insn.CallHelper number)) where
  abbrev calls : Insn
  calls = insn.CallHelper number

  at : Ready x calls x
  at = ready x calls hx on here

  -- Trace: the word.
  trace_is : (s : State) (v : ℕ) → helper_of number ≡ Some named.Trace → length s.trace < trace_limit → register s 1 ≡ v → change_by s calls ≡ Trace v (s.pc + 1)
  trace_is s v e room first =
      call_is s number named.Trace e
      ∙ ap (λ b. if b then Trace (register s 1) (s.pc + 1) else answer s (2 ^ 64 - 1)) (has_room (length s.trace) room)
      ∙ ap (λ n. Trace n (s.pc + 1)) first
    where
      has_room : (n : ℕ) → n < trace_limit → nat_lt n trace_limit ≡ true
      has_room n room = grind (arith, nat_tests)

  pub trace_word : helper_of number ≡ Some named.Trace → length x.trace < trace_limit → Matters reads_by bases_by calls 0 x
  trace_word e room =
      let s = with_register x 1 0 in
      let t = ready_register x calls x 1 0 (omega arith) at in
      let b = with_register s 1 1 in
      let u = ready_register x calls s 1 1 (omega arith) t in
      let differ = differ_register x calls reads_by bases_by 0 s 1 1 (omega arith) (omega arith) t (told_in (reads_by s calls) (part.Register 0 1 ∷ []) 0 0 1 (reads_of s number named.Trace e) refl) (ap (λ ps. is_in (Register 0 1) (flat_map places_of ps)) (bases_of s number named.Trace e)) in
      by_changes x calls reads_by bases_by 0 s b differ t u (Trace 0 (s.pc + 1)) (Trace 1 (b.pc + 1))
      (trace_is s 0 e room (register_here x 1 0 hx (omega arith))) (trace_is b 1 e room (register_here s 1 1 t.is (omega arith)))
      (λ alike. zero_one (trace_alike s b 0 1 (s.pc + 1) (b.pc + 1) refl alike))

  module _ (q : ℕ) (shape : MapShape) (is : IsShape shape) (map : q < 2 ^ 32) (small : map_address q < 2 ^ 63) (found : slice_get x.program.maps q ≡ Some shape) where
    there : (s : State) → Ready x calls s → slice_get s.program.maps q ≡ Some shape
    there s t = ap (λ (p : Checked). slice_get p.maps q) (sym t.alike.program) ∙ found

    -- Lookup: the token, the key, and its address.
    lookup_token : helper_of number ≡ Some named.Lookup → Matters reads_by bases_by calls 0 x
    lookup_token e =
        let p = called x calls q 0 0 map at (omega arith) (omega arith) in
        let b = with_register p.s 1 0 in
        let u = ready_register x calls p.s 1 0 (omega arith) p.t in
        let differ = differ_register x calls reads_by bases_by 0 p.s 1 0 (omega arith) (omega arith) p.t (told_in (reads_by p.s calls) (part.Register 0 1 ∷ (part.Bytes (register p.s 2) 4 ∷ [])) 0 0 1 (reads_of p.s number named.Lookup e) refl) (ap (λ ps. is_in (Register 0 1) (flat_map places_of ps)) (bases_of p.s number named.Lookup e)) in
        by_stop x calls reads_by bases_by 0 p.s b differ p.t u (Set 0 (found_at q shape (0 * 256 ^ 0)) (p.s.pc + 1)) (Faulted (Token 0)) tt
        (call_is p.s number named.Lookup e ∙ key_is p.s (lookup_key p.s) shape q 0 0 (omega arith) p.t.is p.token p.key (p.held 0 (omega arith)) (there p.s p.t))
        (call_is b number named.Lookup e ∙ no_token b (lookup_key b) (register_here p.s 1 0 p.t.is (omega arith)))

    lookup_bytes : helper_of number ≡ Some named.Lookup → (j : ℕ) → j < 4 → Matters reads_by bases_by calls (suc j) x
    lookup_bytes e j low =
        let few : j < 8 = omega (arith, low) in
        let p = called x calls q 0 0 map at (omega arith) (omega arith) in
        let run = byte_found p.s j p.t.is few in
        let b = with_run p.s (frame_base 0 + j) (1 ∷ []) in
        let u = ready_run x calls p.s (frame_base 0 + j) run.0 (1 ∷ []) run.1 (one_small 1 (omega arith)) p.t in
        let told = ap (λ ps. slice_get (flat_map places_of ps) (suc j)) (reads_of p.s number named.Lookup e) ∙ byte_told (register p.s 2) (frame_base 0) 4 j [] p.key low (omega (arith, few)) in
        let differ = differ_byte x calls reads_by bases_by (suc j) p.s (frame_base 0 + j) run.0 1 run.1 (omega arith) p.t told (ap (λ ps. is_in (Byte (frame_base 0 + j)) (flat_map places_of ps)) (bases_of p.s number named.Lookup e)) in
        by_sets x calls reads_by bases_by (suc j) p.s b differ p.t u 0 (found_at q shape 0) (found_at q shape (1 * 256 ^ j)) (p.s.pc + 1) (b.pc + 1) (omega arith) (found_apart q shape (1 * 256 ^ j) is (key_apart q shape.value_size j is.filled.0 low))
        (call_is p.s number named.Lookup e ∙ key_is p.s (lookup_key p.s) shape q 0 0 (omega arith) p.t.is p.token p.key (p.held 0 (omega arith)) (there p.s p.t))
        (call_is b number named.Lookup e ∙ key_is b (lookup_key b) shape q j 1 low u.is p.token p.key (set_holds p.s j run.0 0 1 few p.t.is run.1 (p.held j few)) (there p.s p.t))

    lookup_pointer : helper_of number ≡ Some named.Lookup → Matters bases_by reads_by calls 0 x
    lookup_pointer e =
        let p = called x calls q 0 0 map at (omega arith) (omega arith) in
        let b = with_register p.s 2 0 in
        let u = ready_register x calls p.s 2 0 (omega arith) p.t in
        let differ = differ_register x calls bases_by reads_by 0 p.s 2 0 (omega arith) (omega arith) p.t (told_in (bases_by p.s calls) (part.Register 0 2 ∷ []) 0 0 2 (bases_of p.s number named.Lookup e) refl) (ap (λ ps. is_in (Register 0 2) (flat_map places_of ps)) (reads_of p.s number named.Lookup e) ∙ no_register (register p.s 2) 4 0 2 []) in
        by_stop x calls bases_by reads_by 0 p.s b differ p.t u (Set 0 (found_at q shape (0 * 256 ^ 0)) (p.s.pc + 1)) (Faulted (Access 0)) tt
        (call_is p.s number named.Lookup e ∙ key_is p.s (lookup_key p.s) shape q 0 0 (omega arith) p.t.is p.token p.key (p.held 0 (omega arith)) (there p.s p.t))
        (call_is b number named.Lookup e ∙ no_key b (lookup_key b) shape q (register_else p.s 2 0 1 one_two ∙ p.token) (register_here p.s 2 0 p.t.is (omega arith)) (there p.s p.t))

    -- Update: the token, the key, the flags, the value, and the addresses of key and value.
    update_parts : (s : State) → helper_of number ≡ Some named.Update → reads_by s calls ≡ part.Register 0 1 ∷ (part.Bytes (register s 2) 4 ∷ (part.Register 0 4 ∷ of_value s (change s)))
    update_parts s e = reads_of s number named.Update e

    refused : (s : State) (v j n : ℕ) → j < 4 → IsState s → helper_of number ≡ Some named.Update → register s 1 ≡ token_base + q → register s 2 ≡ frame_base 0 → Holds s.memory j n → slice_get s.program.maps q ≡ Some shape → update_of s q shape (n * 256 ^ j) ≡ answer s v → change_by s calls ≡ Set 0 v (s.pc + 1)
    refused s v j n low hs e token key held map does = call_is s number named.Update e ∙ key_is s (update_of s) shape q j n low hs token key held map ∙ does

    by_flags : (s : State) (k v f : ℕ) → register s 4 ≡ f → (if nat_lt 2 f then answer s (2 ^ 64 - 22) else if f == 1 then answer s (2 ^ 64 - 17) else if nat_le shape.entries k then answer s (2 ^ 64 - 7) else access s (register s 3) shape.value_size (λ from. Cell (cell_address q k shape.value_size) from shape.value_size (s.pc + 1))) ≡ answer s v → update_of s q shape k ≡ answer s v
    by_flags s k v f e does =
        ap (λ n. if nat_lt 2 n then answer s (2 ^ 64 - 22) else if n == 1 then answer s (2 ^ 64 - 17) else if nat_le shape.entries k then answer s (2 ^ 64 - 7) else access s (register s 3) shape.value_size (λ from. Cell (cell_address q k shape.value_size) from shape.value_size (s.pc + 1))) e
        ∙ does

    update_token : helper_of number ≡ Some named.Update → Matters reads_by bases_by calls 0 x
    update_token e =
        let p = called x calls q 0 3 map at (omega arith) (omega arith) in
        let b = with_register p.s 1 0 in
        let u = ready_register x calls p.s 1 0 (omega arith) p.t in
        let differ = differ_register x calls reads_by bases_by 0 p.s 1 0 (omega arith) (omega arith) p.t (told_in (reads_by p.s calls) _ 0 0 1 (update_parts p.s e) refl) (ap (λ ps. is_in (Register 0 1) (flat_map places_of ps)) (bases_of p.s number named.Update e)) in
        by_stop x calls reads_by bases_by 0 p.s b differ p.t u (Set 0 (2 ^ 64 - 22) (p.s.pc + 1)) (Faulted (Token 0)) tt
        (refused p.s (2 ^ 64 - 22) 0 0 (omega arith) p.t.is e p.token p.key (p.held 0 (omega arith)) (there p.s p.t) (by_flags p.s (0 * 256 ^ 0) (2 ^ 64 - 22) 3 p.fourth refl))
        (call_is b number named.Update e ∙ no_token b (update_of b) (register_here p.s 1 0 p.t.is (omega arith)))

    update_flags : helper_of number ≡ Some named.Update → Matters reads_by bases_by calls 5 x
    update_flags e =
        let p = called x calls q 0 3 map at (omega arith) (omega arith) in
        let b = with_register p.s 4 1 in
        let u = ready_register x calls p.s 4 1 (omega arith) p.t in
        let differ = differ_register x calls reads_by bases_by 5 p.s 4 1 (omega arith) (omega arith) p.t (ap (λ ps. slice_get (flat_map places_of ps) 5) (update_parts p.s e) ∙ past_key (register p.s 2) (Register 0 4 ∷ flat_map places_of (of_value p.s (change p.s))) 0) (ap (λ ps. is_in (Register 0 4) (flat_map places_of ps)) (bases_of p.s number named.Update e)) in
        by_sets x calls reads_by bases_by 5 p.s b differ p.t u 0 (2 ^ 64 - 22) (2 ^ 64 - 17) (p.s.pc + 1) (b.pc + 1) (omega arith) answers_apart
        (refused p.s (2 ^ 64 - 22) 0 0 (omega arith) p.t.is e p.token p.key (p.held 0 (omega arith)) (there p.s p.t) (by_flags p.s (0 * 256 ^ 0) (2 ^ 64 - 22) 3 p.fourth refl))
        (refused b (2 ^ 64 - 17) 0 0 (omega arith) u.is e (register_else p.s 4 1 1 one_four ∙ p.token) (register_else p.s 4 1 2 two_four ∙ p.key) (p.held 0 (omega arith)) (there p.s p.t) (by_flags b (0 * 256 ^ 0) (2 ^ 64 - 17) 1 (register_here p.s 4 1 p.t.is (omega arith)) refl))

    update_pointer : helper_of number ≡ Some named.Update → Matters bases_by reads_by calls 0 x
    update_pointer e =
        let p = called x calls q (map_address q) 3 map at (omega (arith, small)) (omega arith) in
        let b = with_register p.s 2 0 in
        let u = ready_register x calls p.s 2 0 (omega arith) p.t in
        let does = refused p.s (2 ^ 64 - 22) 0 0 (omega arith) p.t.is e p.token p.key (p.held 0 (omega arith)) (there p.s p.t) (by_flags p.s (0 * 256 ^ 0) (2 ^ 64 - 22) 3 p.fourth refl) in
        let change_is = change_at p.s calls p.t.at ∙ does in
        let unread : is_in (Register 0 2) (places reads_by p.s calls) ≡ false = ap (λ ps. is_in (Register 0 2) (flat_map places_of ps)) (update_parts p.s e) ∙ no_register (register p.s 2) 4 0 2 (Register 0 4 ∷ flat_map places_of (of_value p.s (change p.s))) ∙ ap (λ c. is_in (Register 0 2) (flat_map places_of (of_value p.s c))) change_is in
        let differ = differ_register x calls bases_by reads_by 0 p.s 2 0 (omega arith) (omega arith) p.t (told_in (bases_by p.s calls) _ 0 0 2 (bases_of p.s number named.Update e) refl) unread in
        by_stop x calls bases_by reads_by 0 p.s b differ p.t u (Set 0 (2 ^ 64 - 22) (p.s.pc + 1)) (Faulted (Access 0)) tt does
        (call_is b number named.Update e ∙ no_key b (update_of b) shape q (register_else p.s 2 0 1 one_two ∙ p.token) (register_here p.s 2 0 p.t.is (omega arith)) (there p.s p.t))

    -- The first cell of the first map.
    cell_there : (s : State) → Ready x calls s → (at : ℕ) × (index_of s.memory (map_address q) shape.value_size ≡ Some at)
    cell_there s t =
        let first : cell_address q 0 shape.value_size ≡ map_address q = omega arith in
        let some : IsSome (accessible s (map_address q) shape.value_size) = subst (λ a. IsSome (accessible s a shape.value_size)) first (law_cells s t.is q 0 shape (there s t) is.filled.1) in
        some_index _ ((law_accessible s t.is (map_address q) shape.value_size (let filled = is.filled.0 in omega (arith, filled))).0 some).0

    cell_access : (s : State) (f : ℕ → Change) → (t : Ready x calls s) → access s (map_address q) shape.value_size f ≡ f (cell_there s t).0
    cell_access s f t =
        ap (λ b. option_map_or f (if b then None else index_of s.memory (map_address q) shape.value_size) (fault (map_address q))) (past_frames (depth s + 1) (map_address q) (omega arith))
        ∙ ap (λ o. option_map_or f o (fault (map_address q))) (cell_there s t).1

    stored : (s : State) (j n k : ℕ) (c : Change) → j < 4 → k ≡ n * 256 ^ j → Ready x calls s → helper_of number ≡ Some named.Update → register s 1 ≡ token_base + q → register s 2 ≡ frame_base 0 → register s 4 ≡ 0 → Holds s.memory j n → k < shape.entries → access s (register s 3) shape.value_size (λ from. Cell (cell_address q k shape.value_size) from shape.value_size (s.pc + 1)) ≡ c → change_by s calls ≡ c
    stored s j n k c inside number_is t e token key flags held low does =
        call_is s number named.Update e
        ∙ key_is s (update_of s) shape q j n inside t.is token key held (there s t)
        ∙ ap (update_of s q shape) (sym number_is)
        ∙ ap (λ n. if nat_lt 2 n then answer s (2 ^ 64 - 22) else if n == 1 then answer s (2 ^ 64 - 17) else if nat_le shape.entries k then answer s (2 ^ 64 - 7) else access s (register s 3) shape.value_size (λ from. Cell (cell_address q k shape.value_size) from shape.value_size (s.pc + 1))) flags
        ∙ ap (λ b. if b then answer s (2 ^ 64 - 7) else access s (register s 3) shape.value_size (λ from. Cell (cell_address q k shape.value_size) from shape.value_size (s.pc + 1))) (within k shape.entries low)
        ∙ does
      where
        within : (k n : ℕ) → k < n → nat_le n k ≡ false
        within k n low = grind (arith, nat_tests)

    update_from : helper_of number ≡ Some named.Update → Matters bases_by reads_by calls 1 x
    update_from e =
        let p = called x calls q (map_address q) 0 map at (omega (arith, small)) (omega arith) in
        let b = with_register p.s 3 0 in
        let u = ready_register x calls p.s 3 0 (omega arith) p.t in
        let cell : Change = Cell (cell_address q 0 shape.value_size) (cell_there p.s p.t).0 shape.value_size (p.s.pc + 1) in
        let does : change_by p.s calls ≡ cell = stored p.s 0 0 0 cell (omega arith) refl p.t e p.token p.key p.fourth (p.held 0 (omega arith)) is.filled.1 (ap (λ a. access p.s a shape.value_size (λ from. Cell (cell_address q 0 shape.value_size) from shape.value_size (p.s.pc + 1))) p.third ∙ cell_access p.s _ p.t) in
        let change_is : change p.s ≡ cell = change_at p.s calls p.t.at ∙ does in
        let unread : is_in (Register 0 3) (places reads_by p.s calls) ≡ false = ap (λ ps. is_in (Register 0 3) (flat_map places_of ps)) (update_parts p.s e) ∙ no_register (register p.s 2) 4 0 3 (Register 0 4 ∷ flat_map places_of (of_value p.s (change p.s))) ∙ ap (λ c. is_in (Register 0 3) (flat_map places_of (of_value p.s c))) change_is ∙ no_register (register p.s 3) shape.value_size 0 3 [] in
        let differ = differ_register x calls bases_by reads_by 1 p.s 3 0 (omega arith) (omega arith) p.t (told_in (bases_by p.s calls) _ 1 0 3 (bases_of p.s number named.Update e) refl) unread in
        by_stop x calls bases_by reads_by 1 p.s b differ p.t u cell (Faulted (Access 0)) tt does
        (stored b 0 0 0 (Stop (Faulted (Access 0))) (omega arith) refl u e (register_else p.s 3 0 1 one_three ∙ p.token) (register_else p.s 3 0 2 two_three ∙ p.key) (register_else p.s 3 0 4 four_three ∙ p.fourth) (p.held 0 (omega arith)) is.filled.1
        (ap (λ a. access b a shape.value_size (λ from. Cell (cell_address q 0 shape.value_size) from shape.value_size (b.pc + 1))) (register_here p.s 3 0 p.t.is (omega arith)) ∙ access_stops b shape.value_size _))

    update_key : helper_of number ≡ Some named.Update → (j : ℕ) → j < 4 → Matters reads_by bases_by calls (suc j) x
    update_key e j low =
        let few : j < 8 = omega (arith, low) in
        let k = 1 * 256 ^ j in
        let p = called x calls q (map_address q) 0 map at (omega (arith, small)) (omega arith) in
        let run = byte_found p.s j p.t.is few in
        let b = with_run p.s (frame_base 0 + j) (1 ∷ []) in
        let u = ready_run x calls p.s (frame_base 0 + j) run.0 (1 ∷ []) run.1 (one_small 1 (omega arith)) p.t in
        let cell : Change = Cell (cell_address q 0 shape.value_size) (cell_there p.s p.t).0 shape.value_size (p.s.pc + 1) in
        let does : change_by p.s calls ≡ cell = stored p.s 0 0 0 cell (omega arith) refl p.t e p.token p.key p.fourth (p.held 0 (omega arith)) is.filled.1 (ap (λ a. access p.s a shape.value_size (λ from. Cell (cell_address q 0 shape.value_size) from shape.value_size (p.s.pc + 1))) p.third ∙ cell_access p.s _ p.t) in
        let told = ap (λ ps. slice_get (flat_map places_of ps) (suc j)) (update_parts p.s e) ∙ byte_told (register p.s 2) (frame_base 0) 4 j (Register 0 4 ∷ flat_map places_of (of_value p.s (change p.s))) p.key low (omega (arith, few)) in
        let differ = differ_byte x calls reads_by bases_by (suc j) p.s (frame_base 0 + j) run.0 1 run.1 (omega arith) p.t told (ap (λ ps. is_in (Byte (frame_base 0 + j)) (flat_map places_of ps)) (bases_of p.s number named.Update e)) in
        let held = set_holds p.s j run.0 0 1 few p.t.is run.1 (p.held j few) in
        elim (cases_lt k shape.entries) [
          | inl within ↦
              by_changes x calls reads_by bases_by (suc j) p.s b differ p.t u cell (Cell (cell_address q k shape.value_size) (cell_there b u).0 shape.value_size (b.pc + 1)) does
              (stored b j 1 k _ low refl u e p.token p.key p.fourth held within (ap (λ a. access b a shape.value_size (λ from. Cell (cell_address q k shape.value_size) from shape.value_size (b.pc + 1))) p.third ∙ cell_access b _ u))
              (λ alike. cells_apart k (key_apart q shape.value_size j is.filled.0 low) (cell_alike p.s b (cell_address q 0 shape.value_size) (cell_address q k shape.value_size) _ _ shape.value_size (p.s.pc + 1) (b.pc + 1) alike))
          | inr high ↦
              by_changes x calls reads_by bases_by (suc j) p.s b differ p.t u cell (Set 0 (2 ^ 64 - 7) (b.pc + 1)) does
              (refused b (2 ^ 64 - 7) j 1 low u.is e p.token p.key held (there b u) (by_flags b k (2 ^ 64 - 7) 0 p.fourth (ap (λ c. if c then answer b (2 ^ 64 - 7) else access b (register b 3) shape.value_size (λ from. Cell (cell_address q k shape.value_size) from shape.value_size (b.pc + 1))) (past k shape.entries high))))
              (cell_unlike p.s b (cell_address q 0 shape.value_size) _ shape.value_size (p.s.pc + 1) 0 (2 ^ 64 - 7) (b.pc + 1))
        ]
      where
        past : (k n : ℕ) → n ≤ k → nat_le n k ≡ true
        past k n high = grind (arith, nat_tests)

        cells_apart : (k : ℕ) → map_address q ≢ map_address q + shape.value_size * k → cell_address q 0 shape.value_size ≡ cell_address q k shape.value_size → ⊥
        cells_apart k apart e = let same : map_address q ≡ map_address q + shape.value_size * k = omega (arith, e) in apart same

    cell_run : (s : State) (j : ℕ) → j < shape.value_size → Ready x calls s → (at : ℕ) × (index_of s.memory (map_address q + j) 1 ≡ Some at)
    cell_run s j low t =
        let some : 1 ≤ shape.value_size = let filled = is.filled.0 in omega (arith, filled) in
        let whole = index_some _ (cell_there s t).0 (cell_there s t).1 in
        some_index _ ((law_runs s.memory t.is.image (map_address q + j) 1 (omega arith)).1 (λ k few.
        let here : map_address q + j + k ≡ map_address q + j = omega (arith, few) in
        subst (λ a. IsSome (byte_at s.memory a)) (sym here) ((law_runs s.memory t.is.image (map_address q) shape.value_size some).0 whole j low)))

    copies : (s : State) → helper_of number ≡ Some named.Update → register s 1 ≡ token_base + q → register s 2 ≡ frame_base 0 → register s 3 ≡ map_address q → register s 4 ≡ 0 → Holds s.memory 0 0 → (t : Ready x calls s) → change_by s calls ≡ Cell (cell_address q 0 shape.value_size) (cell_there s t).0 shape.value_size (s.pc + 1)
    copies s e token key from flags held t =
        stored s 0 0 0 _ (omega arith) refl t e token key flags held is.filled.1 (ap (λ a. access s a shape.value_size (λ at. Cell (cell_address q 0 shape.value_size) at shape.value_size (s.pc + 1))) from ∙ cell_access s _ t)

    update_value : helper_of number ≡ Some named.Update → (j : ℕ) → j < shape.value_size → Matters reads_by bases_by calls (suc (suc (suc (suc (suc (suc j)))))) x
    update_value e j low =
        let p = called x calls q (map_address q) 0 map at (omega (arith, small)) (omega arith) in
        let one = cell_run p.s j low p.t in
        let a = with_run p.s (map_address q + j) (0 ∷ []) in
        let t = ready_run x calls p.s (map_address q + j) one.0 (0 ∷ []) one.1 (one_small 0 (omega arith)) p.t in
        let held = held_past q p.s j one.0 0 p.t.is one.1 (p.held 0 (omega arith)) in
        let second = cell_run a j low t in
        let b = with_run a (map_address q + j) (1 ∷ []) in
        let u = ready_run x calls a (map_address q + j) second.0 (1 ∷ []) second.1 (one_small 1 (omega arith)) t in
        let does = copies a e p.token p.key p.third p.fourth held t in
        let also = copies b e p.token p.key p.third p.fourth (held_past q a j second.0 1 t.is second.1 held) u in
        let size = shape.value_size in
        let few = is.value in
        let parts = update_parts a e ∙ ap (λ c. part.Register 0 1 ∷ (part.Bytes (register a 2) 4 ∷ (part.Register 0 4 ∷ of_value a c))) (change_at a calls t.at ∙ does) in
        let told = ap (λ ps. slice_get (flat_map places_of ps) (suc (suc (suc (suc (suc (suc j))))))) parts ∙ past_key (register a 2) (Register 0 4 ∷ (bytes_from (register a 3) size ++ [])) (suc j) ∙ byte_told (register a 3) (map_address q) size j [] p.third low (omega (arith, low, few)) in
        let differ = differ_byte x calls reads_by bases_by (suc (suc (suc (suc (suc (suc j)))))) a (map_address q + j) second.0 1 second.1 (omega arith) t told (ap (λ ps. is_in (Byte (map_address q + j)) (flat_map places_of ps)) (bases_of a number named.Update e)) in
        by_changes x calls reads_by bases_by (suc (suc (suc (suc (suc (suc j)))))) a b differ t u _ _ does also
        (copy_unlike q a b (cell_there a t).0 (cell_there b u).0 size (cell_address q 0 size) j (a.pc + 1) (b.pc + 1) t.is u.is low (cell_there a t).1 (cell_there b u).1 (omega arith) (cell_byte q p.s j one.0 0 p.t.is one.1) (cell_byte q a j second.0 1 t.is second.1))

  -- Every helper.
  counted_bytes : (a k : ℕ) → length (bytes_from a k ++ []) ≡ k
  counted_bytes a k = length-append (bytes_from a k) [] ∙ omega (arith, count_bytes a k)

  -- A value that the step from x writes is a cell's of some map.
  abbrev OfMap : ℕ → Type 0
  OfMap j = (q : ℕ) × (shape : MapShape) × (slice_get x.program.maps q ≡ Some shape) × (j < shape.value_size)

  by_copy : (q : ℕ) (shape : MapShape) (a j : ℕ) (o : Option ℕ) → slice_get x.program.maps q ≡ Some shape → j < length (flat_map places_of (of_value x (option_map_or (λ from. Cell a from shape.value_size (x.pc + 1)) o (fault (register x 3))))) → OfMap j
  by_copy q shape a j None found less = absurd (omega (arith, less))
  by_copy q shape a j (Some from) found less = (q, shape, found, omega (arith, less, counted_bytes (register x 3) shape.value_size))

  by_test : (q : ℕ) (shape : MapShape) (a j : ℕ) (many one over : Bool) → slice_get x.program.maps q ≡ Some shape → j < length (flat_map places_of (of_value x (if many then answer x (2 ^ 64 - 22) else if one then answer x (2 ^ 64 - 17) else if over then answer x (2 ^ 64 - 7) else access x (register x 3) shape.value_size (λ from. Cell a from shape.value_size (x.pc + 1))))) → OfMap j
  by_test q shape a j true one over found less = absurd (omega (arith, less))
  by_test q shape a j false true over found less = absurd (omega (arith, less))
  by_test q shape a j false false true found less = absurd (omega (arith, less))
  by_test q shape a j false false false found less = by_copy q shape a j (accessible x (register x 3) shape.value_size) found less

  by_key : (q : ℕ) (shape : MapShape) (j : ℕ) (o : Option ℕ) → slice_get x.program.maps q ≡ Some shape → j < length (flat_map places_of (of_value x (option_map_or (λ at. update_of x q shape (number_at x.memory at 4)) o (fault (register x 2))))) → OfMap j
  by_key q shape j None found less = absurd (omega (arith, less))
  by_key q shape j (Some at) found less =
      by_test q shape (cell_address q (number_at x.memory at 4) shape.value_size) j (nat_lt 2 (register x 4)) (register x 4 == 1) (nat_le shape.entries (number_at x.memory at 4)) found less

  by_map : (n j : ℕ) (o : Option MapShape) → map_shape x n ≡ o → j < length (flat_map places_of (of_value x (option_map_or (λ shape. access x (register x 2) 4 (λ at. update_of x (n - token_base) shape (number_at x.memory at 4))) o (Stop (Faulted (Token n)))))) → OfMap j
  by_map n j None e less = absurd (omega (arith, less))
  by_map n j (Some shape) e less = by_key (n - token_base) shape j (accessible x (register x 2) 4) (there (nat_lt n token_base) e) less
    where
      there : (b : Bool) → (if b then None else slice_get x.program.maps (n - token_base)) ≡ Some shape → slice_get x.program.maps (n - token_base) ≡ Some shape
      there true e = cc
      there false e = e

  value_of : (j : ℕ) → j < length (flat_map places_of (of_value x (update x))) → OfMap j
  value_of j less = by_map (register x 1) j (map_shape x (register x 1)) refl less

  few_maps : (q : ℕ) (shape : MapShape) → slice_get x.program.maps q ≡ Some shape → q < 16
  few_maps q shape found =
      let few = hx.checked.tables.few in
      let within = slice_get_within x.program.maps q shape found in
      omega (arith, few, within)

  shape_is : (q : ℕ) (shape : MapShape) → slice_get x.program.maps q ≡ Some shape → IsShape shape
  shape_is q shape found = shape_of x.program.maps q shape hx.checked.tables.shapes found

  pub call_reads : (h : Helper) → helper_of number ≡ Some h → x.program.maps ≢ [] → length x.trace < trace_limit → (n : ℕ) → n < length (places reads_by x calls) → Matters reads_by bases_by calls n x
  call_reads named.Lookup e maps room n less =
      let map = first_map x.program.maps maps in
      let is = shape_is 0 map.0 map.1 in
      by_place (lookup_token 0 map.0 is (omega arith) (omega arith) map.1 e) (lookup_bytes 0 map.0 is (omega arith) (omega arith) map.1 e) n
      (subst (λ k. n < k) (ap (λ ps. length (flat_map places_of ps)) (reads_of x number named.Lookup e)) less)
    where
      by_place : Matters reads_by bases_by calls 0 x → ((j : ℕ) → j < 4 → Matters reads_by bases_by calls (suc j) x) → (n : ℕ) → n < suc (length (bytes_from (register x 2) 4 ++ [])) → Matters reads_by bases_by calls n x
      by_place first rest zero less = first
      by_place first rest (suc j) less = rest j (omega (arith, less, counted_bytes (register x 2) 4))
  call_reads named.Update e maps room n less =
      let map = first_map x.program.maps maps in
      let is = shape_is 0 map.0 map.1 in
      let change_is : change x ≡ update x = change_at x calls here ∙ call_is x number named.Update e in
      by_place (update_token 0 map.0 is (omega arith) (omega arith) map.1 e) (update_key 0 map.0 is (omega arith) (omega arith) map.1 e) (update_flags 0 map.0 is (omega arith) (omega arith) map.1 e) n
      (subst (λ k. n < k) (ap (λ ps. length (flat_map places_of ps)) (reads_of x number named.Update e ∙ ap (λ c. of_helper x c named.Update) change_is)) less)
    where
      by_value : (j : ℕ) → OfMap j → Matters reads_by bases_by calls (suc (suc (suc (suc (suc (suc j)))))) x
      by_value j of =
          let q = of.0 in
          let few = few_maps q of.1 of.2 in
          update_value q of.1 (shape_is q of.1 of.2) (omega (arith, few)) (omega (arith, few)) of.2 e j of.3

      by_place : Matters reads_by bases_by calls 0 x → ((j : ℕ) → j < 4 → Matters reads_by bases_by calls (suc j) x) → Matters reads_by bases_by calls 5 x → (n : ℕ) → n < suc (length (bytes_from (register x 2) 4 ++ (Register 0 4 ∷ flat_map places_of (of_value x (update x))))) → Matters reads_by bases_by calls n x
      by_place first key flags zero less = first
      by_place first key flags (suc zero) less = key 0 (omega arith)
      by_place first key flags (suc (suc zero)) less = key 1 (omega arith)
      by_place first key flags (suc (suc (suc zero))) less = key 2 (omega arith)
      by_place first key flags (suc (suc (suc (suc zero)))) less = key 3 (omega arith)
      by_place first key flags (suc (suc (suc (suc (suc zero))))) less = flags
      by_place first key flags (suc (suc (suc (suc (suc (suc j)))))) less =
          by_value j (value_of j (let count = counted_key (register x 2) (Register 0 4 ∷ flat_map places_of (of_value x (update x))) in omega (arith, less, count)))
  call_reads named.Trace e maps room n less =
      pick_one (λ k. Matters reads_by bases_by calls k x) (trace_word e room) n (subst (λ k. n < k) (ap (λ ps. length (flat_map places_of ps)) (reads_of x number named.Trace e)) less)

  pub call_bases : (h : Helper) → helper_of number ≡ Some h → x.program.maps ≢ [] → (n : ℕ) → n < length (places bases_by x calls) → Matters bases_by reads_by calls n x
  call_bases named.Lookup e maps n less =
      let map = first_map x.program.maps maps in
      pick_one (λ k. Matters bases_by reads_by calls k x) (lookup_pointer 0 map.0 (shape_is 0 map.0 map.1) (omega arith) (omega arith) map.1 e) n (subst (λ k. n < k) (ap (λ ps. length (flat_map places_of ps)) (bases_of x number named.Lookup e)) less)
  call_bases named.Update e maps n less =
      let map = first_map x.program.maps maps in
      let is = shape_is 0 map.0 map.1 in
      pick_two (λ k. Matters bases_by reads_by calls k x) (update_pointer 0 map.0 is (omega arith) (omega arith) map.1 e) (update_from 0 map.0 is (omega arith) (omega arith) map.1 e) n (subst (λ k. n < k) (ap (λ ps. length (flat_map places_of ps)) (bases_of x number named.Update e)) less)
  call_bases named.Trace e maps n less =
      let none : n < 0 = subst (λ k. n < k) (ap (λ ps. length (flat_map places_of ps)) (bases_of x number named.Trace e)) less in
      absurd (omega (arith, none))
