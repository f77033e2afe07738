-- Of two states that stand alike, the same change writes the same values to the same places.
use Rattle.std.proofs.Common.{◌≡◌, ◌≤◌, ◌<◌, ℕ, ◌+◌, ◌-◌, ◌^◌, List, [], ◌∷◌, ◌++◌, length, length-append, Bool, true, false, Option, Some, None, refl, sym, ap, subst, ◌∙◌, arith}
use Rattle.std.specs.Prelude.{IsSome, ◌==◌, ◌&&◌, ◌||◌, nat_lt, nat_le, option_map, unwrap_or, slice_get, slice_index, slice_set, if◌then◌else◌}
use Rattle.std.specs.Option.{option_map_or}
use Rattle.std.specs.List.{list_any}
use Rattle.std.proofs.lemmas.Bool.{and_parts}
use Rattle.std.proofs.lemmas.Bool.Decides.{nat_tests}
use Rattle.std.proofs.lemmas.Grind.{get_or-set_at}
use Rattle.std.proofs.lemmas.Option.{slice_get_past}
use Rattle.std.proofs.Math.Seq.{get_or-append_seam}
use Rattle.byteorder.specs.Endian.{little_bytes}
use Rattle.byteorder.specs.Numbers.{length-bytes_low_first}
use Rattle.bpf_isa.specs.Helpers.{helper_of}
use Rattle.bpf_isa.specs.declared.helpers.Helper.{Helper}
use Rattle.bpf_isa.specs.declared.helpers.Helper.TheVariants as named
use Rattle.bpf_isa.specs.Sizes.{size_len, signed_len}
use Rattle.bpf_isa.specs.declared.instruction.AtomicOp.{AtomicOp}
use Rattle.bpf_isa.specs.declared.instruction.AtomicOp.TheVariants as atomics
use Rattle.bpf_isa.specs.declared.instruction.Insn.{Insn}
use Rattle.bpf_isa.specs.declared.instruction.Insn.TheVariants as insn
use Rattle.bpf_isa.specs.declared.instruction.LoadSize.TheVariants.{Plain, Signed}
use Rattle.bpf_isa.specs.declared.instruction.Size.{Size}
use Rattle.bpf_isa.specs.declared.instruction.Width.{Width}
use Rattle.bpf_isa.specs.declared.maps.MapShape.{MapShape}
use Rattle.bpf_entries.specs.declared.status.Fault.TheVariants.{Depth, Token}
use Rattle.bpf_entries.specs.declared.status.Status.TheVariants.{Exited, Faulted}
use Rattle.bpf_entries.specs.Past.{Run, past, replaced}
use Rattle.bpf_steps.specs.declared.change.Change.{Change}
use Rattle.bpf_steps.specs.declared.change.Change.TheVariants.{Set, Go, Store, Fetch, Call, Return, Cell, Trace, Stop}
use Rattle.bpf_steps.specs.declared.frame.Frame.{Frame}
use Rattle.bpf_steps.specs.Access.{low_bits, address, access, accessible, fault}
use Rattle.bpf_steps.specs.Atomics.{size_of, replacement, atomic_at}
use Rattle.bpf_steps.specs.ByAddress.{byte_at, byte}
use Rattle.bpf_steps.specs.Calls.{pushed, entered}
use Rattle.bpf_steps.specs.Entries.{entry_of}
use Rattle.bpf_steps.specs.Fetched.{Fits}
use Rattle.bpf_steps.specs.Helpers.{map_shape, helper, update_of, update, answer}
use Rattle.bpf_steps.specs.Next.{change_by, change, changed, next}
use Rattle.bpf_steps.specs.Numbers.{bits_of}
use Rattle.bpf_steps.specs.Platform.{frame_base, frame_len, cell_address, token_base, trace_limit}
use Rattle.bpf_steps.specs.Regions.{Image, IsImage, index_of, run, run_at, number_at, with_bytes, put, zeros}
use Rattle.bpf_steps.specs.State.{State, IsState, register, depth}
use Rattle.bpf_steps.proofs.ByAddress.{fits_within, length-run, law_stores}
use Rattle.bpf_machine.proofs.Undoing.{length-zeros, pushed_depth}
use Rattle.bpf_origin.specs.declared.place.Place.{Place}
use Rattle.bpf_origin.specs.declared.place.Place.TheVariants.{Register, Word, Byte}
use Rattle.bpf_origin.specs.declared.place.Part.TheVariants as part
use Rattle.bpf_origin.specs.Laws.{StandAlike, Agree, WroteAlike}
use Rattle.bpf_origin.specs.Places.{depth_for, own_register, value, same, has, bytes_from}
use Rattle.bpf_origin.specs.Reads.{of_register, of_compared, of_key, of_value, of_helper, reads_by}
use Rattle.bpf_origin.specs.Writes.{register_written, bytes_written, word_written, written, writes}
use Rattle.bpf_origin.proofs.Agreeing.{AgreeEach, split_each, deep, index_same, index_there, run_same, number_same}

-- A written place is one of one of the written parts.
abbrev pub in_run : ℕ → Run → Bool
in_run a run = nat_le run.address a && nat_lt a (run.address + length run.bytes)

abbrev pub wrote_register : ℕ → Option (ℕ × ℕ) → ℕ → ℕ → Bool
wrote_register d kept e r = option_map_or (λ (w : ℕ × ℕ). same (Register (depth_for d w.0) w.0) (Register e r)) kept false

rest_false : (b c : Bool) → c ≡ false → (b || c) ≡ true → b ≡ true
rest_false true c e f = refl
rest_false false c e f = cc

no_register : (n : ℕ) (run : Option Run) (traces : Bool) (e r : ℕ) → list_any (λ q. has q (Register e r)) (bytes_written run ++ word_written n traces) ≡ false
no_register n None false e r = refl
no_register n None true e r = refl
no_register n (Some run) false e r = refl
no_register n (Some run) true e r = refl

pub register_there : (d n : ℕ) (kept : Option (ℕ × ℕ)) (run : Option Run) (traces : Bool) (e r : ℕ) → list_any (λ q. has q (Register e r)) (register_written d kept ++ (bytes_written run ++ word_written n traces)) ≡ true → wrote_register d kept e r ≡ true
register_there d n None run traces e r there = absurd (both (no_register n run traces e r) there)
  where
    both : {b : Bool} → b ≡ false → b ≡ true → ⊥
    both e f = cc
register_there d n (Some w) run traces e r there = rest_false _ _ (no_register n run traces e r) there

no_byte : (n : ℕ) (traces : Bool) (a : ℕ) → list_any (λ q. has q (Byte a)) (word_written n traces) ≡ false
no_byte n false a = refl
no_byte n true a = refl

pub bytes_there : (d n : ℕ) (kept : Option (ℕ × ℕ)) (run : Option Run) (traces : Bool) (a : ℕ) → list_any (λ q. has q (Byte a)) (register_written d kept ++ (bytes_written run ++ word_written n traces)) ≡ true → option_map_or (in_run a) run false ≡ true
bytes_there d n None None traces a there = sym (no_byte n traces a) ∙ there
bytes_there d n None (Some run) traces a there = rest_false _ _ (no_byte n traces a) there
bytes_there d n (Some w) None traces a there = sym (no_byte n traces a) ∙ there
bytes_there d n (Some w) (Some run) traces a there = rest_false _ _ (no_byte n traces a) there

word_there : (d n : ℕ) (kept : Option (ℕ × ℕ)) (run : Option Run) (traces : Bool) (i : ℕ) → list_any (λ q. has q (Word i)) (register_written d kept ++ (bytes_written run ++ word_written n traces)) ≡ true → (traces && (n - 1 == i)) ≡ true
word_there d n None None false i there = there
word_there d n None (Some run) false i there = there
word_there d n (Some w) None false i there = there
word_there d n (Some w) (Some run) false i there = there
word_there d n None None true i there = rest_false _ _ refl there
word_there d n None (Some run) true i there = rest_false _ _ refl there
word_there d n (Some w) None true i there = rest_false _ _ refl there
word_there d n (Some w) (Some run) true i there = rest_false _ _ refl there

-- A register that was set.
abbrev pub among : List ℕ → List Frame → ℕ → ℕ → ℕ
among registers frames d r = if nat_lt r 6 then slice_index registers r else own_register (slice_get frames d) registers r

pub set_there : (rs : List ℕ) (fs : List Frame) (s v e r : ℕ) → length rs ≡ 10 → s < 10 → same (Register (depth_for (length fs) s) s) (Register e r) ≡ true → among (slice_set rs s v) fs e r ≡ v
set_there rs fs s v e r ten low there =
    let two = and_parts (depth_for (length fs) s == e) (s == r) there in
    let at : r ≡ s = let holds = two.1 in grind (arith, nat_tests) in
    let of : depth_for (length fs) s ≡ e = let holds = two.0 in grind (arith, nat_tests) in
    let now : slice_index (slice_set rs s v) r ≡ v = get_or-set_at rs s r v 0 at (omega (arith, ten, low)) in
    by_six (nat_lt r 6) (ap (λ k. if nat_lt k 6 then 0 else length fs) at ∙ of) now
  where
    by_six : (b : Bool) → (if b then 0 else length fs) ≡ e → slice_index (slice_set rs s v) r ≡ v → (if b then slice_index (slice_set rs s v) r else own_register (slice_get fs e) (slice_set rs s v) r) ≡ v
    by_six true of now = now
    by_six false of now = ap (λ o. own_register o (slice_set rs s v) r) (slice_get_past fs e (omega (arith, of))) ∙ now

-- Bytes that were put somewhere.
put_there : (m k : Image) (a n at : ℕ) (new : List ℕ) (b : ℕ) → IsImage m → IsImage k → length new ≡ n → index_of m a n ≡ Some at → index_of k a n ≡ Some at → a ≤ b → b < a + n → byte_at (with_bytes m at new) b ≡ byte_at (with_bytes k at new) b
put_there m k a n at new b im ik len found also from low =
    let here : a + (b - a) ≡ b = omega (arith, from) in
    let within : b - a < length new = omega (arith, from, low, len) in
    let first = (law_stores m im a at new (ap (index_of m a) len ∙ found)).0 (b - a) within in
    let second = (law_stores k ik a at new (ap (index_of k a) len ∙ also)).0 (b - a) within in
    ap (λ c. byte_at (with_bytes m at new) c) (sym here) ∙ first ∙ sym second ∙ ap (λ c. byte_at (with_bytes k at new) c) here

-- The bytes of a run that is known by its address.
in_run_is : (b a n : ℕ) (old : List ℕ) → length old ≡ n → in_run b (record { address = a; bytes = old }) ≡ true → (a ≤ b) × (b < a + n)
in_run_is b a n old len there =
    let two = and_parts (nat_le a b) (nat_lt b (a + length old)) there in
    let from : a ≤ b = let holds = two.0 in grind (arith, nat_tests) in
    let to : b < a + length old = let holds = two.1 in grind (arith, nat_tests) in
    (from, omega (arith, to, len))

pub some_index : (found : Option ℕ) → IsSome found → (at : ℕ) × (found ≡ Some at)
some_index None some = cc
some_index (Some at) some = (at, refl)

-- What a change reads of memory is the same.
abbrev pub ReadAlike : State → State → Change → Type 0
ReadAlike x z (Fetch a at size value r next) = number_at x.memory at (size_len size) ≡ number_at z.memory at (size_len size)
ReadAlike x z (Cell a from n next) = run x.memory from n ≡ run z.memory from n
ReadAlike x z _ = Unit {0}

module _ (x z : State) (hx : IsState x) (hz : IsState z) (al : StandAlike x z) where
  pub set_both : (s v u e r : ℕ) → s < 10 → v ≡ u → same (Register (depth_for (depth x) s) s) (Register e r) ≡ true → among (slice_set x.registers s v) x.frames e r ≡ among (slice_set z.registers s u) z.frames e r
  set_both s v u e r low same_value there =
      set_there x.registers x.frames s v e r hx.ten low there
      ∙ same_value
      ∙ sym (set_there z.registers z.frames s u e r hz.ten low (ap (λ d. same (Register (depth_for d s) s) (Register e r)) (sym (deep x z hx hz al)) ∙ there))

  registers_alike : (c : Change) → Fits x c → ReadAlike x z c → (e r : ℕ) → wrote_register (depth (changed x c)) (past (depth (changed x c)) (entry_of x c)).register e r ≡ true → value (changed x c) (Register e r) ≡ value (changed z c) (Register e r)
  unfolding changed entry_of
  registers_alike (Set s v after) fits read e r there = set_both s v v e r fits.0 refl there
  registers_alike (Go after) fits read e r there = cc
  registers_alike (Store a at size v after) fits read e r there = cc
  registers_alike (Fetch a at size v s after) fits read e r there = set_both s _ _ e r fits.0 read there
  registers_alike (Call to) fits read e r there = cc
  registers_alike Return fits read e r there = cc
  registers_alike (Cell a from n after) fits read e r there = set_both 0 0 0 e r (omega arith) refl there
  registers_alike (Trace word after) fits read e r there = set_both 0 0 0 e r (omega arith) refl there
  registers_alike (Stop status) fits read e r there = cc

  stored_alike : (a at n v b : ℕ) → index_of x.memory a n ≡ Some at → in_run b (record { address = a; bytes = run x.memory at n }) ≡ true → byte_at (with_bytes x.memory at (little_bytes n v)) b ≡ byte_at (with_bytes z.memory at (little_bytes n v)) b
  stored_alike a at n v b found there =
      let within = in_run_is b a n (run x.memory at n) (length-run x.memory.bytes at n (fits_within x.memory hx.image a n at found)) there in
      put_there x.memory z.memory a n at (little_bytes n v) b hx.image hz.image (length-bytes_low_first 0 n v) found (sym (index_same x z hx hz al a n) ∙ found) within.0 within.1

  pub put_alike : (a n : ℕ) (new also old : List ℕ) (b : ℕ) → length new ≡ n → new ≡ also → length old ≡ n → IsSome (index_of x.memory a n) → in_run b (record { address = a; bytes = old }) ≡ true → byte_at (put x.memory a n new) b ≡ byte_at (put z.memory a n also) b
  put_alike a n new also old b len e count some there =
      let found = some_index (index_of x.memory a n) some in
      let within = in_run_is b a n old count there in
      let other : index_of z.memory a n ≡ Some found.0 = sym (index_same x z hx hz al a n) ∙ found.1 in
      ap (λ o. byte_at (option_map_or (λ at. with_bytes x.memory at new) o x.memory) b) found.1
      ∙ put_there x.memory z.memory a n found.0 new b hx.image hz.image len found.1 other within.0 within.1
      ∙ ap (λ bytes. byte_at (with_bytes z.memory found.0 bytes) b) e
      ∙ sym (ap (λ o. byte_at (option_map_or (λ at. with_bytes z.memory at also) o z.memory) b) other)

-- How many bytes a run has that is present.
pub run_count : (m : Image) (a n : ℕ) (other : List ℕ) → IsImage m → IsSome (index_of m a n) → length (unwrap_or (run_at m a n) other) ≡ n
run_count m a n other is some =
    let found = some_index (index_of m a n) some in
    ap (λ o. length (unwrap_or (option_map (λ at. run m at n) o) other)) found.1
    ∙ length-run m.bytes found.0 n (fits_within m is a n found.0 found.1)

module _ (x z : State) (hx : IsState x) (hz : IsState z) (al : StandAlike x z) where
  bytes_alike : (c : Change) → Fits x c → ReadAlike x z c → (b : ℕ) → option_map_or (in_run b) (replaced (depth (changed x c)) (entry_of x c)) false ≡ true → byte (changed x c) b ≡ byte (changed z c) b
  unfolding changed entry_of
  bytes_alike (Set s v after) fits read b there = cc
  bytes_alike (Go after) fits read b there = cc
  bytes_alike (Store a at size v after) fits read b there =
      ap (λ o. unwrap_or o 0) (stored_alike x z hx hz al a at (size_len size) v b fits.0.found there)
  bytes_alike (Fetch a at size v s after) fits read b there =
      ap (λ o. unwrap_or o 0) (stored_alike x z hx hz al a at (size_len size) v b fits.1.found there)
  bytes_alike (Call to) fits read b there =
      let here : in_run b (record { address = frame_base (depth x + 1); bytes = entered x }) ≡ true = ap (λ d. in_run b (record { address = frame_base d; bytes = entered x })) (sym (pushed_depth x (x.pc + 1))) ∙ there in
      ap (λ o. unwrap_or o 0) (put_alike x z hx hz al (frame_base (depth x + 1)) frame_len (zeros frame_len) (zeros frame_len) (entered x) b (length-zeros frame_len) refl (run_count x.memory (frame_base (depth x + 1)) frame_len [] hx.image fits.3) fits.3 here)
      ∙ ap (λ d. unwrap_or (byte_at (put z.memory (frame_base (d + 1)) frame_len (zeros frame_len)) b) 0) (deep x z hx hz al)
  bytes_alike Return fits read b there = cc
  bytes_alike (Cell a from n after) fits read b there =
      ap (λ o. unwrap_or o 0) (put_alike x z hx hz al a n (run x.memory from n) (run z.memory from n) (unwrap_or (run_at x.memory a n) []) b (length-run x.memory.bytes from n fits.2) read (run_count x.memory a n [] hx.image fits.3.found) fits.3.found there)
  bytes_alike (Trace word after) fits read b there = cc
  bytes_alike (Stop status) fits read b there = cc

  words_alike : (c : Change) → (i : ℕ) → ((past (depth (changed x c)) (entry_of x c)).traces && (length (changed x c).trace - 1 == i)) ≡ true → value (changed x c) (Word i) ≡ value (changed z c) (Word i)
  unfolding changed entry_of
  words_alike (Set s v after) i there = cc
  words_alike (Go after) i there = cc
  words_alike (Store a at size v after) i there = cc
  words_alike (Fetch a at size v s after) i there = cc
  words_alike (Call to) i there = cc
  words_alike Return i there = cc
  words_alike (Cell a from n after) i there = cc
  words_alike (Trace word after) i there =
      let count : length (x.trace ++ word ∷ []) ≡ length x.trace + 1 = length-append x.trace (word ∷ []) in
      let at : i ≡ length x.trace = last (length (x.trace ++ word ∷ [])) i there count in
      ap (λ k. slice_index (x.trace ++ word ∷ []) k) at
      ∙ get_or-append_seam x.trace word [] 0
      ∙ sym (get_or-append_seam z.trace word [] 0)
      ∙ sym (ap (λ k. slice_index (z.trace ++ word ∷ []) k) (at ∙ al.words))
    where
      last : (n i : ℕ) → (n - 1 == i) ≡ true → n ≡ length x.trace + 1 → i ≡ length x.trace
      last n i there count = grind (arith, nat_tests)
  words_alike (Stop status) i there = cc

  places_alike : (c : Change) → Fits x c → Fits z c → written (changed x c) (entry_of x c) ≡ written (changed z c) (entry_of z c)
  unfolding changed entry_of
  places_alike (Set s v after) fits also = ap (λ d. part.Register (depth_for d s) s ∷ []) (deep x z hx hz al)
  places_alike (Go after) fits also = refl
  places_alike (Store a at size v after) fits also =
      ap (λ n. part.Bytes a n ∷ [])
      (length-run x.memory.bytes at (size_len size) (fits_within x.memory hx.image a (size_len size) at fits.0.found)
      ∙ sym (length-run z.memory.bytes at (size_len size) (fits_within z.memory hz.image a (size_len size) at also.0.found)))
  places_alike (Fetch a at size v s after) fits also =
      ap (λ d. part.Register (depth_for d s) s ∷ part.Bytes a (length (run x.memory at (size_len size))) ∷ []) (deep x z hx hz al)
      ∙ ap (λ n. part.Register (depth_for (depth z) s) s ∷ part.Bytes a n ∷ [])
      (length-run x.memory.bytes at (size_len size) (fits_within x.memory hx.image a (size_len size) at fits.1.found)
      ∙ sym (length-run z.memory.bytes at (size_len size) (fits_within z.memory hz.image a (size_len size) at also.1.found)))
  places_alike (Call to) fits also =
      ap (λ d. part.Bytes (frame_base d) (length (entered x)) ∷ []) (pushed_depth x (x.pc + 1) ∙ ap (λ d. d + 1) (deep x z hx hz al) ∙ sym (pushed_depth z (z.pc + 1)))
      ∙ ap (λ n. part.Bytes (frame_base (length (pushed z (z.pc + 1)))) n ∷ [])
      (run_count x.memory (frame_base (depth x + 1)) frame_len [] hx.image fits.3 ∙ sym (run_count z.memory (frame_base (depth z + 1)) frame_len [] hz.image also.3))
  places_alike Return fits also = refl
  places_alike (Cell a from n after) fits also =
      ap (λ d. part.Register (depth_for d 0) 0 ∷ part.Bytes a (length (unwrap_or (run_at x.memory a n) [])) ∷ []) (deep x z hx hz al)
      ∙ ap (λ k. part.Register (depth_for (depth z) 0) 0 ∷ part.Bytes a k ∷ [])
      (run_count x.memory a n [] hx.image fits.3.found ∙ sym (run_count z.memory a n [] hz.image also.3.found))
  places_alike (Trace word after) fits also =
      ap (λ d. part.Register (depth_for d 0) 0 ∷ part.Word (length (x.trace ++ word ∷ []) - 1) ∷ []) (deep x z hx hz al)
      ∙ ap (λ n. part.Register (depth_for (depth z) 0) 0 ∷ part.Word (n - 1) ∷ [])
      (length-append x.trace (word ∷ []) ∙ ap (λ n. n + 1) al.words ∙ sym (length-append z.trace (word ∷ [])))
  places_alike (Stop status) fits also = refl

  pub wrote_alike : (c : Change) → Fits x c → Fits z c → ReadAlike x z c → WroteAlike (changed x c) (entry_of x c) (changed z c) (entry_of z c)
  wrote_alike c fits also read = record { places = places_alike c fits also; values = values }
    where
      values : (p : Place) → writes (changed x c) (entry_of x c) p ≡ true → value (changed x c) p ≡ value (changed z c) p
      values (Register e r) there =
          registers_alike x z hx hz al c fits read e r (register_there (depth (changed x c)) (length (changed x c).trace) (past (depth (changed x c)) (entry_of x c)).register (past (depth (changed x c)) (entry_of x c)).run (past (depth (changed x c)) (entry_of x c)).traces e r there)
      values (Byte a) there =
          bytes_alike c fits read a (bytes_there (depth (changed x c)) (length (changed x c).trace) (past (depth (changed x c)) (entry_of x c)).register (past (depth (changed x c)) (entry_of x c)).run (past (depth (changed x c)) (entry_of x c)).traces a there)
      values (Word i) there =
          words_alike c i (word_there (depth (changed x c)) (length (changed x c).trace) (past (depth (changed x c)) (entry_of x c)).register (past (depth (changed x c)) (entry_of x c)).run (past (depth (changed x c)) (entry_of x c)).traces i there)

  -- What a change reads of memory is among what the step reads.
  exchange_read : (same_number : Bool) (width : Width) (src a at value v : ℕ) → number_at x.memory at (size_len (size_of width)) ≡ number_at z.memory at (size_len (size_of width)) → ReadAlike x z (if same_number then replacement x atomics.CompareExchange width src a at value else Set 0 v (x.pc + 1))
  exchange_read true width src a at value v e = e
  exchange_read false width src a at value v e = tt

  atomic_at_read : (op : AtomicOp) (width : Width) (src a at v : ℕ) → number_at x.memory at (size_len (size_of width)) ≡ number_at z.memory at (size_len (size_of width)) → ReadAlike x z (atomic_at x op width src a at v)
  atomic_at_read atomics.CompareExchange width src a at v e =
      exchange_read (v == low_bits x (bits_of width) 0) width src a at (low_bits x (bits_of width) src) v e
  atomic_at_read atomics.Add width src a at v e = tt
  atomic_at_read atomics.Or width src a at v e = tt
  atomic_at_read atomics.And width src a at v e = tt
  atomic_at_read atomics.Xor width src a at v e = tt
  atomic_at_read atomics.FetchAdd width src a at v e = e
  atomic_at_read atomics.FetchOr width src a at v e = e
  atomic_at_read atomics.FetchAnd width src a at v e = e
  atomic_at_read atomics.FetchXor width src a at v e = e
  atomic_at_read atomics.Exchange width src a at v e = e

  atomic_read : (op : AtomicOp) (width : Width) (src a : ℕ) (found : Option ℕ) → accessible x a (size_len (size_of width)) ≡ found → Agree (bytes_from a (size_len (size_of width))) x z → ReadAlike x z (option_map_or (λ at. atomic_at x op width src a at (number_at x.memory at (size_len (size_of width)))) found (fault a))
  atomic_read op width src a None e agree = tt
  atomic_read op width src a (Some at) e agree =
      atomic_at_read op width src a at (number_at x.memory at (size_len (size_of width))) (number_same x z hx hz al a (size_len (size_of width)) at e agree)

  load_read : (f : ℕ → ℕ) (a dst after : ℕ) (found : Option ℕ) → ReadAlike x z (option_map_or (λ at. Set dst (f at) after) found (fault a))
  load_read f a dst after None = tt
  load_read f a dst after (Some at) = tt

  store_read : (size : Size) (a v after : ℕ) (found : Option ℕ) → ReadAlike x z (option_map_or (λ at. Store a at size v after) found (fault a))
  store_read size a v after None = tt
  store_read size a v after (Some at) = tt

  -- Helpers: an update reads the value's bytes where it writes them.
  abbrev CopiesAlike : Change → Type 0
  CopiesAlike c = AgreeEach (of_value x c) x z → ReadAlike x z c

  copy_read : (a n : ℕ) (found : Option ℕ) → accessible x (register x 3) n ≡ found → CopiesAlike (option_map_or (λ from. Cell a from n (x.pc + 1)) found (fault (register x 3)))
  copy_read a n None e each = tt
  copy_read a n (Some from) e each = run_same x z hx hz al (register x 3) n from (index_there x z hx hz al (register x 3) n from e) each.0

  update_read : (a n : ℕ) (more one over : Bool) → CopiesAlike (if more then answer x (2 ^ 64 - 22) else if one then answer x (2 ^ 64 - 17) else if over then answer x (2 ^ 64 - 7) else access x (register x 3) n (λ from. Cell a from n (x.pc + 1)))
  update_read a n true one over each = tt
  update_read a n false true over each = tt
  update_read a n false false true each = tt
  update_read a n false false false each = copy_read a n (accessible x (register x 3) n) refl each

  key_read : (f : ℕ → MapShape → ℕ → Change) (n : ℕ) (found : Option MapShape) → ((i : ℕ) (shape : MapShape) (key : ℕ) → CopiesAlike (f i shape key)) → CopiesAlike (option_map_or (λ shape. access x (register x 2) 4 (λ at. f (n - token_base) shape (number_at x.memory at 4))) found (Stop (Faulted (Token n))))
  key_read f n None each value = tt
  key_read f n (Some shape) each value = by_index (accessible x (register x 2) 4) value
    where
      by_index : (found : Option ℕ) → CopiesAlike (option_map_or (λ at. f (n - token_base) shape (number_at x.memory at 4)) found (fault (register x 2)))
      by_index None value = tt
      by_index (Some at) value = each (n - token_base) shape (number_at x.memory at 4) value

  trace_read : (room : Bool) → ReadAlike x z (if room then Trace (register x 1) (x.pc + 1) else answer x (2 ^ 64 - 1))
  trace_read true = tt
  trace_read false = tt

  update_reads : CopiesAlike (update x)
  update_reads =
      key_read (update_of x) (register x 1) (map_shape x (register x 1)) (λ i shape key. update_read (cell_address i key shape.value_size) shape.value_size (nat_lt 2 (register x 4)) (register x 4 == 1) (nat_le shape.entries key))

  help_read : (o : Option Helper) (c : Change) → c ≡ option_map_or (helper x) o (Stop x.status) → AgreeEach (option_map_or (of_helper x c) o []) x z → ReadAlike x z (option_map_or (helper x) o (Stop x.status))
  help_read None c e each = tt
  help_read (Some named.Lookup) c e each = looked (register x 1) (map_shape x (register x 1))
    where
      found_read : (shape : MapShape) (n : ℕ) (found : Option ℕ) → ReadAlike x z (option_map_or (λ at. answer x (if nat_lt (number_at x.memory at 4) shape.entries then cell_address (n - token_base) (number_at x.memory at 4) shape.value_size else 0)) found (fault (register x 2)))
      found_read shape n None = tt
      found_read shape n (Some at) = tt

      looked : (n : ℕ) (found : Option MapShape) → ReadAlike x z (option_map_or (λ shape. access x (register x 2) 4 (λ at. answer x (if nat_lt (number_at x.memory at 4) shape.entries then cell_address (n - token_base) (number_at x.memory at 4) shape.value_size else 0))) found (Stop (Faulted (Token n))))
      looked n None = tt
      looked n (Some shape) = found_read shape n (accessible x (register x 2) 4)
  help_read (Some named.Update) c e each =
      let key = split_each (of_key x) (of_register x 4 ++ of_value x c) x z each in
      let flags = split_each (of_register x 4) (of_value x c) x z key.1 in
      update_reads (subst (λ (d : Change). AgreeEach (of_value x d) x z) e flags.1)
  help_read (Some named.Trace) c e each = trace_read (nat_lt (length x.trace) trace_limit)

  call_read : (room : Bool) (to : ℕ) → ReadAlike x z (if room then Call to else Stop (Faulted Depth))
  call_read true to = tt
  call_read false to = tt

  exit_read : (outermost : Bool) → ReadAlike x z (if outermost then Stop Exited else Return)
  exit_read true = tt
  exit_read false = tt

  pub change_read : (i : Insn) → change x ≡ change_by x i → AgreeEach (reads_by x i) x z → ReadAlike x z (change_by x i)
  unfolding change_by
  change_read (insn.CallHelper number) e each = help_read (helper_of number) (change x) e each
  change_read (insn.CallLocal distance) e each = call_read _ _
  change_read insn.Exit e each = exit_read (depth x == 0)
  change_read (insn.Load (Plain size) dst from) e each = load_read _ _ dst _ (accessible x (address x from) (size_len size))
  change_read (insn.Load (Signed size) dst from) e each = load_read _ _ dst _ (accessible x (address x from) (signed_len size))
  change_read (insn.Store size to s) e each = store_read size _ _ _ (accessible x (address x to) (size_len size))
  change_read (insn.Atomic op width to src) e each =
      let two = split_each (of_compared x op) (of_register x src ++ part.Bytes (address x to) (size_len (size_of width)) ∷ []) x z each in
      let more = split_each (of_register x src) (part.Bytes (address x to) (size_len (size_of width)) ∷ []) x z two.1 in
      atomic_read op width src (address x to) (accessible x (address x to) (size_len (size_of width))) refl more.1.0
  change_read _ e each = tt
