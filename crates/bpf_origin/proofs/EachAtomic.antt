-- The law that each read matters, of atomic operations.
use Rattle.std.proofs.Common.{◌≡◌, ◌≢◌, ◌<◌, ◌⊎◌, ℕ, zero, suc, ◌+◌, ◌*◌, ◌%◌, ◌^◌, [], ◌∷◌, ◌++◌, length, length-append, flat_map, Bool, true, false, Some, refl, sym, ap, subst, ◌∙◌, inl, inr, arith}
use Rattle.std.specs.Prelude.{◌==◌, ◌||◌, slice_get, slice_index, if◌then◌else◌}
use Rattle.std.proofs.lemmas.Bool.Decides.{nat_tests}
use Rattle.byteorder.specs.Endian.{little_bytes}
use Rattle.bpf_isa.specs.Programs.{insn_at}
use Rattle.bpf_isa.specs.Sizes.{size_len}
use Rattle.bpf_isa.specs.declared.instruction.Address.{Address}
use Rattle.bpf_isa.specs.declared.instruction.AtomicOp.{AtomicOp}
use Rattle.bpf_isa.specs.declared.instruction.AtomicOp.TheVariants as atomics
use Rattle.bpf_isa.specs.declared.instruction.Insn.{Insn}
use Rattle.bpf_isa.specs.declared.instruction.Insn.TheVariants as insn
use Rattle.bpf_isa.specs.declared.instruction.Width.{Width}
use Rattle.bpf_isa.specs.declared.instruction.Width.TheVariants as widths
use Rattle.bpf_entries.specs.Status.{has_ended}
use Rattle.bpf_entries.specs.declared.status.Fault.TheVariants.{Access}
use Rattle.bpf_entries.specs.declared.status.Status.TheVariants.{Faulted}
use Rattle.bpf_steps.specs.declared.change.Change.TheVariants.{Set, Store, Fetch, Stop}
use Rattle.bpf_steps.specs.Access.{low_bits, address, access}
use Rattle.bpf_steps.specs.Atomics.{combined, size_of, atomic_at}
use Rattle.bpf_machine.specs.Edits.{with_run}
use Rattle.bpf_steps.specs.Next.{change_by}
use Rattle.bpf_steps.specs.Numbers.{bits_of}
use Rattle.bpf_steps.specs.Platform.{frame_base}
use Rattle.bpf_steps.specs.Regions.{index_of, number_at}
use Rattle.bpf_steps.specs.State.{State, IsState, register, depth}
use Rattle.bpf_origin.specs.declared.place.Place.TheVariants.{Register, Byte}
use Rattle.bpf_origin.specs.declared.place.Part.TheVariants as part
use Rattle.bpf_origin.specs.Matters.{Matters, places}
use Rattle.bpf_origin.specs.Places.{depth_for, same, bytes_from, places_of}
use Rattle.bpf_origin.specs.Wanted.{is_in}
use Rattle.bpf_origin.specs.Reads.{of_register, of_compared, reads_by, bases_by}
use Rattle.bpf_origin.proofs.Mattering.{with_register, register_here, register_else, one_small, Ready, ready, ready_register, ready_run, ready_cleared, differ_register, differ_byte, Holds, number_held, cleared_first, byte_found, cleared_holds, set_holds}
use Rattle.bpf_origin.proofs.Unlike.{fetch_unlike, fetch_alike, store_alike, exchange_alike, some_bytes}
use Rattle.bpf_origin.proofs.EachRead.{base_for, base_small, address_is, access_goes, access_stops, few_bytes, of_low, told_in, none_of, no_byte, other_register, byte_told, count_bytes, no_register, deep_both, by_changes, by_stop, two, ready_two, two_first, two_second}

-- A byte of what is stored.
abbrev stored_byte : Width → ℕ → ℕ → ℕ
stored_byte width j n = slice_index (little_bytes (size_len (size_of width)) n) j

source_tells : (op : AtomicOp) (width : Width) → stored_byte width 0 (combined op (bits_of width) (2 * 256 ^ 0) (0 % 2 ^ bits_of width)) ≢ stored_byte width 0 (combined op (bits_of width) (2 * 256 ^ 0) (3 % 2 ^ bits_of width))
source_tells op width = grind (arith, nat_tests)

-- What byte j of memory tells, beside a source with a bit of it.
abbrev MemoryTells : AtomicOp → Width → ℕ → Type 0
MemoryTells op width j =
    stored_byte width j (combined op (bits_of width) (0 * 256 ^ j) (2 * 256 ^ j % 2 ^ bits_of width))
    ≢ stored_byte width j (combined op (bits_of width) (3 * 256 ^ j) (2 * 256 ^ j % 2 ^ bits_of width))

memory_tells : (op : AtomicOp) (width : Width) (j : ℕ) → op ≢ atomics.Exchange → op ≢ atomics.CompareExchange → j < size_len (size_of width) → MemoryTells op width j
memory_tells op width zero one other low = grind (arith, nat_tests)
memory_tells op width (suc zero) one other low = grind (arith, nat_tests)
memory_tells op width (suc (suc zero)) one other low = grind (arith, nat_tests)
memory_tells op width (suc (suc (suc zero))) one other low = grind (arith, nat_tests)
memory_tells op width (suc (suc (suc (suc zero)))) one other low = grind (arith, nat_tests)
memory_tells op width (suc (suc (suc (suc (suc zero))))) one other low = grind (arith, nat_tests)
memory_tells op width (suc (suc (suc (suc (suc (suc zero)))))) one other low = grind (arith, nat_tests)
memory_tells op width (suc (suc (suc (suc (suc (suc (suc zero))))))) one other low = grind (arith, nat_tests)
memory_tells op width (suc (suc (suc (suc (suc (suc (suc (suc j)))))))) one other low = absurd (omega (arith, low, few_bytes (size_of width)))

small_source : (j : ℕ) → j < 8 → 2 * 256 ^ j < 2 ^ 64
small_source zero low = omega arith
small_source (suc zero) low = omega arith
small_source (suc (suc zero)) low = omega arith
small_source (suc (suc (suc zero))) low = omega arith
small_source (suc (suc (suc (suc zero)))) low = omega arith
small_source (suc (suc (suc (suc (suc zero))))) low = omega arith
small_source (suc (suc (suc (suc (suc (suc zero)))))) low = omega arith
small_source (suc (suc (suc (suc (suc (suc (suc zero))))))) low = omega arith
small_source (suc (suc (suc (suc (suc (suc (suc (suc j)))))))) low = absurd (omega (arith, low))

held_apart : (j : ℕ) → j < 8 → 0 * 256 ^ j ≢ 3 * 256 ^ j
held_apart zero low = grind (arith)
held_apart (suc zero) low = grind (arith)
held_apart (suc (suc zero)) low = grind (arith)
held_apart (suc (suc (suc zero))) low = grind (arith)
held_apart (suc (suc (suc (suc zero)))) low = grind (arith)
held_apart (suc (suc (suc (suc (suc zero))))) low = grind (arith)
held_apart (suc (suc (suc (suc (suc (suc zero)))))) low = grind (arith)
held_apart (suc (suc (suc (suc (suc (suc (suc zero))))))) low = grind (arith)
held_apart (suc (suc (suc (suc (suc (suc (suc (suc j)))))))) low = absurd (omega (arith, low))

-- Operations that store alone, and those that fetch what stood there into the source.
record Stores (op : AtomicOp) : Type 0 where
  does : (s : State) (width : Width) (src a at v : ℕ) → atomic_at s op width src a at v ≡ Store a at (size_of width) (combined op (bits_of width) v (low_bits s (bits_of width) src)) (s.pc + 1)
  plain : (s : State) → of_compared s op ≡ []
  tells : (width : Width) (j : ℕ) → j < size_len (size_of width) → MemoryTells op width j

record Fetches (op : AtomicOp) : Type 0 where
  does : (s : State) (width : Width) (src a at v : ℕ) → atomic_at s op width src a at v ≡ Fetch a at (size_of width) (combined op (bits_of width) v (low_bits s (bits_of width) src)) src (s.pc + 1)
  plain : (s : State) → of_compared s op ≡ []

-- Where the step of an atomic operation goes.
atomic_is : (s : State) (op : AtomicOp) (width : Width) (to : Address) (src j v : ℕ) → IsState s → register s to.base ≡ base_for (frame_base 0) to.offset → Holds s.memory j v → j < size_len (size_of width) → (at : ℕ) × (index_of s.memory (frame_base 0) (size_len (size_of width)) ≡ Some at) × (number_at s.memory at (size_len (size_of width)) ≡ v * 256 ^ j) × (change_by s (insn.Atomic op width to src) ≡ atomic_at s op width src (frame_base 0) at (v * 256 ^ j))
unfolding change_by
atomic_is s op width to src j v is e h low =
    let n = size_len (size_of width) in
    let goes = access_goes s n (λ at. atomic_at s op width src (frame_base 0) at (number_at s.memory at n)) is (some_bytes (size_of width)) (few_bytes (size_of width)) in
    let held = number_held s.memory j v n goes.0 is.image h low (few_bytes (size_of width)) goes.1 in (
      goes.0,
      goes.1,
      held,
      ap (λ a. access s a n (λ at. atomic_at s op width src a at (number_at s.memory at n))) (address_is s to (frame_base 0) (omega arith) e)
          ∙ goes.2
          ∙ ap (atomic_at s op width src (frame_base 0) goes.0) held,
    )

atomic_stops : (s : State) (op : AtomicOp) (width : Width) (to : Address) (src : ℕ) → register s to.base ≡ base_for 0 to.offset → change_by s (insn.Atomic op width to src) ≡ Stop (Faulted (Access 0))
unfolding change_by
atomic_stops s op width to src e =
    ap (λ a. access s a (size_len (size_of width)) (λ at. atomic_at s op width src a at (number_at s.memory at (size_len (size_of width))))) (address_is s to 0 (omega arith) e)
    ∙ access_stops s (size_len (size_of width)) _

-- A state with an address, a source, r0 and a number at that address.
record Prepared (x : State) (i : Insn) (to : Address) (src c n j v : ℕ) : Type 0 where
  s : State
  t : Ready x i s
  base : register s to.base ≡ base_for (frame_base 0) to.offset
  zero : register s 0 ≡ c
  from : register s src ≡ n
  held : Holds s.memory j v

prepared : (x : State) (i : Insn) (to : Address) (src c n j v : ℕ) → Ready x i x → 0 < to.base → to.base < 10 → 0 < src → src < 10 → src ≢ to.base → c < 2 ^ 64 → n < 2 ^ 64 → j < 8 → v < 256 → Prepared x i to src c n j v
prepared x i to src c n j v t some low filled within apart compared small inside few =
    let base = base_for (frame_base 0) to.offset in
    let z = cleared_first x in
    let k = ready_cleared x i x t in
    let found = byte_found z j k.is inside in
    let m = with_run z (frame_base 0 + j) (v ∷ []) in
    let l = ready_run x i z (frame_base 0 + j) found.0 (v ∷ []) found.1 (one_small v few) k in
    let o = with_register m 0 c in
    let q = ready_register x i m 0 c compared l in
    let other : to.base ≢ src = λ e. apart (sym e) in
    record {
      s = two o to.base base src n;
      t = ready_two x i o to.base base src n (base_small (frame_base 0) to.offset) small q;
      base = two_first o to.base base src n q.is low other;
      zero = register_else (with_register o to.base base) src n 0 (λ e. absurd (omega (arith, e, filled))) ∙ register_else o to.base base 0 (λ e. absurd (omega (arith, e, some))) ∙ register_here m 0 c l.is (omega arith);
      from = two_second o to.base base src n q.is (base_small (frame_base 0) to.offset) within;
      held = set_holds z j found.0 0 v inside k.is found.1 (cleared_holds x j inside t.is);
    }

module _ (x : State) (hx : IsState x) (on : has_ended x.status ≡ false) (op : AtomicOp) (width : Width) (to : Address) (src : ℕ) (here : insn_at x.program x.pc ≡ Some (insn.Atomic op width to src)) (some : 0 < to.base) (low : to.base < 10) (filled : 0 < src) (within : src < 10) (apart : src ≢ to.base) where
  abbrev atom : Insn
  atom = insn.Atomic op width to src

  abbrev len : ℕ
  len = size_len (size_of width)

  w : ℕ
  w = bits_of width

  made : (c n j v : ℕ) → c < 2 ^ 64 → n < 2 ^ 64 → j < 8 → v < 256 → Prepared x atom to src c n j v
  made c n j v compared small inside few = prepared x atom to src c n j v (ready x atom hx on here) some low filled within apart compared small inside few

  other : to.base ≢ src
  other e = apart (sym e)

  -- The parts that such an operation reads, which compares with no register.
  plain_parts : ((s : State) → of_compared s op ≡ []) → (s : State) → reads_by s atom ≡ part.Register (depth_for (depth s) src) src ∷ (part.Bytes (address s to) len ∷ [])
  plain_parts plain s =
      ap (λ ps. ps ++ (of_register s src ++ (part.Bytes (address s to) len ∷ []))) (plain s)
      ∙ ap (λ ps. ps ++ (part.Bytes (address s to) len ∷ [])) (of_low s src within)

  plain_base : ((s : State) → of_compared s op ≡ []) → (s : State) → is_in (Register (depth_for (depth s) to.base) to.base) (places reads_by s atom) ≡ false
  plain_base plain s =
      let d = depth_for (depth s) to.base in
      ap (λ ps. is_in (Register d to.base) (flat_map places_of ps)) (plain_parts plain s)
      ∙ ap (λ b. b || is_in (Register d to.base) (bytes_from (address s to) len ++ [])) (other_register d (depth_for (depth s) src) to.base src apart)
      ∙ no_register (address s to) len d to.base []

  memory_told : ((s : State) → of_compared s op ≡ []) → (s : State) (j : ℕ) → address s to ≡ frame_base 0 → j < len → slice_get (places reads_by s atom) (suc j) ≡ Some (Byte (frame_base 0 + j))
  memory_told plain s j at low =
      ap (λ ps. slice_get (flat_map places_of ps) (suc j)) (plain_parts plain s)
      ∙ byte_told (address s to) (frame_base 0) len j [] at low (omega (arith, low, few_bytes (size_of width)))

  -- What stores.
  store_source : Stores op → Matters reads_by bases_by atom 0 x
  store_source stores =
      let p = made 0 0 0 2 (omega arith) (omega arith) (omega arith) (omega arith) in
      let b = with_register p.s src 3 in
      let u = ready_register x atom p.s src 3 (omega arith) p.t in
      let one = atomic_is p.s op width to src 0 2 p.t.is p.base p.held (some_bytes (size_of width)) in
      let second = atomic_is b op width to src 0 2 u.is (register_else p.s src 3 to.base other ∙ p.base) p.held (some_bytes (size_of width)) in
      let differ = differ_register x atom reads_by bases_by 0 p.s src 3 within (omega arith) p.t (told_in (reads_by p.s atom) _ 0 _ src (plain_parts stores.plain p.s) refl) (none_of p.s to.base (depth_for (depth p.s) src) src other) in
      by_changes x atom reads_by bases_by 0 p.s b differ p.t u
      (Store (frame_base 0) one.0 (size_of width) (combined op (bits_of width) (2 * 256 ^ 0) (0 % 2 ^ bits_of width)) (p.s.pc + 1))
      (Store (frame_base 0) second.0 (size_of width) (combined op (bits_of width) (2 * 256 ^ 0) (3 % 2 ^ bits_of width)) (b.pc + 1))
      (one.3 ∙ stores.does p.s width src (frame_base 0) one.0 (2 * 256 ^ 0) ∙ ap (λ n. Store (frame_base 0) one.0 (size_of width) (combined op (bits_of width) (2 * 256 ^ 0) (n % 2 ^ bits_of width)) (p.s.pc + 1)) p.from)
      (second.3 ∙ stores.does b width src (frame_base 0) second.0 (2 * 256 ^ 0) ∙ ap (λ n. Store (frame_base 0) second.0 (size_of width) (combined op (bits_of width) (2 * 256 ^ 0) (n % 2 ^ bits_of width)) (b.pc + 1)) (register_here p.s src 3 p.t.is within))
      (λ alike. source_tells op width (store_alike p.s b 0 one.0 second.0 _ _ (p.s.pc + 1) (b.pc + 1) (size_of width) (some_bytes (size_of width)) p.t.is u.is one.1 second.1 alike))

  store_memory : Stores op → (j : ℕ) → j < len → Matters reads_by bases_by atom (suc j) x
  store_memory stores j low =
      let few : j < 8 = omega (arith, low, few_bytes (size_of width)) in
      let n = 2 * 256 ^ j in
      let p = made 0 n j 0 (omega arith) (small_source j few) few (omega arith) in
      let found = byte_found p.s j p.t.is few in
      let b = with_run p.s (frame_base 0 + j) (3 ∷ []) in
      let u = ready_run x atom p.s (frame_base 0 + j) found.0 (3 ∷ []) found.1 (one_small 3 (omega arith)) p.t in
      let one = atomic_is p.s op width to src j 0 p.t.is p.base p.held low in
      let second = atomic_is b op width to src j 3 u.is p.base (set_holds p.s j found.0 0 3 few p.t.is found.1 p.held) low in
      let differ = differ_byte x atom reads_by bases_by (suc j) p.s (frame_base 0 + j) found.0 3 found.1 (omega arith) p.t (memory_told stores.plain p.s j (address_is p.s to (frame_base 0) (omega arith) p.base) low) (no_byte p.s to.base (frame_base 0 + j)) in
      by_changes x atom reads_by bases_by (suc j) p.s b differ p.t u
      (Store (frame_base 0) one.0 (size_of width) (combined op (bits_of width) (0 * 256 ^ j) (n % 2 ^ bits_of width)) (p.s.pc + 1))
      (Store (frame_base 0) second.0 (size_of width) (combined op (bits_of width) (3 * 256 ^ j) (n % 2 ^ bits_of width)) (b.pc + 1))
      (one.3 ∙ stores.does p.s width src (frame_base 0) one.0 (0 * 256 ^ j) ∙ ap (λ k. Store (frame_base 0) one.0 (size_of width) (combined op (bits_of width) (0 * 256 ^ j) (k % 2 ^ bits_of width)) (p.s.pc + 1)) p.from)
      (second.3 ∙ stores.does b width src (frame_base 0) second.0 (3 * 256 ^ j) ∙ ap (λ k. Store (frame_base 0) second.0 (size_of width) (combined op (bits_of width) (3 * 256 ^ j) (k % 2 ^ bits_of width)) (b.pc + 1)) p.from)
      (λ alike. stores.tells width j low (store_alike p.s b j one.0 second.0 _ _ (p.s.pc + 1) (b.pc + 1) (size_of width) low p.t.is u.is one.1 second.1 alike))

  store_address : Stores op → Matters bases_by reads_by atom 0 x
  store_address stores =
      let p = made 0 2 0 0 (omega arith) (omega arith) (omega arith) (omega arith) in
      let none = base_for 0 to.offset in
      let b = with_register p.s to.base none in
      let u = ready_register x atom p.s to.base none (base_small 0 to.offset) p.t in
      let one = atomic_is p.s op width to src 0 0 p.t.is p.base p.held (some_bytes (size_of width)) in
      let differ = differ_register x atom bases_by reads_by 0 p.s to.base none low (base_small 0 to.offset) p.t (told_in (bases_by p.s atom) _ 0 _ to.base (of_low p.s to.base low) refl) (plain_base stores.plain p.s) in
      by_stop x atom bases_by reads_by 0 p.s b differ p.t u
      (Store (frame_base 0) one.0 (size_of width) (combined op (bits_of width) (0 * 256 ^ 0) (low_bits p.s (bits_of width) src)) (p.s.pc + 1)) (Faulted (Access 0)) tt
      (one.3 ∙ stores.does p.s width src (frame_base 0) one.0 (0 * 256 ^ 0))
      (atomic_stops b op width to src (register_here p.s to.base none p.t.is low))

  -- What fetches.
  fetch_source : Fetches op → Matters reads_by bases_by atom 0 x
  fetch_source fetches =
      let p = made 0 0 0 2 (omega arith) (omega arith) (omega arith) (omega arith) in
      let b = with_register p.s src 3 in
      let u = ready_register x atom p.s src 3 (omega arith) p.t in
      let one = atomic_is p.s op width to src 0 2 p.t.is p.base p.held (some_bytes (size_of width)) in
      let second = atomic_is b op width to src 0 2 u.is (register_else p.s src 3 to.base other ∙ p.base) p.held (some_bytes (size_of width)) in
      let differ = differ_register x atom reads_by bases_by 0 p.s src 3 within (omega arith) p.t (told_in (reads_by p.s atom) _ 0 _ src (plain_parts fetches.plain p.s) refl) (none_of p.s to.base (depth_for (depth p.s) src) src other) in
      by_changes x atom reads_by bases_by 0 p.s b differ p.t u
      (Fetch (frame_base 0) one.0 (size_of width) (combined op (bits_of width) (2 * 256 ^ 0) (0 % 2 ^ bits_of width)) src (p.s.pc + 1))
      (Fetch (frame_base 0) second.0 (size_of width) (combined op (bits_of width) (2 * 256 ^ 0) (3 % 2 ^ bits_of width)) src (b.pc + 1))
      (one.3 ∙ fetches.does p.s width src (frame_base 0) one.0 (2 * 256 ^ 0) ∙ ap (λ n. Fetch (frame_base 0) one.0 (size_of width) (combined op (bits_of width) (2 * 256 ^ 0) (n % 2 ^ bits_of width)) src (p.s.pc + 1)) p.from)
      (second.3 ∙ fetches.does b width src (frame_base 0) second.0 (2 * 256 ^ 0) ∙ ap (λ n. Fetch (frame_base 0) second.0 (size_of width) (combined op (bits_of width) (2 * 256 ^ 0) (n % 2 ^ bits_of width)) src (b.pc + 1)) (register_here p.s src 3 p.t.is within))
      (λ alike. source_tells op width (exchange_alike p.s b 0 one.0 second.0 _ _ src (p.s.pc + 1) (b.pc + 1) (size_of width) (some_bytes (size_of width)) p.t.is u.is one.1 second.1 alike))

  fetch_memory : Fetches op → (j : ℕ) → j < len → Matters reads_by bases_by atom (suc j) x
  fetch_memory fetches j low =
      let few : j < 8 = omega (arith, low, few_bytes (size_of width)) in
      let p = made 0 2 j 0 (omega arith) (omega arith) few (omega arith) in
      let found = byte_found p.s j p.t.is few in
      let b = with_run p.s (frame_base 0 + j) (3 ∷ []) in
      let u = ready_run x atom p.s (frame_base 0 + j) found.0 (3 ∷ []) found.1 (one_small 3 (omega arith)) p.t in
      let one = atomic_is p.s op width to src j 0 p.t.is p.base p.held low in
      let second = atomic_is b op width to src j 3 u.is p.base (set_holds p.s j found.0 0 3 few p.t.is found.1 p.held) low in
      let differ = differ_byte x atom reads_by bases_by (suc j) p.s (frame_base 0 + j) found.0 3 found.1 (omega arith) p.t (memory_told fetches.plain p.s j (address_is p.s to (frame_base 0) (omega arith) p.base) low) (no_byte p.s to.base (frame_base 0 + j)) in
      by_changes x atom reads_by bases_by (suc j) p.s b differ p.t u
      (Fetch (frame_base 0) one.0 (size_of width) (combined op (bits_of width) (0 * 256 ^ j) (low_bits p.s (bits_of width) src)) src (p.s.pc + 1))
      (Fetch (frame_base 0) second.0 (size_of width) (combined op (bits_of width) (3 * 256 ^ j) (low_bits b (bits_of width) src)) src (b.pc + 1))
      (one.3 ∙ fetches.does p.s width src (frame_base 0) one.0 (0 * 256 ^ j))
      (second.3 ∙ fetches.does b width src (frame_base 0) second.0 (3 * 256 ^ j))
      (λ alike. held_apart j few (sym one.2 ∙ fetch_alike p.s b p.t.is u.is (deep_both x atom reads_by bases_by (suc j) p.s b differ p.t u) (frame_base 0) (frame_base 0) one.0 second.0 _ _ src (p.s.pc + 1) (b.pc + 1) (size_of width) within alike ∙ second.2))

  fetch_address : Fetches op → Matters bases_by reads_by atom 0 x
  fetch_address fetches =
      let p = made 0 2 0 0 (omega arith) (omega arith) (omega arith) (omega arith) in
      let none = base_for 0 to.offset in
      let b = with_register p.s to.base none in
      let u = ready_register x atom p.s to.base none (base_small 0 to.offset) p.t in
      let one = atomic_is p.s op width to src 0 0 p.t.is p.base p.held (some_bytes (size_of width)) in
      let differ = differ_register x atom bases_by reads_by 0 p.s to.base none low (base_small 0 to.offset) p.t (told_in (bases_by p.s atom) _ 0 _ to.base (of_low p.s to.base low) refl) (plain_base fetches.plain p.s) in
      by_stop x atom bases_by reads_by 0 p.s b differ p.t u
      (Fetch (frame_base 0) one.0 (size_of width) (combined op (bits_of width) (0 * 256 ^ 0) (low_bits p.s (bits_of width) src)) src (p.s.pc + 1)) (Faulted (Access 0)) tt
      (one.3 ∙ fetches.does p.s width src (frame_base 0) one.0 (0 * 256 ^ 0))
      (atomic_stops b op width to src (register_here p.s to.base none p.t.is low))

-- A compare-exchange stores the source where the number that stood there is r0, and else fetches that number alone.
equal_low : (width : Width) (n : ℕ) → n < 2 ^ 32 → (n == n % 2 ^ bits_of width) ≡ true
equal_low widths.Bits32 n low = grind (arith, nat_tests)
equal_low widths.Bits64 n low = grind (arith, nat_tests)

three_not_zero : (width : Width) (j : ℕ) → j < 8 → (3 * 256 ^ j == 0 % 2 ^ bits_of width) ≡ false
three_not_zero width zero low = grind (arith, nat_tests)
three_not_zero width (suc zero) low = grind (arith, nat_tests)
three_not_zero width (suc (suc zero)) low = grind (arith, nat_tests)
three_not_zero width (suc (suc (suc zero))) low = grind (arith, nat_tests)
three_not_zero width (suc (suc (suc (suc zero)))) low = grind (arith, nat_tests)
three_not_zero width (suc (suc (suc (suc (suc zero))))) low = grind (arith, nat_tests)
three_not_zero width (suc (suc (suc (suc (suc (suc zero)))))) low = grind (arith, nat_tests)
three_not_zero width (suc (suc (suc (suc (suc (suc (suc zero))))))) low = grind (arith, nat_tests)
three_not_zero width (suc (suc (suc (suc (suc (suc (suc (suc j)))))))) low = absurd (omega (arith, low))

nothing_there : (width : Width) (j : ℕ) → (0 * 256 ^ j == 0 % 2 ^ bits_of width) ≡ true
nothing_there width j = grind (arith, nat_tests)

zero_not_three : (width : Width) → (0 == 3 % 2 ^ bits_of width) ≡ false
zero_not_three width = grind (arith, nat_tests)

compared_is : (s : State) (width : Width) (src a at v c : ℕ) (test : Bool) → register s 0 ≡ c → (v == c % 2 ^ bits_of width) ≡ test → atomic_at s atomics.CompareExchange width src a at v ≡ (if test then Fetch a at (size_of width) (low_bits s (bits_of width) src) 0 (s.pc + 1) else Set 0 v (s.pc + 1))
compared_is s width src a at v c test e f =
    ap (λ k. if v == k % 2 ^ bits_of width then Fetch a at (size_of width) (low_bits s (bits_of width) src) 0 (s.pc + 1) else Set 0 v (s.pc + 1)) e
    ∙ ap (λ b. if b then Fetch a at (size_of width) (low_bits s (bits_of width) src) 0 (s.pc + 1) else Set 0 v (s.pc + 1)) f

module _ (x : State) (hx : IsState x) (on : has_ended x.status ≡ false) (width : Width) (to : Address) (src : ℕ) (here : insn_at x.program x.pc ≡ Some (insn.Atomic atomics.CompareExchange width to src)) (some : 0 < to.base) (low : to.base < 10) (filled : 0 < src) (within : src < 10) (apart : src ≢ to.base) where
  abbrev exchange : Insn
  exchange = insn.Atomic atomics.CompareExchange width to src

  abbrev whole : ℕ
  whole = size_len (size_of width)

  held_at : (c n j v : ℕ) → c < 2 ^ 64 → n < 2 ^ 64 → j < 8 → v < 256 → Prepared x exchange to src c n j v
  held_at c n j v compared small inside few = prepared x exchange to src c n j v (ready x exchange hx on here) some low filled within apart compared small inside few

  not_source : to.base ≢ src
  not_source e = apart (sym e)

  not_zero : to.base ≢ 0
  not_zero e = absurd (omega (arith, some, e))

  zero_not : 0 ≢ to.base
  zero_not e = not_zero (sym e)

  source_not : 0 ≢ src
  source_not e = absurd (omega (arith, filled, e))

  parts : (s : State) → reads_by s exchange ≡ part.Register 0 0 ∷ (part.Register (depth_for (depth s) src) src ∷ (part.Bytes (address s to) whole ∷ []))
  parts s = ap (λ ps. part.Register 0 0 ∷ (ps ++ (part.Bytes (address s to) whole ∷ []))) (of_low s src within)

  exchange_zero : Matters reads_by bases_by exchange 0 x
  exchange_zero =
      let p = held_at 0 2 0 0 (omega arith) (omega arith) (omega arith) (omega arith) in
      let b = with_register p.s 0 3 in
      let u = ready_register x exchange p.s 0 3 (omega arith) p.t in
      let one = atomic_is p.s atomics.CompareExchange width to src 0 0 p.t.is p.base p.held (some_bytes (size_of width)) in
      let second = atomic_is b atomics.CompareExchange width to src 0 0 u.is (register_else p.s 0 3 to.base not_zero ∙ p.base) p.held (some_bytes (size_of width)) in
      let differ = differ_register x exchange reads_by bases_by 0 p.s 0 3 (omega arith) (omega arith) p.t (told_in (reads_by p.s exchange) _ 0 _ 0 (parts p.s) refl) (none_of p.s to.base (depth_for (depth p.s) 0) 0 not_zero) in
      by_changes x exchange reads_by bases_by 0 p.s b differ p.t u
      (Fetch (frame_base 0) one.0 (size_of width) (low_bits p.s (bits_of width) src) 0 (p.s.pc + 1)) (Set 0 0 (b.pc + 1))
      (one.3 ∙ compared_is p.s width src (frame_base 0) one.0 0 0 true p.zero (equal_low width 0 (omega arith)))
      (second.3 ∙ compared_is b width src (frame_base 0) second.0 0 3 false (register_here p.s 0 3 p.t.is (omega arith)) (zero_not_three width))
      (fetch_unlike p.s b (frame_base 0) one.0 _ 0 (p.s.pc + 1) 0 0 (b.pc + 1) (size_of width))

  exchange_source : Matters reads_by bases_by exchange 1 x
  exchange_source =
      let p = held_at 2 0 0 2 (omega arith) (omega arith) (omega arith) (omega arith) in
      let b = with_register p.s src 3 in
      let u = ready_register x exchange p.s src 3 (omega arith) p.t in
      let one = atomic_is p.s atomics.CompareExchange width to src 0 2 p.t.is p.base p.held (some_bytes (size_of width)) in
      let second = atomic_is b atomics.CompareExchange width to src 0 2 u.is (register_else p.s src 3 to.base not_source ∙ p.base) p.held (some_bytes (size_of width)) in
      let differ = differ_register x exchange reads_by bases_by 1 p.s src 3 within (omega arith) p.t (told_in (reads_by p.s exchange) _ 1 _ src (parts p.s) refl) (none_of p.s to.base (depth_for (depth p.s) src) src not_source) in
      by_changes x exchange reads_by bases_by 1 p.s b differ p.t u
      (Fetch (frame_base 0) one.0 (size_of width) (0 % 2 ^ bits_of width) 0 (p.s.pc + 1))
      (Fetch (frame_base 0) second.0 (size_of width) (3 % 2 ^ bits_of width) 0 (b.pc + 1))
      (one.3 ∙ compared_is p.s width src (frame_base 0) one.0 2 2 true p.zero (equal_low width 2 (omega arith)) ∙ ap (λ n. Fetch (frame_base 0) one.0 (size_of width) (n % 2 ^ bits_of width) 0 (p.s.pc + 1)) p.from)
      (second.3 ∙ compared_is b width src (frame_base 0) second.0 2 2 true (register_else p.s src 3 0 source_not ∙ p.zero) (equal_low width 2 (omega arith)) ∙ ap (λ n. Fetch (frame_base 0) second.0 (size_of width) (n % 2 ^ bits_of width) 0 (b.pc + 1)) (register_here p.s src 3 p.t.is within))
      (λ alike. source_tells atomics.CompareExchange width (exchange_alike p.s b 0 one.0 second.0 _ _ 0 (p.s.pc + 1) (b.pc + 1) (size_of width) (some_bytes (size_of width)) p.t.is u.is one.1 second.1 alike))

  exchange_memory : (j : ℕ) → j < whole → Matters reads_by bases_by exchange (suc (suc j)) x
  exchange_memory j low =
      let few : j < 8 = omega (arith, low, few_bytes (size_of width)) in
      let p = held_at 0 2 j 0 (omega arith) (omega arith) few (omega arith) in
      let found = byte_found p.s j p.t.is few in
      let b = with_run p.s (frame_base 0 + j) (3 ∷ []) in
      let u = ready_run x exchange p.s (frame_base 0 + j) found.0 (3 ∷ []) found.1 (one_small 3 (omega arith)) p.t in
      let one = atomic_is p.s atomics.CompareExchange width to src j 0 p.t.is p.base p.held low in
      let second = atomic_is b atomics.CompareExchange width to src j 3 u.is p.base (set_holds p.s j found.0 0 3 few p.t.is found.1 p.held) low in
      let told = ap (λ ps. slice_get (flat_map places_of ps) (suc (suc j))) (parts p.s) ∙ byte_told (address p.s to) (frame_base 0) whole j [] (address_is p.s to (frame_base 0) (omega arith) p.base) low (omega (arith, few)) in
      let differ = differ_byte x exchange reads_by bases_by (suc (suc j)) p.s (frame_base 0 + j) found.0 3 found.1 (omega arith) p.t told (no_byte p.s to.base (frame_base 0 + j)) in
      by_changes x exchange reads_by bases_by (suc (suc j)) p.s b differ p.t u
      (Fetch (frame_base 0) one.0 (size_of width) (low_bits p.s (bits_of width) src) 0 (p.s.pc + 1)) (Set 0 (3 * 256 ^ j) (b.pc + 1))
      (one.3 ∙ compared_is p.s width src (frame_base 0) one.0 (0 * 256 ^ j) 0 true p.zero (nothing_there width j))
      (second.3 ∙ compared_is b width src (frame_base 0) second.0 (3 * 256 ^ j) 0 false p.zero (three_not_zero width j few))
      (fetch_unlike p.s b (frame_base 0) one.0 _ 0 (p.s.pc + 1) 0 (3 * 256 ^ j) (b.pc + 1) (size_of width))

  exchange_address : Matters bases_by reads_by exchange 0 x
  exchange_address =
      let p = held_at 0 2 0 0 (omega arith) (omega arith) (omega arith) (omega arith) in
      let none = base_for 0 to.offset in
      let d = depth_for (depth p.s) to.base in
      let b = with_register p.s to.base none in
      let u = ready_register x exchange p.s to.base none (base_small 0 to.offset) p.t in
      let one = atomic_is p.s atomics.CompareExchange width to src 0 0 p.t.is p.base p.held (some_bytes (size_of width)) in
      let unread : is_in (Register d to.base) (places reads_by p.s exchange) ≡ false =
      ap (λ ps. is_in (Register d to.base) (flat_map places_of ps)) (parts p.s)
      ∙ ap (λ c. c || (same (Register d to.base) (Register (depth_for (depth p.s) src) src) || is_in (Register d to.base) (bytes_from (address p.s to) whole ++ []))) (other_register d 0 to.base 0 zero_not)
      ∙ ap (λ c. c || is_in (Register d to.base) (bytes_from (address p.s to) whole ++ [])) (other_register d (depth_for (depth p.s) src) to.base src apart)
      ∙ no_register (address p.s to) whole d to.base [] in
      let differ = differ_register x exchange bases_by reads_by 0 p.s to.base none low (base_small 0 to.offset) p.t (told_in (bases_by p.s exchange) _ 0 _ to.base (of_low p.s to.base low) refl) unread in
      by_stop x exchange bases_by reads_by 0 p.s b differ p.t u
      (Fetch (frame_base 0) one.0 (size_of width) (low_bits p.s (bits_of width) src) 0 (p.s.pc + 1)) (Faulted (Access 0)) tt
      (one.3 ∙ compared_is p.s width src (frame_base 0) one.0 0 0 true p.zero (equal_low width 0 (omega arith)))
      (atomic_stops b atomics.CompareExchange width to src (register_here p.s to.base none p.t.is low))

-- Every atomic operation.
stores_of : (op : AtomicOp) → ((s : State) (width : Width) (src a at v : ℕ) → atomic_at s op width src a at v ≡ Store a at (size_of width) (combined op (bits_of width) v (low_bits s (bits_of width) src)) (s.pc + 1)) → ((s : State) → of_compared s op ≡ []) → op ≢ atomics.Exchange → op ≢ atomics.CompareExchange → Stores op
stores_of op does plain one other = record { does = does; plain = plain; tells = λ width j low. memory_tells op width j one other low }

sort : (op : AtomicOp) → Stores op ⊎ (Fetches op ⊎ (op ≡ atomics.CompareExchange))
sort atomics.Add = inl (stores_of atomics.Add (λ s width src a at v. refl) (λ s. refl) (λ e. cc) (λ e. cc))
sort atomics.Or = inl (stores_of atomics.Or (λ s width src a at v. refl) (λ s. refl) (λ e. cc) (λ e. cc))
sort atomics.And = inl (stores_of atomics.And (λ s width src a at v. refl) (λ s. refl) (λ e. cc) (λ e. cc))
sort atomics.Xor = inl (stores_of atomics.Xor (λ s width src a at v. refl) (λ s. refl) (λ e. cc) (λ e. cc))
sort atomics.FetchAdd = inr (inl (record { does = λ s width src a at v. refl; plain = λ s. refl }))
sort atomics.FetchOr = inr (inl (record { does = λ s width src a at v. refl; plain = λ s. refl }))
sort atomics.FetchAnd = inr (inl (record { does = λ s width src a at v. refl; plain = λ s. refl }))
sort atomics.FetchXor = inr (inl (record { does = λ s width src a at v. refl; plain = λ s. refl }))
sort atomics.Exchange = inr (inl (record { does = λ s width src a at v. refl; plain = λ s. refl }))
sort atomics.CompareExchange = inr (inr refl)

module _ (x : State) (hx : IsState x) (on : has_ended x.status ≡ false) (op : AtomicOp) (width : Width) (to : Address) (src : ℕ) (here : insn_at x.program x.pc ≡ Some (insn.Atomic op width to src)) (some : 0 < to.base) (low : to.base < 10) (filled : 0 < src) (within : src < 10) (apart : src ≢ to.base) where
  pub atomic_reads : (n : ℕ) → n < length (places reads_by x (insn.Atomic op width to src)) → Matters reads_by bases_by (insn.Atomic op width to src) n x
  atomic_reads n less = elim (sort op) [
    | inl stores ↦ by_plain stores.plain
        (store_source x hx on op width to src here some low filled within apart stores) (store_memory x hx on op width to src here some low filled within apart stores)
        n less
    | inr (inl fetches) ↦ by_plain fetches.plain
        (fetch_source x hx on op width to src here some low filled within apart fetches) (fetch_memory x hx on op width to src here some low filled within apart fetches)
        n less
    | inr (inr e) ↦
        subst (λ (k : AtomicOp). insn_at x.program x.pc ≡ Some (insn.Atomic k width to src) → n < length (places reads_by x (insn.Atomic k width to src)) → Matters reads_by bases_by (insn.Atomic k width to src) n x) (sym e)
        (λ now few. by_exchange now n (subst (λ k. n < k) (ap (λ ps. length (flat_map places_of ps)) (parts x hx on width to src now some low filled within apart x)) few)) here less
  ]
    where
      counted : (a k : ℕ) → length (bytes_from a k ++ []) ≡ k
      counted a k = length-append (bytes_from a k) [] ∙ omega (arith, count_bytes a k)

      by_plain : ((s : State) → of_compared s op ≡ []) → Matters reads_by bases_by (insn.Atomic op width to src) 0 x → ((j : ℕ) → j < size_len (size_of width) → Matters reads_by bases_by (insn.Atomic op width to src) (suc j) x) → (n : ℕ) → n < length (places reads_by x (insn.Atomic op width to src)) → Matters reads_by bases_by (insn.Atomic op width to src) n x
      by_plain plain first rest zero less = first
      by_plain plain first rest (suc j) less =
          let within : suc j < suc (length (bytes_from (address x to) (size_len (size_of width)) ++ [])) = subst (λ k. suc j < k) (ap (λ ps. length (flat_map places_of ps)) (plain_parts x hx on op width to src here some low filled within apart plain x)) less in
          rest j (omega (arith, within, counted (address x to) (size_len (size_of width))))

      by_exchange : insn_at x.program x.pc ≡ Some (insn.Atomic atomics.CompareExchange width to src) → (n : ℕ) → n < suc (suc (length (bytes_from (address x to) (size_len (size_of width)) ++ []))) → Matters reads_by bases_by (insn.Atomic atomics.CompareExchange width to src) n x
      by_exchange now zero less = exchange_zero x hx on width to src now some low filled within apart
      by_exchange now (suc zero) less = exchange_source x hx on width to src now some low filled within apart
      by_exchange now (suc (suc j)) less =
          exchange_memory x hx on width to src now some low filled within apart j (omega (arith, less, counted (address x to) (size_len (size_of width))))

  pub atomic_base : Matters bases_by reads_by (insn.Atomic op width to src) 0 x
  atomic_base = elim (sort op) [
    | inl stores ↦ store_address x hx on op width to src here some low filled within apart stores
    | inr (inl fetches) ↦ fetch_address x hx on op width to src here some low filled within apart fetches
    | inr (inr e) ↦
        subst (λ (k : AtomicOp). insn_at x.program x.pc ≡ Some (insn.Atomic k width to src) → Matters bases_by reads_by (insn.Atomic k width to src) 0 x) (sym e)
        (λ now. exchange_address x hx on width to src now some low filled within apart) here
  ]
