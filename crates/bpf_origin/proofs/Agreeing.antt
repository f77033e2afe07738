-- Two states that stand alike and agree on what the step reads and on its addresses make the same change.
use Rattle.std.proofs.Common.{◌≡◌, ◌≤◌, ◌<◌, ℕ, ℤ, pos, zero, suc, ◌+◌, ◌-◌, ◌*◌, ◌%◌, ◌^◌, ◌+ℤ◌, List, [], ◌∷◌, ◌++◌, length, flat_map, Bool, true, false, Option, Some, None, refl, sym, ap, ◌∙◌, inl, inr, arith}
use Rattle.std.specs.Prelude.{All, IsSome, ◌==◌, ◌&&◌, ◌||◌, nat_lt, nat_le, option_map, unwrap_or, unsigned_abs, slice_get, slice_index, if◌then◌else◌}
use Rattle.std.specs.Option.{option_map_or}
use Rattle.std.proofs.lemmas.Bool.{cases_lt, and_parts}
use Rattle.std.proofs.lemmas.Bool.Decides.{nat_tests}
use Rattle.std.proofs.lemmas.List.{length-map}
use Rattle.std.proofs.lemmas.List.Folds.{list_any-append}
use Rattle.std.proofs.lemmas.Grind.{same_number_lists}
use Rattle.std.proofs.lemmas.Option.{slice_get_past}
use Rattle.std.proofs.Math.Bool.{or-true}
use Rattle.byteorder.specs.Endian.{little_number}
use Rattle.bpf_isa.specs.Checker.{HelperExists}
use Rattle.bpf_isa.specs.Helpers.{helper_of}
use Rattle.bpf_isa.specs.declared.helpers.Helper.{Helper}
use Rattle.bpf_isa.specs.declared.helpers.Helper.TheVariants as named
use Rattle.bpf_isa.specs.Maps.{IsShape}
use Rattle.bpf_isa.specs.Programs.{replaced_by}
use Rattle.bpf_isa.specs.Sizes.{size_len, signed_len}
use Rattle.bpf_isa.specs.declared.instruction.Address.{Address}
use Rattle.bpf_isa.specs.declared.instruction.AtomicOp.{AtomicOp}
use Rattle.bpf_isa.specs.declared.instruction.AtomicOp.TheVariants as atomics
use Rattle.bpf_isa.specs.declared.instruction.BinaryOp.{BinaryOp}
use Rattle.bpf_isa.specs.declared.instruction.BinaryOp.TheVariants as binaries
use Rattle.bpf_isa.specs.declared.instruction.Condition.{Condition}
use Rattle.bpf_isa.specs.declared.instruction.Insn.{Insn}
use Rattle.bpf_isa.specs.declared.instruction.Insn.TheVariants as insn
use Rattle.bpf_isa.specs.declared.instruction.LoadSize.TheVariants.{Plain, Signed}
use Rattle.bpf_isa.specs.declared.instruction.Size.{Size}
use Rattle.bpf_isa.specs.declared.instruction.Source.{Source}
use Rattle.bpf_isa.specs.declared.instruction.Source.TheVariants as source
use Rattle.bpf_isa.specs.declared.instruction.Width.{Width}
use Rattle.bpf_isa.specs.declared.maps.MapShape.{MapShape}
use Rattle.bpf_entries.specs.declared.status.Fault.TheVariants.{Depth, Token}
use Rattle.bpf_entries.specs.declared.status.Status.TheVariants.{Exited, Faulted}
use Rattle.bpf_steps.specs.declared.change.Change.{Change}
use Rattle.bpf_steps.specs.declared.change.Change.TheVariants.{Set, Go, Store, Fetch, Call, Return, Cell, Trace, Stop}
use Rattle.bpf_steps.specs.declared.frame.Frame.{Frame}
use Rattle.bpf_steps.specs.Access.{low_bits, address, access, accessible, fault}
use Rattle.bpf_steps.specs.Arithmetic.{result, negated, sign_extended}
use Rattle.bpf_steps.specs.Atomics.{combined, size_of, replacement, atomic_at}
use Rattle.bpf_steps.specs.ByAddress.{byte}
use Rattle.bpf_steps.specs.Calls.{call}
use Rattle.bpf_steps.specs.Helpers.{map_shape, with_key, helper, update_of, trace, answer}
use Rattle.bpf_steps.specs.Jumps.{holds}
use Rattle.bpf_steps.specs.Next.{operand, target, jumps, change_by, change}
use Rattle.bpf_steps.specs.Numbers.{bits_of, wrap, extended}
use Rattle.bpf_steps.specs.Platform.{context_base, frame_count, frame_pointer, cell_address, token_base, trace_limit}
use Rattle.bpf_steps.specs.Regions.{Image, IsImage, Region, regions, frames_from, maps_from, index_in, index_of, is_from_frame, run, number_at}
use Rattle.bpf_steps.specs.State.{State, IsState, register, depth}
use Rattle.bpf_steps.specs.Swaps.{swapped}
use Rattle.bpf_steps.proofs.ByAddress.{byte_within, fits_within, length-run, run_reads}
use Rattle.bpf_steps.proofs.Spans.{first_shape, later_shapes}
use Rattle.bpf_machine.proofs.StepLaws.{below_ten}
use Rattle.bpf_origin.specs.declared.place.Place.{Place}
use Rattle.bpf_origin.specs.declared.place.Place.TheVariants.{Register, Word, Byte}
use Rattle.bpf_origin.specs.declared.place.Part.{Part}
use Rattle.bpf_origin.specs.declared.place.Part.TheVariants as part
use Rattle.bpf_origin.specs.Laws.{StandAlike, Agree, AgreeOn}
use Rattle.bpf_origin.specs.Places.{depth_for, own_register, value, same, bytes_from, places_of}
use Rattle.bpf_origin.specs.Reads.{of_register, of_source, of_first, of_compared, of_key, of_value, of_helper, helper_bases, reads_by, bases_by, conditions_by}
use Rattle.bpf_origin.specs.Wanted.{is_in}

-- Agreement part by part.
abbrev pub AgreeEach : List Part → State → State → Type 0
AgreeEach [] x z = Unit {0}
AgreeEach (q ∷ qs) x z = Agree (places_of q) x z × AgreeEach qs x z

pub in_first : (p : Place) (xs ys : List Place) → is_in p xs ≡ true → is_in p (xs ++ ys) ≡ true
in_first p xs ys e = list_any-append (same p) xs ys ∙ ap (λ (b : Bool). b || is_in p ys) e

pub in_second : (p : Place) (xs ys : List Place) → is_in p ys ≡ true → is_in p (xs ++ ys) ≡ true
in_second p xs ys e = list_any-append (same p) xs ys ∙ ap (λ (b : Bool). is_in p xs || b) e ∙ or-true (is_in p xs)

pub agree_each : (qs : List Part) (x z : State) → AgreeOn qs x z → AgreeEach qs x z
agree_each [] x z agree = tt
agree_each (q ∷ qs) x z agree = (
  λ p there. agree p (in_first p (places_of q) (flat_map places_of qs) there),
  agree_each qs x z (λ p there. agree p (in_second p (places_of q) (flat_map places_of qs) there)),
)

pub split_each : (ps qs : List Part) (x z : State) → AgreeEach (ps ++ qs) x z → AgreeEach ps x z × AgreeEach qs x z
split_each [] qs x z each = (tt, each)
split_each (p ∷ ps) qs x z each = let rest = split_each ps qs x z each.1 in ((each.0, rest.0), rest.1)

pub eq_self : (n : ℕ) → (n == n) ≡ true
eq_self n = grind (arith, nat_tests)

pub same_self : (p : Place) → same p p ≡ true
same_self (Register d r) = ap (λ (b : Bool). b && (r == r)) (eq_self d) ∙ eq_self r
same_self (Word i) = eq_self i
same_self (Byte a) = eq_self a

-- A register of the present function.
pub value_here : (x : State) (r : ℕ) → r < 10 → value x (Register (depth_for (depth x) r) r) ≡ register x r
value_here x r low = by_six (nat_lt r 6) ∙ sym (below_ten x r _ low)
  where
    by_six : (b : Bool) → (if b then slice_index x.registers r else own_register (slice_get x.frames (if b then 0 else depth x)) x.registers r) ≡ slice_index x.registers r
    by_six true = refl
    by_six false = ap (λ (o : Option Frame). own_register o x.registers r) (slice_get_past x.frames (depth x) (omega arith))

-- Every region ends at 2^64 or before.
abbrev EndBelow : List Region → Type 0
EndBelow [] = Unit {0}
EndBelow (r ∷ rs) = (r.base + r.len ≤ 2 ^ 64) × EndBelow rs

maps_end : (i : ℕ) (shapes : List MapShape) → All IsShape shapes → i + length shapes ≤ 16 → EndBelow (maps_from i shapes)
unfolding maps_from
maps_end i [] shaped few = tt
maps_end i (shape ∷ shapes) shaped few =
    let short = (first_shape shape shapes shaped).total in
    (omega (arith, short, few), maps_end (suc i) shapes (later_shapes shape shapes shaped) (omega (arith, few)))

frames_end : (i n : ℕ) (rest : List Region) → i + n ≤ 8 → EndBelow rest → EndBelow (frames_from i n ++ rest)
unfolding frames_from
frames_end i zero rest few low = low
frames_end i (suc n) rest few low = (omega (arith, few), frames_end (suc i) n rest (omega (arith, few)) low)

regions_end : (m : Image) → IsImage m → EndBelow (regions m)
regions_end m is =
    let short = is.short in
    let few = is.tables.few in
    (omega (arith, short), frames_end 0 frame_count (maps_from 0 m.maps) (omega arith) (maps_end 0 m.maps is.tables.shapes (omega (arith, few))))

some_from : (k at : ℕ) (found : Option ℕ) → option_map (λ i. k + i) found ≡ Some at → (i : ℕ) × (found ≡ Some i)
some_from k at None e = cc
some_from k at (Some i) e = (i, refl)

index_ends : (rs : List Region) (a n at : ℕ) → EndBelow rs → index_in rs a n ≡ Some at → a + n ≤ 2 ^ 64
unfolding index_in
index_ends [] a n at low e = cc
index_ends (r ∷ rs) a n at low e = by_test (nat_le r.base a && nat_le (a + n) (r.base + r.len)) refl e (λ i found. index_ends rs a n i low.1 found)
  where
    by_test : (b : Bool) → (nat_le r.base a && nat_le (a + n) (r.base + r.len)) ≡ b → (if b then Some (a - r.base) else option_map (λ i. r.len + i) (index_in rs a n)) ≡ Some at → ((i : ℕ) → index_in rs a n ≡ Some i → a + n ≤ 2 ^ 64) → a + n ≤ 2 ^ 64
    by_test true holds e later =
        let within : nat_le (a + n) (r.base + r.len) ≡ true = (and_parts (nat_le r.base a) (nat_le (a + n) (r.base + r.len)) holds).1 in
        let fits : a + n ≤ r.base + r.len = grind (arith, nat_tests) in
        omega (arith, fits, low.0)
    by_test false holds e later = let found = some_from r.len at (index_in rs a n) e in later found.0 found.1

-- The places of a run of bytes.
in_bytes : (a n b : ℕ) → a ≤ b → b < a + n → is_in (Byte (b % 2 ^ 64)) (bytes_from a n) ≡ true
unfolding bytes_from
in_bytes a zero b from low = absurd (omega (arith, from, low))
in_bytes a (suc n) b from low = elim (cases_lt a b) [
  | inl past ↦
      ap (λ (t : Bool). (b % 2 ^ 64 == a % 2 ^ 64) || t) (in_bytes (suc a) n b (omega (arith, past)) (omega (arith, low)))
      ∙ or-true (b % 2 ^ 64 == a % 2 ^ 64)
  | inr to ↦
      let here : b ≡ a = omega (arith, from, to) in
      ap (λ (t : Bool). t || is_in (Byte (b % 2 ^ 64)) (bytes_from (suc a) n)) (ap (λ k. k % 2 ^ 64 == a % 2 ^ 64) here ∙ eq_self (a % 2 ^ 64))
]

if_found : {X : Type 0} (b : Bool) (o : Option X) (at : X) → (if b then None else o) ≡ Some at → o ≡ Some at
if_found true o at e = cc
if_found false o at e = e

pub same_depth : (x z : State) → StandAlike x z → depth x ≡ depth z
same_depth x z al =
    sym (length-map x.frames (λ (f : Frame). f.return_pc))
    ∙ ap length al.returns
    ∙ length-map z.frames (λ (f : Frame). f.return_pc)

module _ (x z : State) (hx : IsState x) (hz : IsState z) (al : StandAlike x z) where
  pub deep : depth x ≡ depth z
  deep = same_depth x z al

  maps_same : x.memory.maps ≡ z.memory.maps
  maps_same = hx.mapped ∙ ap (λ p. p.maps) al.program ∙ sym hz.mapped

  regions_same : regions x.memory ≡ regions z.memory
  regions_same =
      ap (λ c. record { base = context_base; len = c } ∷ (frames_from 0 frame_count ++ maps_from 0 x.memory.maps)) al.context
      ∙ ap (λ ms. record { base = context_base; len = z.memory.context_len } ∷ (frames_from 0 frame_count ++ maps_from 0 ms)) maps_same

  pub index_same : (a n : ℕ) → index_of x.memory a n ≡ index_of z.memory a n
  index_same a n = ap (λ rs. index_in rs a n) regions_same

  pub accessible_same : (a n : ℕ) → accessible x a n ≡ accessible z a n
  accessible_same a n =
      ap (λ d. if is_from_frame (d + 1) a then None else index_of x.memory a n) deep
      ∙ ap (λ o. if is_from_frame (depth z + 1) a then None else o) (index_same a n)

  pub index_there : (a n at : ℕ) → accessible x a n ≡ Some at → index_of x.memory a n ≡ Some at
  index_there a n at e = if_found (is_from_frame (depth x + 1) a) (index_of x.memory a n) at e

  -- Registers and operands.
  pub register_same : (r : ℕ) → AgreeEach (of_register x r) x z → register x r ≡ register z r
  register_same r each = by_ten (nat_lt r 10) refl each
    where
      by_ten : (b : Bool) → nat_lt r 10 ≡ b → AgreeEach (if b then part.Register (depth_for (depth x) r) r ∷ [] else []) x z → register x r ≡ register z r
      by_ten true e each =
          let low : r < 10 = grind (arith, nat_tests) in
          let p : Place = Register (depth_for (depth x) r) r in
          sym (value_here x r low)
          ∙ each.0 p (ap (λ (b : Bool). b || false) (same_self p))
          ∙ ap (λ d. value z (Register (depth_for d r) r)) deep
          ∙ value_here z r low
      by_ten false e each =
          ap (λ (b : Bool). if b then slice_index x.registers r else frame_pointer (depth x)) e
          ∙ ap frame_pointer deep
          ∙ sym (ap (λ (b : Bool). if b then slice_index z.registers r else frame_pointer (depth z)) e)

  low_same : (w r : ℕ) → AgreeEach (of_register x r) x z → low_bits x w r ≡ low_bits z w r
  low_same w r each = ap (λ v. v % 2 ^ w) (register_same r each)

  operand_same : (w : ℕ) (s : Source) → AgreeEach (of_source x s) x z → operand x w s ≡ operand z w s
  operand_same w (source.Immediate imm) each = refl
  operand_same w (source.Register r) each = low_same w r each

  address_same : (at : Address) → AgreeEach (of_register x at.base) x z → address x at ≡ address z at
  address_same at each = ap (λ v. (v + wrap 64 at.offset) % 2 ^ 64) (register_same at.base each)

  -- Bytes.
  pub run_same : (a n at : ℕ) → index_of x.memory a n ≡ Some at → Agree (bytes_from a n) x z → run x.memory at n ≡ run z.memory at n
  run_same a n at found agree =
      let there : index_of z.memory a n ≡ Some at = sym (index_same a n) ∙ found in
      let ends : a + n ≤ 2 ^ 64 = index_ends (regions x.memory) a n at (regions_end x.memory hx.image) found in
      let count : length (run x.memory at n) ≡ n = length-run x.memory.bytes at n (fits_within x.memory hx.image a n at found) in
      let other : length (run z.memory at n) ≡ n = length-run z.memory.bytes at n (fits_within z.memory hz.image a n at there) in
      same_number_lists (run x.memory at n) (run z.memory at n) (count ∙ sym other) (λ j low. each j (omega (arith, low, count)) found there ends)
    where
      each : (j : ℕ) → j < n → index_of x.memory a n ≡ Some at → index_of z.memory a n ≡ Some at → a + n ≤ 2 ^ 64 → slice_index (run x.memory at n) j ≡ slice_index (run z.memory at n) j
      each j low found there ends =
          let within : (a + j) % 2 ^ 64 ≡ a + j = omega (arith, low, ends) in
          let agrees : byte x (a + j) ≡ byte z (a + j) =
          agree (Byte (a + j)) (ap (λ b. is_in (Byte b) (bytes_from a n)) (sym within) ∙ in_bytes a n (a + j) (omega arith) (omega (arith, low))) in
          run_reads x.memory.bytes at n j low
          ∙ sym (ap (λ o. unwrap_or o 0) (byte_within x.memory hx.image a n at j found low))
          ∙ agrees
          ∙ ap (λ o. unwrap_or o 0) (byte_within z.memory hz.image a n at j there low)
          ∙ sym (run_reads z.memory.bytes at n j low)

  pub number_same : (a n at : ℕ) → accessible x a n ≡ Some at → Agree (bytes_from a n) x z → number_at x.memory at n ≡ number_at z.memory at n
  number_same a n at found agree = ap (little_number n) (run_same a n at (index_there a n at found) agree)

  -- Changes.
  set_same : (r v u k : ℕ) → v ≡ u → Set r v (x.pc + k) ≡ Set r u (z.pc + k)
  set_same r v u k e = ap (λ n. Set r n (x.pc + k)) e ∙ ap (λ p. Set r u (p + k)) al.pc

  target_same : (distance : ℤ) → target x distance ≡ target z distance
  target_same distance = ap (λ p. unsigned_abs (pos (p + 1) +ℤ distance)) al.pc

  access_same : (a b n : ℕ) (f g : ℕ → Change) → a ≡ b → ((at : ℕ) → accessible x a n ≡ Some at → f at ≡ g at) → access x a n f ≡ access z b n g
  access_same a b n f g e each =
      by_index (accessible x a n) refl
      ∙ ap (λ o. option_map_or g o (fault a)) (accessible_same a n)
      ∙ ap (λ c. option_map_or g (accessible z c n) (fault c)) e
    where
      by_index : (found : Option ℕ) → accessible x a n ≡ found → option_map_or f found (fault a) ≡ option_map_or g found (fault a)
      by_index None e = refl
      by_index (Some at) e = each at e

  -- Arithmetic and jumps.
  first_same : (op : BinaryOp) (w dst b : ℕ) → AgreeEach (of_first x op dst) x z → result op w (low_bits x w dst) b ≡ result op w (low_bits z w dst) b
  first_same binaries.Mov w dst b each = refl
  first_same op w dst b each = ap (λ a. result op w a b) (low_same w dst each)

  binary_same : (op : BinaryOp) (width : Width) (dst : ℕ) (s : Source) → AgreeEach (of_first x op dst ++ of_source x s) x z → result op (bits_of width) (low_bits x (bits_of width) dst) (operand x (bits_of width) s) ≡ result op (bits_of width) (low_bits z (bits_of width) dst) (operand z (bits_of width) s)
  binary_same op width dst s each =
      let two = split_each (of_first x op dst) (of_source x s) x z each in
      first_same op (bits_of width) dst (operand x (bits_of width) s) two.0
      ∙ ap (λ b. result op (bits_of width) (low_bits z (bits_of width) dst) b) (operand_same (bits_of width) s two.1)

  jumps_same : (condition : Condition) (width : Width) (dst : ℕ) (s : Source) → AgreeEach (of_register x dst ++ of_source x s) x z → jumps x condition width dst s ≡ jumps z condition width dst s
  jumps_same condition width dst s each =
      let two = split_each (of_register x dst) (of_source x s) x z each in
      ap (λ a. holds condition (bits_of width) a (operand x (bits_of width) s)) (low_same (bits_of width) dst two.0)
      ∙ ap (λ b. holds condition (bits_of width) (low_bits z (bits_of width) dst) b) (operand_same (bits_of width) s two.1)

  branch_same : (b c : Bool) (offset : ℤ) → b ≡ c → Go (if b then target x offset else x.pc + 1) ≡ Go (if c then target z offset else z.pc + 1)
  branch_same b c offset e =
      ap (λ (t : Bool). Go (if t then target x offset else x.pc + 1)) e
      ∙ ap (λ p. Go (if c then unsigned_abs (pos (p + 1) +ℤ offset) else p + 1)) al.pc

  -- Loads and stores.
  load_same : (from : Address) (n dst : ℕ) (read : ℕ → ℕ) → AgreeEach (part.Bytes (address x from) n ∷ []) x z → AgreeEach (of_register x from.base) x z → access x (address x from) n (λ at. Set dst (read (number_at x.memory at n)) (x.pc + 1)) ≡ access z (address z from) n (λ at. Set dst (read (number_at z.memory at n)) (z.pc + 1))
  load_same from n dst read each base =
      access_same (address x from) (address z from) n _ _ (address_same from base)
      (λ at found. set_same dst (read (number_at x.memory at n)) (read (number_at z.memory at n)) 1 (ap read (number_same (address x from) n at found each.0)))

  store_same : (to : Address) (size : Size) (v u : ℕ) → v ≡ u → AgreeEach (of_register x to.base) x z → access x (address x to) (size_len size) (λ at. Store (address x to) at size v (x.pc + 1)) ≡ access z (address z to) (size_len size) (λ at. Store (address z to) at size u (z.pc + 1))
  store_same to size v u e base =
      access_same (address x to) (address z to) (size_len size) _ _ (address_same to base)
      (λ at found.
      ap (λ a. Store a at size v (x.pc + 1)) (address_same to base)
      ∙ ap (λ n. Store (address z to) at size n (x.pc + 1)) e
      ∙ ap (λ p. Store (address z to) at size u (p + 1)) al.pc)

  -- Atomic operations.
  replacement_same : (op : AtomicOp) (width : Width) (src a b at v u : ℕ) → a ≡ b → v ≡ u → replacement x op width src a at v ≡ replacement z op width src b at u
  replacement_same op width src a b at v u e f =
      ap (λ c. option_map_or (λ r. Fetch c at (size_of width) v r (x.pc + 1)) (replaced_by op src) (Store c at (size_of width) v (x.pc + 1))) e
      ∙ ap (λ n. option_map_or (λ r. Fetch b at (size_of width) n r (x.pc + 1)) (replaced_by op src) (Store b at (size_of width) n (x.pc + 1))) f
      ∙ ap (λ p. option_map_or (λ r. Fetch b at (size_of width) u r (p + 1)) (replaced_by op src) (Store b at (size_of width) u (p + 1))) al.pc

  combined_same : (op : AtomicOp) (w v u s t : ℕ) → v ≡ u → s ≡ t → combined op w v s ≡ combined op w u t
  combined_same op w v u s t e f = ap (λ n. combined op w n s) e ∙ ap (λ n. combined op w u n) f

  atomic_at_same : (op : AtomicOp) (width : Width) (src a b at v u : ℕ) → AgreeEach (of_compared x op) x z → AgreeEach (of_register x src) x z → a ≡ b → v ≡ u → atomic_at x op width src a at v ≡ atomic_at z op width src b at u
  atomic_at_same atomics.CompareExchange width src a b at v u compared each e f =
      let w = bits_of width in
      let test : (v == low_bits x w 0) ≡ (u == low_bits z w 0) = ap (λ n. n == low_bits x w 0) f ∙ ap (λ n. u == n) (low_same w 0 compared) in
      ap (λ (t : Bool). if t then replacement x atomics.CompareExchange width src a at (low_bits x w src) else Set 0 v (x.pc + 1)) test
      ∙ ap (λ c. if (u == low_bits z w 0) then c else Set 0 v (x.pc + 1)) (replacement_same atomics.CompareExchange width src a b at (low_bits x w src) (low_bits z w src) e (low_same w src each))
      ∙ ap (λ c. if (u == low_bits z w 0) then replacement z atomics.CompareExchange width src b at (low_bits z w src) else c) (set_same 0 v u 1 f)
  atomic_at_same op width src a b at v u compared each e f =
      replacement_same op width src a b at _ _ e (combined_same op (bits_of width) v u _ _ f (low_same (bits_of width) src each))

  atomic_same : (op : AtomicOp) (width : Width) (to : Address) (src n : ℕ) → AgreeEach (of_compared x op ++ (of_register x src ++ part.Bytes (address x to) n ∷ [])) x z → AgreeEach (of_register x to.base) x z → access x (address x to) n (λ at. atomic_at x op width src (address x to) at (number_at x.memory at n)) ≡ access z (address z to) n (λ at. atomic_at z op width src (address z to) at (number_at z.memory at n))
  atomic_same op width to src n each base =
      let two = split_each (of_compared x op) (of_register x src ++ part.Bytes (address x to) n ∷ []) x z each in
      let more = split_each (of_register x src) (part.Bytes (address x to) n ∷ []) x z two.1 in
      access_same (address x to) (address z to) n _ _ (address_same to base)
      (λ at found. atomic_at_same op width src (address x to) (address z to) at (number_at x.memory at n) (number_at z.memory at n) two.0 more.0 (address_same to base) (number_same (address x to) n at found more.1.0))

  -- Helpers.
  shape_same : (n m : ℕ) → n ≡ m → map_shape x n ≡ map_shape z m
  shape_same n m e =
      ap (λ p. if nat_lt n token_base then None else slice_get p.maps (n - token_base)) al.program
      ∙ ap (λ k. map_shape z k) e

  key_same : (f g : ℕ → MapShape → ℕ → Change) → AgreeEach (of_key x) x z → AgreeEach (of_register x 2) x z → ((i : ℕ) (shape : MapShape) (key : ℕ) → f i shape key ≡ g i shape key) → with_key x f ≡ with_key z g
  key_same f g key base each =
      let two = split_each (of_register x 1) (part.Bytes (register x 2) 4 ∷ []) x z key in
      let token : register x 1 ≡ register z 1 = register_same 1 two.0 in
      by_shape (map_shape x (register x 1)) token two.1.0
      ∙ ap (λ o. option_map_or (λ shape. access z (register z 2) 4 (λ at. g (register z 1 - token_base) shape (number_at z.memory at 4))) o (Stop (Faulted (Token (register z 1))))) (shape_same (register x 1) (register z 1) token)
    where
      by_shape : (found : Option MapShape) → register x 1 ≡ register z 1 → Agree (bytes_from (register x 2) 4) x z → option_map_or (λ shape. access x (register x 2) 4 (λ at. f (register x 1 - token_base) shape (number_at x.memory at 4))) found (Stop (Faulted (Token (register x 1)))) ≡ option_map_or (λ shape. access z (register z 2) 4 (λ at. g (register z 1 - token_base) shape (number_at z.memory at 4))) found (Stop (Faulted (Token (register z 1))))
      by_shape None token bytes = ap (λ n. Stop (Faulted (Token n))) token
      by_shape (Some shape) token bytes =
          access_same (register x 2) (register z 2) 4 _ _ (register_same 2 base)
          (λ at found.
          each (register x 1 - token_base) shape (number_at x.memory at 4)
          ∙ ap (λ k. g (register x 1 - token_base) shape k) (number_same (register x 2) 4 at found bytes)
          ∙ ap (λ n. g (n - token_base) shape (number_at z.memory at 4)) token)

  answer_same : (n : ℕ) → answer x n ≡ answer z n
  answer_same n = set_same 0 n n 1 refl

  update_by : (more one over : Bool) (c d : Change) → c ≡ d → (if more then answer x (2 ^ 64 - 22) else if one then answer x (2 ^ 64 - 17) else if over then answer x (2 ^ 64 - 7) else c) ≡ (if more then answer z (2 ^ 64 - 22) else if one then answer z (2 ^ 64 - 17) else if over then answer z (2 ^ 64 - 7) else d)
  update_by true one over c d e = answer_same (2 ^ 64 - 22)
  update_by false true over c d e = answer_same (2 ^ 64 - 17)
  update_by false false true c d e = answer_same (2 ^ 64 - 7)
  update_by false false false c d e = e

  update_same : (i : ℕ) (shape : MapShape) (key : ℕ) → register x 3 ≡ register z 3 → register x 4 ≡ register z 4 → update_of x i shape key ≡ update_of z i shape key
  update_same i shape key from flags =
      let a = cell_address i key shape.value_size in
      let n = shape.value_size in
      let copy : access x (register x 3) n (λ k. Cell a k n (x.pc + 1)) ≡ access z (register z 3) n (λ k. Cell a k n (z.pc + 1)) =
      access_same (register x 3) (register z 3) n _ _ from (λ at found. ap (λ p. Cell a at n (p + 1)) al.pc) in
      update_by (nat_lt 2 (register x 4)) (register x 4 == 1) (nat_le shape.entries key) _ _ copy
      ∙ ap (λ v. if nat_lt 2 v then answer z (2 ^ 64 - 22) else if v == 1 then answer z (2 ^ 64 - 17) else if nat_le shape.entries key then answer z (2 ^ 64 - 7) else access z (register z 3) n (λ k. Cell a k n (z.pc + 1))) flags

  trace_by : (room : Bool) → register x 1 ≡ register z 1 → (if room then Trace (register x 1) (x.pc + 1) else answer x (2 ^ 64 - 1)) ≡ (if room then Trace (register z 1) (z.pc + 1) else answer z (2 ^ 64 - 1))
  trace_by true word = ap (λ n. Trace n (x.pc + 1)) word ∙ ap (λ p. Trace (register z 1) (p + 1)) al.pc
  trace_by false word = answer_same (2 ^ 64 - 1)

  trace_same : AgreeEach (of_register x 1) x z → trace x ≡ trace z
  trace_same each =
      trace_by (nat_lt (length x.trace) trace_limit) (register_same 1 each)
      ∙ ap (λ n. if nat_lt n trace_limit then Trace (register z 1) (z.pc + 1) else answer z (2 ^ 64 - 1)) al.words

  help_same : (o : Option Helper) → IsSome o → (c : Change) → AgreeEach (option_map_or (of_helper x c) o []) x z → AgreeEach (option_map_or (helper_bases x) o []) x z → option_map_or (helper x) o (Stop x.status) ≡ option_map_or (helper z) o (Stop z.status)
  help_same None exists c each base = cc
  help_same (Some named.Lookup) exists c each base =
      key_same (λ i shape key. answer x (if nat_lt key shape.entries then cell_address i key shape.value_size else 0))
      (λ i shape key. answer z (if nat_lt key shape.entries then cell_address i key shape.value_size else 0)) each base
      (λ i shape key. answer_same (if nat_lt key shape.entries then cell_address i key shape.value_size else 0))
  help_same (Some named.Update) exists c each base =
      let key = split_each (of_key x) (of_register x 4 ++ of_value x c) x z each in
      let flags = split_each (of_register x 4) (of_value x c) x z key.1 in
      let pointers = split_each (of_register x 2) (of_register x 3) x z base in
      key_same (update_of x) (update_of z) key.0 pointers.0 (λ i shape k. update_same i shape k (register_same 3 pointers.1) (register_same 4 flags.0))
  help_same (Some named.Trace) exists c each base = trace_same each

  -- Every instruction.
  pub change_same : (i : Insn) → HelperExists i → AgreeEach (reads_by x i) x z → AgreeEach (bases_by x i) x z → AgreeEach (conditions_by x i) x z → change_by x i ≡ change_by z i
  unfolding change_by
  change_same (insn.Binary op width dst s) exists each base tests = set_same dst _ _ 1 (binary_same op width dst s each)
  change_same (insn.Negate width dst) exists each base tests = set_same dst _ _ 1 (ap (negated (bits_of width)) (low_same (bits_of width) dst each))
  change_same (insn.SignExtend extension dst src) exists each base tests = set_same dst _ _ 1 (ap (sign_extended extension) (register_same src each))
  change_same (insn.SwapBytes order width dst) exists each base tests = set_same dst _ _ 1 (ap (swapped order width) (register_same dst each))
  change_same (insn.JumpIf condition width dst s offset) exists each base tests =
      branch_same (jumps x condition width dst s) (jumps z condition width dst s) offset (jumps_same condition width dst s tests)
  change_same (insn.Jump offset) exists each base tests = ap Go (target_same offset)
  change_same (insn.JumpLong distance) exists each base tests = ap Go (target_same distance)
  change_same (insn.CallHelper number) exists each base tests = help_same (helper_of number) exists (change x) each base
  change_same (insn.CallLocal distance) exists each base tests =
      ap (λ to. call x to) (target_same distance)
      ∙ ap (λ d. if nat_lt (d + 1) frame_count then Call (target z distance) else Stop (Faulted Depth)) deep
  change_same insn.Exit exists each base tests = ap (λ d. if d == 0 then Stop Exited else Return) deep
  change_same (insn.Load (Plain size) dst from) exists each base tests = load_same from (size_len size) dst (λ n. n) each base
  change_same (insn.Load (Signed size) dst from) exists each base tests =
      load_same from (signed_len size) dst (λ n. extended (8 * signed_len size) 64 n) each base
  change_same (insn.Store size to s) exists each base tests = store_same to size (operand x 64 s) (operand z 64 s) (operand_same 64 s each) base
  change_same (insn.Atomic op width to src) exists each base tests = atomic_same op width to src (size_len (size_of width)) each base
  change_same (insn.LoadWide dst value) exists each base tests = set_same dst _ _ 2 refl
