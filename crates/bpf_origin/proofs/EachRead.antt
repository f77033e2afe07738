-- The law that each read matters, row by row: for each part two states that differ there alone, and what their steps do.
use Rattle.std.proofs.Common.{flat_map, ◌≡◌, ◌≢◌, ◌≤◌, ◌<◌, ℕ, ℤ, pos, negsuc, zero, suc, ◌+◌, ◌-◌, ◌*◌, ◌%◌, ◌^◌, List, [], ◌∷◌, ◌++◌, length, Bool, true, false, Some, refl, sym, ap, subst, ◌∙◌, arith}
use Rattle.std.specs.Prelude.{◌==◌, ◌&&◌, ◌||◌, nat_lt, slice_get, slice_index, unsigned_abs, ◌+ℤ◌, if◌then◌else◌}
use Rattle.std.specs.Option.{option_map_or}
use Rattle.std.proofs.lemmas.Bool.Decides.{nat_tests}
use Rattle.byteorder.specs.Endian.{little_bytes}
use Rattle.bpf_isa.specs.Programs.{insn_at}
use Rattle.bpf_isa.specs.Sizes.{size_len, signed_len}
use Rattle.bpf_isa.specs.declared.instruction.Address.{Address}
use Rattle.bpf_isa.specs.declared.instruction.BinaryOp.{BinaryOp}
use Rattle.bpf_isa.specs.declared.instruction.BinaryOp.TheVariants as binaries
use Rattle.bpf_isa.specs.declared.instruction.ByteOrder.{ByteOrder}
use Rattle.bpf_isa.specs.declared.instruction.Condition.{Condition}
use Rattle.bpf_isa.specs.declared.instruction.Condition.TheVariants as tests
use Rattle.bpf_isa.specs.declared.instruction.Extension.{Extension}
use Rattle.bpf_isa.specs.declared.instruction.Insn.{Insn}
use Rattle.bpf_isa.specs.declared.instruction.Insn.TheVariants as insn
use Rattle.bpf_isa.specs.declared.instruction.LoadSize.{LoadSize}
use Rattle.bpf_isa.specs.declared.instruction.LoadSize.TheVariants.{Plain, Signed}
use Rattle.bpf_isa.specs.declared.instruction.SignedSize.{SignedSize}
use Rattle.bpf_isa.specs.declared.instruction.Size.{Size}
use Rattle.bpf_isa.specs.declared.instruction.Source.{Source}
use Rattle.bpf_isa.specs.declared.instruction.Source.TheVariants as source
use Rattle.bpf_isa.specs.declared.instruction.SwapWidth.{SwapWidth}
use Rattle.bpf_isa.specs.declared.instruction.Width.{Width}
use Rattle.bpf_entries.specs.Status.{has_ended}
use Rattle.bpf_entries.specs.declared.status.Fault.TheVariants.{Access}
use Rattle.bpf_entries.specs.declared.status.Status.{Status}
use Rattle.bpf_entries.specs.declared.status.Status.TheVariants.{Faulted}
use Rattle.bpf_steps.specs.declared.change.Change.{Change}
use Rattle.bpf_steps.specs.declared.change.Change.TheVariants.{Set, Go, Store, Stop}
use Rattle.bpf_steps.specs.Access.{address, access, fault}
use Rattle.bpf_steps.specs.Arithmetic.{result, negated, sign_extended}
use Rattle.bpf_machine.specs.Edits.{with_run}
use Rattle.bpf_steps.specs.Entries.{entry_of}
use Rattle.bpf_steps.specs.Jumps.{holds}
use Rattle.bpf_steps.specs.Next.{operand, target, change_by, change, changed, next}
use Rattle.bpf_steps.specs.Numbers.{bits_of, wrap, extended}
use Rattle.bpf_steps.specs.Platform.{frame_base}
use Rattle.bpf_steps.specs.Regions.{index_of, number_at}
use Rattle.bpf_steps.specs.State.{State, IsState, register, depth}
use Rattle.bpf_steps.specs.Swaps.{swapped}
use Rattle.bpf_machine.proofs.StepLaws.{change_at}
use Rattle.bpf_origin.specs.declared.place.Place.{Place}
use Rattle.bpf_origin.specs.declared.place.Place.TheVariants.{Register, Byte}
use Rattle.bpf_origin.specs.declared.place.Part.{Part}
use Rattle.bpf_origin.specs.declared.place.Part.TheVariants as part
use Rattle.bpf_origin.specs.Laws.{WroteAlike}
use Rattle.bpf_origin.specs.Matters.{IsBeside, DifferAt, Matters, Decides}
use Rattle.bpf_origin.specs.Places.{depth_for, same, bytes_from, places_of}
use Rattle.bpf_origin.specs.Wanted.{is_in}
use Rattle.bpf_origin.specs.Reads.{of_register, of_source, of_first, load_len, reads_by, bases_by, conditions_by}
use Rattle.bpf_origin.proofs.Agreeing.{same_depth}
use Rattle.bpf_origin.proofs.Mattering.{with_register, register_here, register_else, register_is, one_small, Ready, ready, ready_register, ready_run, differ_register, differ_byte, reached, not_reached, Holds, number_held, cleared_first, byte_found, cleared_holds, set_holds, ready_cleared}
use Rattle.bpf_origin.proofs.Unlike.{WritesSome, as_changes, stop_unlike, set_alike, store_alike, some_bytes}

-- Numbers of which other results come.
abbrev first_of : BinaryOp → Width → ℕ → ℕ
first_of op width n = result op (bits_of width) (n % 2 ^ bits_of width) (2 % 2 ^ bits_of width)

abbrev second_of : BinaryOp → Width → ℕ → ℕ
second_of op width n = result op (bits_of width) (12 % 2 ^ bits_of width) (n % 2 ^ bits_of width)

first_tells : (op : BinaryOp) (width : Width) → op ≢ binaries.Mov → first_of op width 0 ≢ first_of op width 7
first_tells op width other = grind (arith, nat_tests)

second_tells : (op : BinaryOp) (width : Width) → second_of op width 2 ≢ second_of op width 5
second_tells op width = grind (arith, nat_tests)

pub negation_tells : (width : Width) → negated (bits_of width) (0 % 2 ^ bits_of width) ≢ negated (bits_of width) (1 % 2 ^ bits_of width)
negation_tells width = grind (arith, nat_tests)

pub extension_tells : (e : Extension) → sign_extended e 0 ≢ sign_extended e 1
extension_tells e = grind (arith, nat_tests)

pub swap_tells : (order : ByteOrder) (width : SwapWidth) → swapped order width 0 ≢ swapped order width 1
swap_tells order width = grind (arith, nat_tests)

pub few_bytes : (size : Size) → size_len size ≤ 8
few_bytes size = grind (arith)

few_signed : (size : SignedSize) → signed_len size ≤ 4
few_signed size = grind (arith)

-- What a load makes of a number.
abbrev loaded : LoadSize → ℕ → ℕ
loaded (Plain size) v = v
loaded (Signed size) v = extended (8 * signed_len size) 64 v

signed_tells : (size : SignedSize) (j : ℕ) → j < signed_len size → extended (8 * signed_len size) 64 (0 * 256 ^ j) ≢ extended (8 * signed_len size) 64 (1 * 256 ^ j)
signed_tells size zero low = grind (arith, nat_tests)
signed_tells size (suc zero) low = grind (arith, nat_tests)
signed_tells size (suc (suc zero)) low = grind (arith, nat_tests)
signed_tells size (suc (suc (suc zero))) low = grind (arith, nat_tests)
signed_tells size (suc (suc (suc (suc j)))) low = absurd (omega (arith, low, few_signed size))

plain_tells : (j : ℕ) → j < 8 → 0 * 256 ^ j ≢ 1 * 256 ^ j
plain_tells zero low = grind (arith)
plain_tells (suc zero) low = grind (arith)
plain_tells (suc (suc zero)) low = grind (arith)
plain_tells (suc (suc (suc zero))) low = grind (arith)
plain_tells (suc (suc (suc (suc zero)))) low = grind (arith)
plain_tells (suc (suc (suc (suc (suc zero))))) low = grind (arith)
plain_tells (suc (suc (suc (suc (suc (suc zero)))))) low = grind (arith)
plain_tells (suc (suc (suc (suc (suc (suc (suc zero))))))) low = grind (arith)
plain_tells (suc (suc (suc (suc (suc (suc (suc (suc j)))))))) low = absurd (omega (arith, low))

load_tells : (size : LoadSize) (j : ℕ) → j < load_len size → loaded size (0 * 256 ^ j) ≢ loaded size (1 * 256 ^ j)
load_tells (Plain size) j low = plain_tells j (omega (arith, low, few_bytes size))
load_tells (Signed size) j low = signed_tells size j low

store_tells : (size : Size) → slice_index (little_bytes (size_len size) (0 % 2 ^ 64)) 0 ≢ slice_index (little_bytes (size_len size) (1 % 2 ^ 64)) 0
store_tells size = grind (arith, nat_tests)

-- A number that decides a condition beside 0, each with 2.
abbrev deciding : Condition → ℕ
deciding tests.Equal = 2
deciding tests.NotEqual = 2
deciding _ = 3

deciding_small : (c : Condition) → deciding c < 2 ^ 64
deciding_small c = grind (arith)

abbrev decided : Condition → Width → ℕ → ℕ → Bool
decided c width m n = holds c (bits_of width) (m % 2 ^ bits_of width) (n % 2 ^ bits_of width)

first_decides : (c : Condition) (width : Width) → decided c width 0 2 ≢ decided c width (deciding c) 2
first_decides c width = grind (arith, nat_tests)

second_decides : (c : Condition) (width : Width) → decided c width 2 0 ≢ decided c width 2 (deciding c)
second_decides c width = grind (arith, nat_tests)

branches : (p q : Bool) (m n : ℕ) → p ≢ q → m ≢ n → (if p then m else n) ≢ (if q then m else n)
branches true true m n other apart e = other refl
branches true false m n other apart e = apart e
branches false true m n other apart e = apart (sym e)
branches false false m n other apart e = other refl

-- What holds of each number below one, and below two.
pub pick_one : (W : ℕ → Type 0) → W 0 → (n : ℕ) → n < 1 → W n
pick_one W a zero less = a
pick_one W a (suc n) less = absurd (omega (arith, less))

pub pick_two : (W : ℕ → Type 0) → W 0 → W 1 → (n : ℕ) → n < 2 → W n
pick_two W a b zero less = a
pick_two W a b (suc zero) less = b
pick_two W a b (suc (suc n)) less = absurd (omega (arith, less))

-- Parts of a table.
pub of_low : (s : State) (r : ℕ) → r < 10 → of_register s r ≡ part.Register (depth_for (depth s) r) r ∷ []
of_low s r low = ap (λ b. if b then part.Register (depth_for (depth s) r) r ∷ [] else []) (below r low)
  where
    below : (r : ℕ) → r < 10 → nat_lt r 10 ≡ true
    below r low = grind (arith, nat_tests)

pub told_in : (ps qs : List Part) (n d r : ℕ) → ps ≡ qs → slice_get (flat_map places_of qs) n ≡ Some (Register d r) → slice_get (flat_map places_of ps) n ≡ Some (Register d r)
told_in ps qs n d r e found = ap (λ xs. slice_get (flat_map places_of xs) n) e ∙ found

-- The places of a run of bytes.
pub nth_byte : (a n j : ℕ) (rest : List Place) → j < n → slice_get (bytes_from a n ++ rest) j ≡ Some (Byte ((a + j) % 2 ^ 64))
unfolding bytes_from
nth_byte a zero j rest low = absurd (omega (arith, low))
nth_byte a (suc n) zero rest low = ap (λ k. Some (Byte (k % 2 ^ 64))) (omega arith)
nth_byte a (suc n) (suc j) rest low =
    nth_byte (suc a) n j rest (omega (arith, low)) ∙ ap (λ k. Some (Byte (k % 2 ^ 64))) (omega arith)

pub byte_told : (a b n j : ℕ) (rest : List Place) → a ≡ b → j < n → b + j < 2 ^ 64 → slice_get (bytes_from a n ++ rest) j ≡ Some (Byte (b + j))
byte_told a b n j rest e low small =
    nth_byte a n j rest low ∙ ap (λ k. Some (Byte k)) (omega (arith, e, small))

pub count_bytes : (a n : ℕ) → length (bytes_from a n) ≡ n
unfolding bytes_from
count_bytes a zero = refl
count_bytes a (suc n) = let more = count_bytes (suc a) n in omega (arith, more)

pub no_register : (a n d r : ℕ) (rest : List Place) → is_in (Register d r) (bytes_from a n ++ rest) ≡ is_in (Register d r) rest
unfolding bytes_from
no_register a zero d r rest = refl
no_register a (suc n) d r rest = no_register (suc a) n d r rest

and_none : (b : Bool) → (b && false) ≡ false
and_none true = refl
and_none false = refl

pub other_register : (d e r q : ℕ) → q ≢ r → same (Register d r) (Register e q) ≡ false
other_register d e r q other = ap (λ b. (d == e) && b) (differs q r other) ∙ and_none (d == e)
  where
    differs : (q r : ℕ) → q ≢ r → (r == q) ≡ false
    differs q r other = grind (arith, nat_tests)

-- A register's part has no other register, and no byte.
pub none_of : (s : State) (q d r : ℕ) → q ≢ r → is_in (Register d r) (flat_map places_of (of_register s q)) ≡ false
none_of s q d r other = by_test (nat_lt q 10)
  where
    by_test : (b : Bool) → is_in (Register d r) (flat_map places_of (if b then part.Register (depth_for (depth s) q) q ∷ [] else [])) ≡ false
    by_test true = ap (λ b. b || false) (other_register d (depth_for (depth s) q) r q other)
    by_test false = refl

pub no_byte : (s : State) (q a : ℕ) → is_in (Byte a) (flat_map places_of (of_register s q)) ≡ false
no_byte s q a = by_test (nat_lt q 10)
  where
    by_test : (b : Bool) → is_in (Byte a) (flat_map places_of (if b then part.Register (depth_for (depth s) q) q ∷ [] else [])) ≡ false
    by_test true = refl
    by_test false = refl

-- A row: two states, and what their steps do.
module _ (x : State) (i : Insn) (table other : State → Insn → List Part) (n : ℕ) (a b : State) (differ : DifferAt table other i n x a b) (ta : Ready x i a) (tb : Ready x i b) where
  pub deep_both : depth a ≡ depth b
  deep_both = sym (same_depth x a ta.alike) ∙ same_depth x b tb.alike

  pub by_changes : (c d : Change) → change_by a i ≡ c → change_by b i ≡ d → (WroteAlike (changed a c) (entry_of a c) (changed b d) (entry_of b d) → ⊥) → Matters table other i n x
  by_changes c d e f unlike = record {
    a = a;
    b = b;
    differ = differ;
    seen = λ alike. unlike (as_changes a b c d (change_at a i ta.at ∙ e) (change_at b i tb.at ∙ f) alike);
  }

  pub by_sets : (r p q m k : ℕ) → r < 10 → p ≢ q → change_by a i ≡ Set r p m → change_by b i ≡ Set r q k → Matters table other i n x
  by_sets r p q m k low apart e f = by_changes (Set r p m) (Set r q k) e f (λ alike. apart (set_alike a b ta.is tb.is deep_both r p q m k low alike))

  pub by_stop : (c : Change) (status : Status) → WritesSome c → change_by a i ≡ c → change_by b i ≡ Stop status → Matters table other i n x
  by_stop c status some e f = by_changes c (Stop status) e f (stop_unlike a b c status some)

-- Addresses: the number that a base register holds for one.
wrap_small : (z : ℤ) → wrap 64 z < 2 ^ 64
wrap_small (pos n) = omega arith
wrap_small (negsuc n) = omega arith

abbrev pub base_for : ℕ → ℤ → ℕ
base_for a offset = (a + (2 ^ 64 - wrap 64 offset)) % 2 ^ 64

pub base_small : (a : ℕ) (offset : ℤ) → base_for a offset < 2 ^ 64
base_small a offset = omega arith

based : (a o : ℕ) → a < 2 ^ 64 → o < 2 ^ 64 → ((a + (2 ^ 64 - o)) % 2 ^ 64 + o) % 2 ^ 64 ≡ a
based a o low small = omega (arith, low, small)

pub address_is : (s : State) (at : Address) (a : ℕ) → a < 2 ^ 64 → register s at.base ≡ base_for a at.offset → address s at ≡ a
address_is s at a low e = ap (λ v. (v + wrap 64 at.offset) % 2 ^ 64) e ∙ based a (wrap 64 at.offset) low (wrap_small at.offset)

pub access_goes : (s : State) (n : ℕ) (f : ℕ → Change) → IsState s → 1 ≤ n → n ≤ 8 → (at : ℕ) × (index_of s.memory (frame_base 0) n ≡ Some at) × (access s (frame_base 0) n f ≡ f at)
access_goes s n f is some few =
    let found = reached s n is some few in
    (found.0, found.2, ap (λ o. option_map_or f o (fault (frame_base 0))) found.1)

pub access_stops : (s : State) (n : ℕ) (f : ℕ → Change) → access s 0 n f ≡ Stop (Faulted (Access 0))
access_stops s n f = ap (λ o. option_map_or f o (fault 0)) (not_reached s n)

pub some_signed : (size : SignedSize) → 1 ≤ signed_len size
some_signed size = grind (arith)

few_loaded : (size : LoadSize) → load_len size ≤ 8
few_loaded (Plain size) = few_bytes size
few_loaded (Signed size) = omega (arith, few_signed size)

some_loaded : (size : LoadSize) → 1 ≤ load_len size
some_loaded (Plain size) = some_bytes size
some_loaded (Signed size) = some_signed size

-- What instructions do, by the values of their registers.
binary_is : (s : State) (op : BinaryOp) (width : Width) (dst : ℕ) (src : Source) (m n : ℕ) → register s dst ≡ m → operand s (bits_of width) src ≡ n % 2 ^ bits_of width → change_by s (insn.Binary op width dst src) ≡ Set dst (result op (bits_of width) (m % 2 ^ bits_of width) (n % 2 ^ bits_of width)) (s.pc + 1)
unfolding change_by
binary_is s op width dst src m n e f =
    ap (λ k. Set dst (result op (bits_of width) (k % 2 ^ bits_of width) (operand s (bits_of width) src)) (s.pc + 1)) e
    ∙ ap (λ k. Set dst (result op (bits_of width) (m % 2 ^ bits_of width) k) (s.pc + 1)) f

jump_is : (s : State) (c : Condition) (width : Width) (dst : ℕ) (src : Source) (offset : ℤ) (m n : ℕ) → register s dst ≡ m → operand s (bits_of width) src ≡ n % 2 ^ bits_of width → change_by s (insn.JumpIf c width dst src offset) ≡ Go (if decided c width m n then target s offset else s.pc + 1)
unfolding change_by
jump_is s c width dst src offset m n e f =
    ap (λ k. Go (if holds c (bits_of width) (k % 2 ^ bits_of width) (operand s (bits_of width) src) then target s offset else s.pc + 1)) e
    ∙ ap (λ k. Go (if holds c (bits_of width) (m % 2 ^ bits_of width) k then target s offset else s.pc + 1)) f

next_pc : (s : State) (n : ℕ) → change s ≡ Go n → (next s).pc ≡ n
unfolding changed
next_pc s n e = ap (λ (c : Change). (changed s c).pc) e

load_is : (s : State) (size : LoadSize) (dst : ℕ) (from : Address) (j v : ℕ) → IsState s → register s from.base ≡ base_for (frame_base 0) from.offset → Holds s.memory j v → j < load_len size → change_by s (insn.Load size dst from) ≡ Set dst (loaded size (v * 256 ^ j)) (s.pc + 1)
unfolding change_by
load_is s (Plain size) dst from j v is e h low =
    let n = size_len size in
    let goes = access_goes s n (λ at. Set dst (number_at s.memory at n) (s.pc + 1)) is (some_bytes size) (few_bytes size) in
    ap (λ a. access s a n (λ at. Set dst (number_at s.memory at n) (s.pc + 1))) (address_is s from (frame_base 0) (omega arith) e)
    ∙ goes.2
    ∙ ap (λ k. Set dst k (s.pc + 1)) (number_held s.memory j v n goes.0 is.image h low (few_bytes size) goes.1)
load_is s (Signed size) dst from j v is e h low =
    let n = signed_len size in
    let goes = access_goes s n (λ at. Set dst (extended (8 * n) 64 (number_at s.memory at n)) (s.pc + 1)) is (some_signed size) (omega (arith, few_signed size)) in
    ap (λ a. access s a n (λ at. Set dst (extended (8 * n) 64 (number_at s.memory at n)) (s.pc + 1))) (address_is s from (frame_base 0) (omega arith) e)
    ∙ goes.2
    ∙ ap (λ k. Set dst (extended (8 * n) 64 k) (s.pc + 1)) (number_held s.memory j v n goes.0 is.image h low (omega (arith, few_signed size)) goes.1)

load_stops : (s : State) (size : LoadSize) (dst : ℕ) (from : Address) → register s from.base ≡ base_for 0 from.offset → change_by s (insn.Load size dst from) ≡ Stop (Faulted (Access 0))
unfolding change_by
load_stops s (Plain size) dst from e =
    ap (λ a. access s a (size_len size) (λ at. Set dst (number_at s.memory at (size_len size)) (s.pc + 1))) (address_is s from 0 (omega arith) e)
    ∙ access_stops s (size_len size) _
load_stops s (Signed size) dst from e =
    ap (λ a. access s a (signed_len size) (λ at. Set dst (extended (8 * signed_len size) 64 (number_at s.memory at (signed_len size))) (s.pc + 1))) (address_is s from 0 (omega arith) e)
    ∙ access_stops s (signed_len size) _

store_is : (s : State) (size : Size) (to : Address) (src : Source) (v : ℕ) → IsState s → register s to.base ≡ base_for (frame_base 0) to.offset → operand s 64 src ≡ v → (at : ℕ) × (index_of s.memory (frame_base 0) (size_len size) ≡ Some at) × (change_by s (insn.Store size to src) ≡ Store (frame_base 0) at size v (s.pc + 1))
unfolding change_by
store_is s size to src v is e f =
    let goes = access_goes s (size_len size) (λ at. Store (frame_base 0) at size v (s.pc + 1)) is (some_bytes size) (few_bytes size) in (
      goes.0,
      goes.1,
      ap (λ a. access s a (size_len size) (λ at. Store a at size (operand s 64 src) (s.pc + 1))) (address_is s to (frame_base 0) (omega arith) e)
          ∙ ap (λ k. access s (frame_base 0) (size_len size) (λ at. Store (frame_base 0) at size k (s.pc + 1))) f
          ∙ goes.2,
    )

store_stops : (s : State) (size : Size) (to : Address) (src : Source) → register s to.base ≡ base_for 0 to.offset → change_by s (insn.Store size to src) ≡ Stop (Faulted (Access 0))
unfolding change_by
store_stops s size to src e =
    ap (λ a. access s a (size_len size) (λ at. Store a at size (operand s 64 src) (s.pc + 1))) (address_is s to 0 (omega arith) e)
    ∙ access_stops s (size_len size) _

module _ (x : State) (hx : IsState x) (on : has_ended x.status ≡ false) where
  -- A register, of which one number is read.
  pub unary_row : (i : Insn) (dst r : ℕ) (f : ℕ → ℕ) → insn_at x.program x.pc ≡ Some i → dst < 10 → r < 10 → ((s : State) → change_by s i ≡ Set dst (f (register s r)) (s.pc + 1)) → f 0 ≢ f 1 → ((s : State) → reads_by s i ≡ of_register s r) → ((s : State) → bases_by s i ≡ []) → Matters reads_by bases_by i 0 x
  unary_row i dst r f here low within does tells reads bases =
      let s = with_register x r 0 in
      let b = with_register s r 1 in
      let t = ready_register x i x r 0 (omega arith) (ready x i hx on here) in
      let u = ready_register x i s r 1 (omega arith) t in
      let differ = differ_register x i reads_by bases_by 0 s r 1 within (omega arith) t (told_in (reads_by s i) (part.Register (depth_for (depth s) r) r ∷ []) 0 _ r (reads s ∙ of_low s r within) refl) (ap (λ ps. is_in (Register (depth_for (depth s) r) r) (flat_map places_of ps)) (bases s)) in
      by_sets x i reads_by bases_by 0 s b differ t u dst (f 0) (f 1) (s.pc + 1) (b.pc + 1) low tells
      (does s ∙ ap (λ v. Set dst (f v) (s.pc + 1)) (register_here x r 0 hx within))
      (does b ∙ ap (λ v. Set dst (f v) (b.pc + 1)) (register_here s r 1 t.is within))

-- States whose register dst holds m, with 2 for the second operand.
pub record Beside (x : State) (i : Insn) (dst : ℕ) (src : Source) (m : ℕ) : Type 0 where
  pub s : State
  pub t : Ready x i s
  pub first : register s dst ≡ m
  pub second : (w : ℕ) → operand s w src ≡ 2 % 2 ^ w
  pub stays : (v w : ℕ) → operand (with_register s dst v) w src ≡ 2 % 2 ^ w
  pub same_pc : s.pc ≡ x.pc

pub beside : (x : State) (i : Insn) (dst : ℕ) (src : Source) (m : ℕ) → Ready x i x → dst < 10 → m < 2 ^ 64 → IsBeside dst src → Beside x i dst src m
beside x i dst (source.Immediate imm) m t low small is = record {
  s = with_register x dst m;
  t = ready_register x i x dst m small t;
  first = register_here x dst m t.is low;
  second = λ w. ap (wrap w) is;
  stays = λ v w. ap (wrap w) is;
  same_pc = refl;
}
beside x i dst (source.Register r) m t low small is =
    let u = ready_register x i x dst m small t in
    let s = with_register (with_register x dst m) r 2 in
    let apart : dst ≢ r = λ e. is.1 (sym e) in
    record {
      s = s;
      t = ready_register x i (with_register x dst m) r 2 (omega arith) u;
      first = register_else (with_register x dst m) r 2 dst apart ∙ register_here x dst m t.is low;
      second = λ w. ap (λ v. v % 2 ^ w) (register_here (with_register x dst m) r 2 u.is is.0);
      stays = λ v w. ap (λ k. k % 2 ^ w) (register_else s dst v r is.1 ∙ register_here (with_register x dst m) r 2 u.is is.0);
      same_pc = refl;
    }

-- Registers q and r that hold two numbers.
abbrev pub two : State → ℕ → ℕ → ℕ → ℕ → State
two x q m r n = with_register (with_register x q m) r n

pub ready_two : (x : State) (i : Insn) (s : State) (q m r n : ℕ) → m < 2 ^ 64 → n < 2 ^ 64 → Ready x i s → Ready x i (two s q m r n)
ready_two x i s q m r n low small t = ready_register x i (with_register s q m) r n small (ready_register x i s q m low t)

pub two_first : (s : State) (q m r n : ℕ) → IsState s → q < 10 → q ≢ r → register (two s q m r n) q ≡ m
two_first s q m r n is low apart = register_else (with_register s q m) r n q apart ∙ register_here s q m is low

pub two_second : (s : State) (q m r n : ℕ) → IsState s → m < 2 ^ 64 → r < 10 → register (two s q m r n) r ≡ n
two_second s q m r n is small low = register_here (with_register s q m) r n (register_is s q m is small) low

module _ (x : State) (hx : IsState x) (on : has_ended x.status ≡ false) where
  -- Arithmetic.
  pub binary_first : (op : BinaryOp) (width : Width) (dst : ℕ) (src : Source) → insn_at x.program x.pc ≡ Some (insn.Binary op width dst src) → dst < 10 → IsBeside dst src → op ≢ binaries.Mov → ((s : State) → of_first s op dst ≡ of_register s dst) → Matters reads_by bases_by (insn.Binary op width dst src) 0 x
  binary_first op width dst src here low is other first =
      let i : Insn = insn.Binary op width dst src in
      let p = beside x i dst src 0 (ready x i hx on here) low (omega arith) is in
      let b = with_register p.s dst 7 in
      let u = ready_register x i p.s dst 7 (omega arith) p.t in
      let differ = differ_register x i reads_by bases_by 0 p.s dst 7 low (omega arith) p.t (told_in (reads_by p.s i) (part.Register (depth_for (depth p.s) dst) dst ∷ of_source p.s src) 0 _ dst (ap (λ ps. ps ++ of_source p.s src) (first p.s ∙ of_low p.s dst low)) refl) refl in
      by_sets x i reads_by bases_by 0 p.s b differ p.t u dst (first_of op width 0) (first_of op width 7) (p.s.pc + 1) (b.pc + 1) low (first_tells op width other)
      (binary_is p.s op width dst src 0 2 p.first (p.second (bits_of width)))
      (binary_is b op width dst src 7 2 (register_here p.s dst 7 p.t.is low) (p.stays 7 (bits_of width)))

  pub binary_second : (op : BinaryOp) (width : Width) (dst r n : ℕ) → insn_at x.program x.pc ≡ Some (insn.Binary op width dst (source.Register r)) → dst < 10 → r < 10 → r ≢ dst → ((s : State) → slice_get (flat_map places_of (of_first s op dst ++ (part.Register (depth_for (depth s) r) r ∷ []))) n ≡ Some (Register (depth_for (depth s) r) r)) → Matters reads_by bases_by (insn.Binary op width dst (source.Register r)) n x
  binary_second op width dst r n here low within apart there =
      let i : Insn = insn.Binary op width dst (source.Register r) in
      let w = bits_of width in
      let s = two x dst 12 r 2 in
      let b = with_register s r 5 in
      let t = ready_two x i x dst 12 r 2 (omega arith) (omega arith) (ready x i hx on here) in
      let u = ready_register x i s r 5 (omega arith) t in
      let other : dst ≢ r = λ e. apart (sym e) in
      let first = two_first x dst 12 r 2 hx low other in
      let differ = differ_register x i reads_by bases_by n s r 5 within (omega arith) t (told_in (reads_by s i) (of_first s op dst ++ (part.Register (depth_for (depth s) r) r ∷ [])) n _ r (ap (λ ps. of_first s op dst ++ ps) (of_low s r within)) (there s)) refl in
      by_sets x i reads_by bases_by n s b differ t u dst (second_of op width 2) (second_of op width 5) (s.pc + 1) (b.pc + 1) low (second_tells op width)
      (binary_is s op width dst (source.Register r) 12 2 first (ap (λ v. v % 2 ^ w) (two_second x dst 12 r 2 hx (omega arith) within)))
      (binary_is b op width dst (source.Register r) 12 5 (register_else s r 5 dst other ∙ first) (ap (λ v. v % 2 ^ w) (register_here s r 5 t.is within)))

  -- Conditional jumps.
  pub jump_first : (c : Condition) (width : Width) (dst : ℕ) (src : Source) (offset : ℤ) → insn_at x.program x.pc ≡ Some (insn.JumpIf c width dst src offset) → dst < 10 → IsBeside dst src → target x offset ≢ x.pc + 1 → Decides (insn.JumpIf c width dst src offset) 0 x
  jump_first c width dst src offset here low is far =
      let i : Insn = insn.JumpIf c width dst src offset in
      let p = beside x i dst src 0 (ready x i hx on here) low (omega arith) is in
      let v = deciding c in
      let b = with_register p.s dst v in
      let u = ready_register x i p.s dst v (deciding_small c) p.t in
      let apart : target p.s offset ≢ p.s.pc + 1 = subst (λ k. unsigned_abs (pos (k + 1) +ℤ offset) ≢ k + 1) (sym p.same_pc) far in
      record {
        a = p.s;
        b = b;
        differ = differ_register x i conditions_by reads_by 0 p.s dst v low (deciding_small c) p.t (told_in (conditions_by p.s i) (part.Register (depth_for (depth p.s) dst) dst ∷ of_source p.s src) 0 _ dst (ap (λ ps. ps ++ of_source p.s src) (of_low p.s dst low)) refl) refl;
        seen = λ alike. branches (decided c width 0 2) (decided c width v 2) (target p.s offset) (p.s.pc + 1) (first_decides c width) apart
            (sym (next_pc p.s _ (change_at p.s i p.t.at ∙ jump_is p.s c width dst src offset 0 2 p.first (p.second (bits_of width))))
            ∙ alike.pc
            ∙ next_pc b _ (change_at b i u.at ∙ jump_is b c width dst src offset v 2 (register_here p.s dst v p.t.is low) (p.stays v (bits_of width))));
      }

  pub jump_second : (c : Condition) (width : Width) (dst r : ℕ) (offset : ℤ) → insn_at x.program x.pc ≡ Some (insn.JumpIf c width dst (source.Register r) offset) → dst < 10 → r < 10 → r ≢ dst → target x offset ≢ x.pc + 1 → Decides (insn.JumpIf c width dst (source.Register r) offset) 1 x
  jump_second c width dst r offset here low within apart far =
      let i : Insn = insn.JumpIf c width dst (source.Register r) offset in
      let w = bits_of width in
      let v = deciding c in
      let s = two x dst 2 r 0 in
      let b = with_register s r v in
      let t = ready_two x i x dst 2 r 0 (omega arith) (omega arith) (ready x i hx on here) in
      let u = ready_register x i s r v (deciding_small c) t in
      let other : dst ≢ r = λ e. apart (sym e) in
      let first = two_first x dst 2 r 0 hx low other in
      record {
        a = s;
        b = b;
        differ = differ_register x i conditions_by reads_by 1 s r v within (deciding_small c) t (told_in (conditions_by s i) (part.Register (depth_for (depth s) dst) dst ∷ (part.Register (depth_for (depth s) r) r ∷ [])) 1 _ r (ap (λ ps. ps ++ of_register s r) (of_low s dst low) ∙ ap (λ ps. part.Register (depth_for (depth s) dst) dst ∷ ps) (of_low s r within)) refl) refl;
        seen = λ alike. branches (decided c width 2 0) (decided c width 2 v) (target x offset) (x.pc + 1) (second_decides c width) far
            (sym (next_pc s _ (change_at s i t.at ∙ jump_is s c width dst (source.Register r) offset 2 0 first (ap (λ k. k % 2 ^ w) (two_second x dst 2 r 0 hx (omega arith) within))))
            ∙ alike.pc
            ∙ next_pc b _ (change_at b i u.at ∙ jump_is b c width dst (source.Register r) offset 2 v (register_else s r v dst other ∙ first) (ap (λ k. k % 2 ^ w) (register_here s r v t.is within))));
      }

  -- Loads.
  pub load_row : (size : LoadSize) (dst : ℕ) (from : Address) (j : ℕ) → insn_at x.program x.pc ≡ Some (insn.Load size dst from) → dst < 10 → from.base < 10 → j < load_len size → Matters reads_by bases_by (insn.Load size dst from) j x
  load_row size dst from j here low within inside =
      let i : Insn = insn.Load size dst from in
      let few : j < 8 = omega (arith, inside, few_loaded size) in
      let base = base_for (frame_base 0) from.offset in
      let m = cleared_first x in
      let k = ready_cleared x i x (ready x i hx on here) in
      let s = with_register m from.base base in
      let t = ready_register x i m from.base base (base_small (frame_base 0) from.offset) k in
      let found = byte_found s j t.is few in
      let b = with_run s (frame_base 0 + j) (1 ∷ []) in
      let u = ready_run x i s (frame_base 0 + j) found.0 (1 ∷ []) found.1 (one_small 1 (omega arith)) t in
      let held = register_here m from.base base k.is within in
      let zero = cleared_holds x j few hx in
      let at = address_is s from (frame_base 0) (omega arith) held in
      let differ = differ_byte x i reads_by bases_by j s (frame_base 0 + j) found.0 1 found.1 (omega arith) t (byte_told (address s from) (frame_base 0) (load_len size) j [] at inside (omega (arith, few))) (no_byte s from.base (frame_base 0 + j)) in
      by_sets x i reads_by bases_by j s b differ t u dst (loaded size (0 * 256 ^ j)) (loaded size (1 * 256 ^ j)) (s.pc + 1) (b.pc + 1) low (load_tells size j inside)
      (load_is s size dst from j 0 t.is held zero inside)
      (load_is b size dst from j 1 u.is held (set_holds s j found.0 0 1 few t.is found.1 zero) inside)

  pub load_base : (size : LoadSize) (dst : ℕ) (from : Address) → insn_at x.program x.pc ≡ Some (insn.Load size dst from) → dst < 10 → from.base < 10 → Matters bases_by reads_by (insn.Load size dst from) 0 x
  load_base size dst from here low within =
      let i : Insn = insn.Load size dst from in
      let base = base_for (frame_base 0) from.offset in
      let none = base_for 0 from.offset in
      let m = cleared_first x in
      let k = ready_cleared x i x (ready x i hx on here) in
      let s = with_register m from.base base in
      let t = ready_register x i m from.base base (base_small (frame_base 0) from.offset) k in
      let b = with_register s from.base none in
      let u = ready_register x i s from.base none (base_small 0 from.offset) t in
      let differ = differ_register x i bases_by reads_by 0 s from.base none within (base_small 0 from.offset) t (told_in (bases_by s i) (part.Register (depth_for (depth s) from.base) from.base ∷ []) 0 _ from.base (of_low s from.base within) refl) (no_register (address s from) (load_len size) (depth_for (depth s) from.base) from.base []) in
      by_stop x i bases_by reads_by 0 s b differ t u (Set dst (loaded size (0 * 256 ^ 0)) (s.pc + 1)) (Faulted (Access 0)) tt
      (load_is s size dst from 0 0 t.is (register_here m from.base base k.is within) (cleared_holds x 0 (omega arith) hx) (some_loaded size))
      (load_stops b size dst from (register_here s from.base none t.is within))

  -- Stores.
  pub store_row : (size : Size) (to : Address) (r : ℕ) → insn_at x.program x.pc ≡ Some (insn.Store size to (source.Register r)) → to.base < 10 → r < 10 → r ≢ to.base → Matters reads_by bases_by (insn.Store size to (source.Register r)) 0 x
  store_row size to r here within low apart =
      let i : Insn = insn.Store size to (source.Register r) in
      let base = base_for (frame_base 0) to.offset in
      let small = base_small (frame_base 0) to.offset in
      let s = two x to.base base r 0 in
      let t = ready_two x i x to.base base r 0 small (omega arith) (ready x i hx on here) in
      let b = with_register s r 1 in
      let u = ready_register x i s r 1 (omega arith) t in
      let other : to.base ≢ r = λ e. apart (sym e) in
      let held = two_first x to.base base r 0 hx within other in
      let one = store_is s size to (source.Register r) (0 % 2 ^ 64) t.is held (ap (λ v. v % 2 ^ 64) (two_second x to.base base r 0 hx small low)) in
      let two = store_is b size to (source.Register r) (1 % 2 ^ 64) u.is (register_else s r 1 to.base other ∙ held) (ap (λ v. v % 2 ^ 64) (register_here s r 1 t.is low)) in
      let differ = differ_register x i reads_by bases_by 0 s r 1 low (omega arith) t (told_in (reads_by s i) (part.Register (depth_for (depth s) r) r ∷ []) 0 _ r (of_low s r low) refl) (none_of s to.base (depth_for (depth s) r) r other) in
      by_changes x i reads_by bases_by 0 s b differ t u (Store (frame_base 0) one.0 size (0 % 2 ^ 64) (s.pc + 1)) (Store (frame_base 0) two.0 size (1 % 2 ^ 64) (b.pc + 1)) one.2 two.2
      (λ alike. store_tells size (store_alike s b 0 one.0 two.0 (0 % 2 ^ 64) (1 % 2 ^ 64) (s.pc + 1) (b.pc + 1) size (some_bytes size) t.is u.is one.1 two.1 alike))

  pub store_base : (size : Size) (to : Address) (src : Source) → insn_at x.program x.pc ≡ Some (insn.Store size to src) → to.base < 10 → IsBeside to.base src → Matters bases_by reads_by (insn.Store size to src) 0 x
  store_base size to src here within is =
      let i : Insn = insn.Store size to src in
      let base = base_for (frame_base 0) to.offset in
      let none = base_for 0 to.offset in
      let s = with_register x to.base base in
      let t = ready_register x i x to.base base (base_small (frame_base 0) to.offset) (ready x i hx on here) in
      let b = with_register s to.base none in
      let u = ready_register x i s to.base none (base_small 0 to.offset) t in
      let one = store_is s size to src (operand s 64 src) t.is (register_here x to.base base hx within) refl in
      let differ = differ_register x i bases_by reads_by 0 s to.base none within (base_small 0 to.offset) t (told_in (bases_by s i) (part.Register (depth_for (depth s) to.base) to.base ∷ []) 0 _ to.base (of_low s to.base within) refl) (unread s src is) in
      by_stop x i bases_by reads_by 0 s b differ t u (Store (frame_base 0) one.0 size (operand s 64 src) (s.pc + 1)) (Faulted (Access 0)) tt one.2
      (store_stops b size to src (register_here s to.base none t.is within))
    where
      unread : (s : State) (src : Source) → IsBeside to.base src → is_in (Register (depth_for (depth s) to.base) to.base) (flat_map places_of (of_source s src)) ≡ false
      unread s (source.Immediate imm) is = refl
      unread s (source.Register r) is = none_of s r (depth_for (depth s) to.base) to.base is.1
