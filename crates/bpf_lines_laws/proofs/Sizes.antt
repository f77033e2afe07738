-- How long the words of a program are, and where its code begins by that.
use Rattle.std.proofs.Common.{◌≡◌, ◌≤◌, ◌<◌, ℕ, ◌+◌, ◌*◌, ◌==◌, Bool, true, false, List, ◌++◌, length, Option, refl, ap, ◌∙◌, arith, length-append}
use Rattle.std.specs.Prelude.{◌&&◌, if◌then◌else◌}
use Rattle.std.proofs.lemmas.Bool.Decides.{nat_tests}
use Rattle.byteorder.specs.Endian.{little_bytes}
use Rattle.byteorder.specs.Numbers.{length-bytes_low_first}
use Rattle.bpf_link.specs.Setup.{clear_words, jump_words, with_setup}
use Rattle.bpf_link.specs.Untouched.{lead}
use Rattle.bpf_lines.specs.Objects.{begin_of, entry_slots}
use Rattle.bpf_packet.specs.declared.packet.Packet.{Packet}

-- so many slots of code stand behind the first ones, or behind a jump, too, and then there may be more words
pub data Fits (jumps size slots : ℕ) : Type 0 where
  Alone : jumps ≡ 0 → size ≡ 8 * slots → Fits jumps size slots
  Behind : jumps ≡ 1 → 8 * slots + 8 ≤ size → Fits jumps size slots

jump_length : (distance : ℕ) → length (jump_words distance) ≡ 8
jump_length distance = let four : length (little_bytes 4 distance) ≡ 4 = length-bytes_low_first 0 4 distance in omega (arith, four)

fits_by : (none first : Bool) (a b entry slots : ℕ) (code stores : List ℕ) → length code ≡ 8 * slots
    → Fits (if none && first then 0 else 1) (length (if none then (if first then code else jump_words entry ++ code) else (jump_words a ++ code) ++ (stores ++ clear_words) ++ jump_words b)) slots
fits_by true true a b entry slots code stores size = Alone refl size
fits_by true false a b entry slots code stores size =
    let jump = jump_length entry in
    let both = length-append (jump_words entry) code in
    Behind refl (omega (arith, jump, both, size))
fits_by false first a b entry slots code stores size =
    let begun = jump_words a ++ code in
    let jump = jump_length a in
    let front = length-append (jump_words a) code in
    let more = length-append begun (stores ++ clear_words) in
    let all = length-append (begun ++ (stores ++ clear_words)) (jump_words b) in
    Behind refl (omega (arith, jump, front, more, all, size))

pub setup_fits : (code stores : List ℕ) (entry slots : ℕ) → length code ≡ 8 * slots → Fits (lead stores entry) (length (with_setup code stores entry)) slots
setup_fits code stores entry slots size = fits_by (length stores == 0) (entry == 0) _ _ entry slots code stores size

is_equal : (a b : ℕ) → a ≡ b → (a == b) ≡ true
is_equal a b e = grind (arith, nat_tests)

is_apart : (a b : ℕ) → b < a → (a == b) ≡ false
is_apart a b less = grind (arith, nat_tests)

-- where the code begins
pub begins : (packet : Option Packet) (words : List ℕ) (jumps count : ℕ) → Fits jumps (length words) (entry_slots packet + count) → begin_of packet words count ≡ entry_slots packet + jumps
begins packet words jumps count (Alone none size) =
    let e = entry_slots packet in
    ap (λ b. if b then e else e + 1) (is_equal (length words) (8 * (e + count)) size) ∙ omega (arith, none)
begins packet words jumps count (Behind one size) =
    let e = entry_slots packet in
    ap (λ b. if b then e else e + 1) (is_apart (length words) (8 * (e + count)) (omega (arith, size))) ∙ omega (arith, one)

-- behind the slots of an entry
pub fits_on : (jumps size whole front slots : ℕ) → Fits jumps size slots → (size ≡ 8 * slots → whole ≡ 8 * (front + slots)) → (8 * slots + 8 ≤ size → 8 * (front + slots) + 8 ≤ whole)
    → Fits jumps whole (front + slots)
fits_on jumps size whole front slots (Alone none is) same more = Alone none (same is)
fits_on jumps size whole front slots (Behind one is) same more = Behind one (more is)

-- so far do they reach
pub reaches : (jumps size slots n : ℕ) → Fits jumps size slots → n < slots → 8 * (jumps + n) + 8 ≤ size
reaches jumps size slots n (Alone none is) low = omega arith
reaches jumps size slots n (Behind one is) low = omega arith
