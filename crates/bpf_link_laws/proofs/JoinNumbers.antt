-- Numbers in bytes: what is read where a number was put, and what stays beside it.
use Rattle.std.proofs.Common.{◌≡◌, ◌<◌, ◌≤◌, ℕ, ◌+◌, ◌-◌, ◌*◌, List, ◌++◌, length, take, drop, get_or, sym, ap, ◌∙◌, arith}
use Rattle.std.proofs.lemmas.List.{get_or-append_right, get_or_append_left, get_or-take, get_or-drop}
use Rattle.std.proofs.lemmas.Grind.{common_steps}
use Rattle.byteorder.specs.Endian.{little_bytes}
use Rattle.byteorder.specs.Numbers.{length-bytes_low_first, little_number-reads_back}
use Rattle.bpf_isa.specs.Words.{u16_at, u32_at}

-- a number in so many bytes at a place
abbrev pub put : ℕ → List ℕ → ℕ → ℕ → List ℕ
put w bytes at n = take at bytes ++ (little_bytes w n ++ drop (at + w) bytes)

before : (bytes : List ℕ) (at : ℕ) → at ≤ length bytes → length (take at bytes) ≡ at
before bytes at fits = grind (arith, common_steps)

pub put_length : (w : ℕ) (bytes : List ℕ) (at n : ℕ) → at + w ≤ length bytes → length (put w bytes at n) ≡ length bytes
put_length w bytes at n fits = let size : length (little_bytes w n) ≡ w = length-bytes_low_first 0 w n in grind (arith, common_steps)

pub put_low : (w : ℕ) (bytes : List ℕ) (at n j : ℕ) → at + w ≤ length bytes → j < at → get_or (put w bytes at n) j 0 ≡ get_or bytes j 0
put_low w bytes at n j fits low =
    let size = before bytes at (omega arith) in
    get_or_append_left (take at bytes) (little_bytes w n ++ drop (at + w) bytes) 0 j (omega arith) ∙ get_or-take at bytes j 0 low

pub put_high : (w : ℕ) (bytes : List ℕ) (at n j : ℕ) → at + w ≤ length bytes → at + w ≤ j → get_or (put w bytes at n) j 0 ≡ get_or bytes j 0
put_high w bytes at n j fits high =
    get_or-append_right (take at bytes) (little_bytes w n ++ drop (at + w) bytes) at j 0 (before bytes at (omega arith)) (omega arith)
    ∙ get_or-append_right (little_bytes w n) (drop (at + w) bytes) w (j - at) 0 (length-bytes_low_first 0 w n) (omega arith)
    ∙ get_or-drop (at + w) bytes (j - at - w) 0
    ∙ ap (λ i. get_or bytes i 0) (omega arith)

pub put_in : (w : ℕ) (bytes : List ℕ) (at n k : ℕ) → at + w ≤ length bytes → k < w → get_or (put w bytes at n) (at + k) 0 ≡ get_or (little_bytes w n) k 0
put_in w bytes at n k fits inside =
    let size : length (little_bytes w n) ≡ w = length-bytes_low_first 0 w n in
    get_or-append_right (take at bytes) (little_bytes w n ++ drop (at + w) bytes) at (at + k) 0 (before bytes at (omega arith)) (omega arith)
    ∙ ap (λ i. get_or (little_bytes w n ++ drop (at + w) bytes) i 0) (omega arith)
    ∙ get_or_append_left (little_bytes w n) (drop (at + w) bytes) 0 k (omega arith)

-- so many bytes of two lists are the same
abbrev pub AreSame : ℕ → List ℕ → ℕ → List ℕ → ℕ → Type 0
AreSame w xs i ys j = (k : ℕ) → k < w → get_or xs (i + k) 0 ≡ get_or ys (j + k) 0

-- a byte of them, at other spellings of its places
pub byte_of : (w : ℕ) (xs : List ℕ) (i : ℕ) (ys : List ℕ) (j k a b : ℕ) → AreSame w xs i ys j → k < w → a ≡ i + k → b ≡ j + k → get_or xs a 0 ≡ get_or ys b 0
byte_of w xs i ys j k a b same inside here there = ap (λ n. get_or xs n 0) here ∙ same k inside ∙ ap (λ n. get_or ys n 0) (omega (arith, there))

pub part_of : (w : ℕ) (xs : List ℕ) (i : ℕ) (ys : List ℕ) (j at v : ℕ) → AreSame w xs i ys j → at + v ≤ w → AreSame v xs (i + at) ys (j + at)
part_of w xs i ys j at v same fits = λ k inside. byte_of w xs i ys j (at + k) (i + at + k) (j + at + k) same (omega arith) (omega arith) (omega arith)

pub u16_same : (xs : List ℕ) (i : ℕ) (ys : List ℕ) (j : ℕ) → AreSame 2 xs i ys j → u16_at xs i ≡ u16_at ys j
u16_same xs i ys j same =
    let a : get_or xs i 0 ≡ get_or ys j 0 = byte_of 2 xs i ys j 0 i j same (omega arith) (omega arith) (omega arith) in
    let b : get_or xs (i + 1) 0 ≡ get_or ys (j + 1) 0 = same 1 (omega arith) in
    omega (arith, a, b)

pub u32_same : (xs : List ℕ) (i : ℕ) (ys : List ℕ) (j : ℕ) → AreSame 4 xs i ys j → u32_at xs i ≡ u32_at ys j
u32_same xs i ys j same =
    let a : u16_at xs i ≡ u16_at ys j = u16_same xs i ys j (λ k inside. same k (omega arith)) in
    let b : u16_at xs (i + 2) ≡ u16_at ys (j + 2) = u16_same xs (i + 2) ys (j + 2) (part_of 4 xs i ys j 2 2 same (omega arith)) in
    ap (λ n. n + 65536 * u16_at xs (i + 2)) a ∙ ap (λ n. u16_at ys j + 65536 * n) b

-- the numbers in the bytes that stand for one
abbrev pub number_of : ℕ → ℕ → ℕ → ℕ → ℕ → ℕ → ℕ → ℕ → ℕ
number_of a b c d e f g h = ((a + 256 * b) + 65536 * (c + 256 * d)) + 4294967296 * ((e + 256 * f) + 65536 * (g + 256 * h))

regrouped : (a b c d e f g h n : ℕ) → a + 256 * (b + 256 * (c + 256 * (d + 256 * (e + 256 * (f + 256 * (g + 256 * (h + 256 * 0))))))) ≡ n → number_of a b c d e f g h ≡ n
regrouped a b c d e f g h n e8 = omega arith

four_grouped : (a b c d n : ℕ) → a + 256 * (b + 256 * (c + 256 * (d + 256 * 0))) ≡ n → (a + 256 * b) + 65536 * (c + 256 * d) ≡ n
four_grouped a b c d n e = omega arith

two_grouped : (a b n : ℕ) → a + 256 * (b + 256 * 0) ≡ n → a + 256 * b ≡ n
two_grouped a b n e = omega arith

pub u16_back : (n : ℕ) (rest : List ℕ) → n < 65536 → u16_at (little_bytes 2 n ++ rest) 0 ≡ n
u16_back n rest small = two_grouped _ _ n (little_number-reads_back 2 n rest small)

pub u32_back : (n : ℕ) (rest : List ℕ) → n < 4294967296 → u32_at (little_bytes 4 n ++ rest) 0 ≡ n
u32_back n rest small = four_grouped _ _ _ _ n (little_number-reads_back 4 n rest small)

pub u64_back : (n : ℕ) (rest : List ℕ) → n < 18446744073709551616 → u32_at (little_bytes 8 n ++ rest) 0 + 4294967296 * u32_at (little_bytes 8 n ++ rest) 4 ≡ n
u64_back n rest small = regrouped _ _ _ _ _ _ _ _ n (little_number-reads_back 8 n rest small)

-- bytes that stand alone
pub plain : (w : ℕ) (xs : List ℕ) (i : ℕ) (ys rest : List ℕ) → length ys ≡ w → ((k : ℕ) → k < w → get_or xs (i + k) 0 ≡ get_or ys k 0) → AreSame w xs i (ys ++ rest) 0
plain w xs i ys rest size same = λ k inside.
    let place : k ≡ 0 + k = omega arith in
    same k inside ∙ sym (get_or_append_left ys rest 0 k (omega (arith, size))) ∙ ap (λ n. get_or (ys ++ rest) n 0) place
