-- The numbers of eight bytes.
use Rattle.std.proofs.Common.{◌≡◌, ◌<◌, ◌+◌, ◌-◌, ◌*◌, ◌/◌, ◌%◌, ◌^◌, ◌+ℤ◌, ℕ, zero, suc, pos, negsuc, List, [], ◌∷◌, get_or, refl, sym, ap, ◌∙◌, arith}
use Rattle.std.specs.Prelude.{slice_index, unsigned_abs}
use Rattle.std.specs.Int.{byte_at, w16, w32, cast_signed}
use Rattle.std.proofs.lemmas.Bool.Decides.{nat_tests}
use Rattle.std.proofs.Math.IntN.{+ℤ-neg_ℤ_cancel, pos-+ℤ-pos}
use Rattle.byteorder.specs.Endian.{little_bytes}
use Rattle.bpf_isa.specs.Words.{u32_at}

abbrev pub number_of : ℕ → ℕ → ℕ → ℕ → ℕ → ℕ → ℕ → ℕ → ℕ
number_of a b c d e f g h = ((a + 256 * b) + 65536 * (c + 256 * d)) + 4294967296 * ((e + 256 * f) + 65536 * (g + 256 * h))

cons_same : {A : Type 0} (x y : A) (xs ys : List A) → x ≡ y → xs ≡ ys → (x ∷ xs) ≡ (y ∷ ys)
cons_same x y xs ys e h = ap (λ z. z ∷ xs) e ∙ ap (λ zs. y ∷ zs) h

pub eight_bytes : (a b c d e f g h : ℕ) → a < 256 → b < 256 → c < 256 → d < 256 → e < 256 → f < 256 → g < 256 → h < 256 → little_bytes 8 (number_of a b c d e f g h % 2 ^ 64) ≡ a ∷ (b ∷ (c ∷ (d ∷ (e ∷ (f ∷ (g ∷ (h ∷ [])))))))
eight_bytes a b c d e f g h p q r s t u v w =
    let n = number_of a b c d e f g h % 2 ^ 64 in
    let b0 : byte_at 0 n ≡ a = omega arith in
    let b1 : byte_at 1 n ≡ b = omega arith in
    let b2 : byte_at 2 n ≡ c = omega arith in
    let b3 : byte_at 3 n ≡ d = omega arith in
    let b4 : byte_at 4 n ≡ e = omega arith in
    let b5 : byte_at 5 n ≡ f = omega arith in
    let b6 : byte_at 6 n ≡ g = omega arith in
    let b7 : byte_at 7 n ≡ h = omega arith in
    cons_same _ _ _ _ b0 (cons_same _ _ _ _ b1 (cons_same _ _ _ _ b2 (cons_same _ _ _ _ b3 (cons_same _ _ _ _ b4 (cons_same _ _ _ _ b5 (cons_same _ _ _ _ b6 (cons_same _ _ _ _ b7 refl)))))))

-- Eight bytes whose number is zero.
pub zero_bytes : (bytes : List ℕ) (at : ℕ) → u32_at bytes at + 4294967296 * u32_at bytes (at + 4) ≡ 0 → (j : ℕ) → j < 8 → slice_index bytes (at + j) ≡ 0
zero_bytes bytes at e zero low =
    let place : at + 0 ≡ at = omega arith in
    let same = ap (λ k. get_or bytes k 0) place in
    omega arith
zero_bytes bytes at e (suc zero) low = omega arith
zero_bytes bytes at e (suc (suc zero)) low = omega arith
zero_bytes bytes at e (suc (suc (suc zero))) low =
    let place : at + 2 + 1 ≡ at + 3 = omega arith in
    let same = ap (λ k. get_or bytes k 0) place in
    omega arith
zero_bytes bytes at e (suc (suc (suc (suc zero)))) low = omega arith
zero_bytes bytes at e (suc (suc (suc (suc (suc zero))))) low =
    let place : at + 4 + 1 ≡ at + 5 = omega arith in
    let same = ap (λ k. get_or bytes k 0) place in
    omega arith
zero_bytes bytes at e (suc (suc (suc (suc (suc (suc zero)))))) low =
    let place : at + 4 + 2 ≡ at + 6 = omega arith in
    let same = ap (λ k. get_or bytes k 0) place in
    omega arith
zero_bytes bytes at e (suc (suc (suc (suc (suc (suc (suc zero))))))) low =
    let place : at + 4 + 2 + 1 ≡ at + 7 = omega arith in
    let same = ap (λ k. get_or bytes k 0) place in
    omega arith
zero_bytes bytes at e (suc (suc (suc (suc (suc (suc (suc (suc k)))))))) low = absurd (omega arith)

-- Offsets and distances as they are read.
small_half : (n : ℕ) → n < 32768 → cast_signed w16 n ≡ pos n
small_half n low = grind (arith, nat_tests)

pub offset_is : (n : ℕ) → n < 32768 → cast_signed w16 (n % 256 + 256 * (n / 256 % 256)) ≡ pos n
offset_is n low =
    let same : n % 256 + 256 * (n / 256 % 256) ≡ n = omega arith in
    ap (cast_signed w16) same ∙ small_half n low

pub distance_is : (n : ℕ) → n < 2147483648 → cast_signed w32 n ≡ pos n
distance_is n low = grind (arith, nat_tests)

negative_is : (k : ℕ) → k < 2147483648 → cast_signed w32 (4294967295 - k) ≡ negsuc k
negative_is k low = grind (arith, nat_tests)

-- A jump back from slot n + k + 1 to slot n + 1.
pub back_is : (n k : ℕ) → n < 2147483648 → k < 2147483648 → unsigned_abs (pos (n + suc k + 1) +ℤ cast_signed w32 ((4294967296 + n - (n + suc k)) % 4294967296)) ≡ n + 1
back_is n k low less =
    let bits : (4294967296 + n - (n + suc k)) % 4294967296 ≡ 4294967295 - k = omega arith in
    let sum : n + suc k + 1 ≡ n + 1 + suc k = omega arith in
    let back : pos (n + 1) +ℤ pos (suc k) +ℤ negsuc k ≡ pos (n + 1) = +ℤ-neg_ℤ_cancel (pos (n + 1)) (pos (suc k)) in
    ap unsigned_abs (ap (λ d. pos (n + suc k + 1) +ℤ d) (ap (cast_signed w32) bits ∙ negative_is k less)
    ∙ ap (λ z. z +ℤ negsuc k) (ap pos sum ∙ sym (pos-+ℤ-pos (n + 1) (suc k)))
    ∙ back)

-- A jump on from slot p by n.
pub on_is : (p n : ℕ) → n < 2147483648 → unsigned_abs (pos (p + 1) +ℤ cast_signed w32 n) ≡ p + 1 + n
on_is p n low = ap unsigned_abs (ap (λ d. pos (p + 1) +ℤ d) (distance_is n low) ∙ pos-+ℤ-pos (p + 1) n)

-- The four bytes of a number of 32 bits.
pub four_bytes : (n : ℕ) → n < 4294967296 → (byte_at 0 n + 256 * byte_at 1 n) + 65536 * (byte_at 2 n + 256 * byte_at 3 n) ≡ n
four_bytes n low = omega arith
