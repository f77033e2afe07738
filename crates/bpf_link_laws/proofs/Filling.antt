-- Memory while the bytes of a map are stored, eight by eight.
use Rattle.std.proofs.Common.{◌≡◌, ◌≤◌, ◌<◌, ◌⊎◌, ◌+◌, ◌-◌, ◌*◌, ◌%◌, ◌^◌, ◌==◌, ℕ, zero, suc, true, List, [], ◌∷◌, Option, Some, None, length, get_or, inl, inr, refl, sym, ap, ◌∙◌, arith}
use Rattle.std.specs.Prelude.{IsSome, slice_index}
use Rattle.std.proofs.lemmas.Bool.{cases_lt, and_parts}
use Rattle.std.proofs.lemmas.Bool.Decides.{nat_tests}
use Rattle.std.proofs.lemmas.Grind.{elements}
use Rattle.byteorder.specs.Endian.{little_bytes}
use Rattle.byteorder.specs.Numbers.{length-bytes_low_first}
use Rattle.bpf_steps.specs.ByAddress.{byte_at}
use Rattle.bpf_steps.specs.Regions.{Image, IsImage, index_of, paste, with_number}
use Rattle.bpf_steps.proofs.ByAddress.{fits_within, law_runs, law_stores}
use Rattle.bpf_link.specs.Layout.{u64_at}
use Rattle.bpf_link.specs.Setup.{is_zero}
use Rattle.bpf_link_laws.proofs.Numbers.{number_of, eight_bytes, zero_bytes}
use Rattle.bpf_link_laws.proofs.Slots.{AreSmall}

-- The first pieces of an image stand in memory, and the other bytes are those of before.
pub record Filled (old m : Image) (base : ℕ) (image : List ℕ) (n : ℕ) : Type 0 where
  pub is : IsImage m
  pub same : m ≡ record old { bytes = m.bytes }
  pub inside : (j : ℕ) → j < 8 * n → byte_at m (base + j) ≡ Some (slice_index image j)
  pub outside : (a : ℕ) → (a < base) ⊎ (base + 8 * n ≤ a) → byte_at m a ≡ byte_at old a

-- Where they are to stand the bytes are zero.
abbrev pub AreZero : Image → ℕ → List ℕ → Type 0
AreZero old base image = (j : ℕ) → j < length image → byte_at old (base + j) ≡ Some 0

pub none_filled : (m : Image) (base : ℕ) (image : List ℕ) → IsImage m → Filled m m base image 0
none_filled m base image is = record {
  is = is;
  same = refl;
  inside = λ j low. absurd (omega arith);
  outside = λ a side. refl;
}

-- Without a step they are filled where all of an image is zero.
pub zero_at : (image : List ℕ) → is_zero image ≡ true → (j : ℕ) → slice_index image j ≡ 0
zero_at [] e j = grind (arith, elements)
zero_at (byte ∷ image) e zero = let parts = and_parts (byte == 0) (is_zero image) e in let first = parts.0 in grind (arith, nat_tests)
zero_at (byte ∷ image) e (suc j) = zero_at image ((and_parts (byte == 0) (is_zero image) e).1) j

pub zero_filled : (m : Image) (base n : ℕ) (image : List ℕ) → IsImage m → AreZero m base image → is_zero image ≡ true → 8 * n ≤ length image → Filled m m base image n
zero_filled m base n image is zeros none fits = record {
  is = is;
  same = refl;
  inside = λ j low. zeros j (omega arith) ∙ ap Some (sym (zero_at image none j));
  outside = λ a side. refl;
}

-- A piece that is zero is there without a store.
pub skipped : (old m : Image) (base n : ℕ) (image : List ℕ) → AreZero old base image → 8 * n + 8 ≤ length image → u64_at image (8 * n) ≡ 0 → Filled old m base image n → Filled old m base image (suc n)
skipped old m base n image zeros fits none f = record {
  is = f.is;
  same = f.same;
  inside = λ j low. elim (cases_lt j (8 * n)) [
    | inl before ↦ f.inside j before
    | inr from ↦
        let place : 8 * n + (j - 8 * n) ≡ j = omega arith in
        f.outside (base + j) (inr (omega arith))
        ∙ zeros j (omega arith)
        ∙ ap Some (sym (ap (λ k. slice_index image k) (sym place) ∙ zero_bytes image (8 * n) none (j - 8 * n) (omega arith)))
  ];
  outside = λ a side. f.outside a (elim side [ inl below ↦ inl below | inr above ↦ inr (omega arith) ]);
}

pasted_length : (old new : List ℕ) (at : ℕ) → at + length new ≤ length old → length (paste old at new) ≡ length old
pasted_length old new at fits = grind (arith, elements)

some_there : {A : Type 0} (found : Option A) → IsSome found → (x : A) × (found ≡ Some x)
some_there None h = cc
some_there (Some x) h = (x, refl)

is_some : {A : Type 0} (found : Option A) (x : A) → found ≡ Some x → IsSome found
is_some None x e = cc
is_some (Some y) x e = refl

-- The run of the next eight bytes is present.
pub next_there : (old m : Image) (base n : ℕ) (image : List ℕ) → AreZero old base image → 8 * n + 8 ≤ length image → Filled old m base image n → (at : ℕ) × (index_of m (base + 8 * n) 8 ≡ Some at)
next_there old m base n image zeros fits f =
    some_there (index_of m (base + 8 * n) 8) ((law_runs m f.is (base + 8 * n) 8 (omega arith)).1 (λ j low.
    let place : base + 8 * n + j ≡ base + (8 * n + j) = omega arith in
    is_some (byte_at m (base + 8 * n + j)) 0 (f.outside (base + 8 * n + j) (inr (omega arith)) ∙ ap (byte_at old) place ∙ zeros (8 * n + j) (omega arith))))

-- The number of a piece.
abbrev pub piece : List ℕ → ℕ → ℕ
piece image at =
    number_of (slice_index image at) (slice_index image (at + 1)) (slice_index image (at + 2)) (slice_index image (at + 3)) (slice_index image (at + 4)) (slice_index image (at + 5)) (slice_index image (at + 6)) (slice_index image (at + 7))

abbrev pub IsSmallPiece : List ℕ → ℕ → Type 0
IsSmallPiece image at =
    AreSmall (slice_index image at) (slice_index image (at + 1)) (slice_index image (at + 2)) (slice_index image (at + 3)) (slice_index image (at + 4)) (slice_index image (at + 5)) (slice_index image (at + 6)) (slice_index image (at + 7))

abbrev eight : List ℕ → ℕ → List ℕ
eight image at =
    slice_index image at ∷ (slice_index image (at + 1) ∷ (slice_index image (at + 2) ∷ (slice_index image (at + 3) ∷ (slice_index image (at + 4) ∷ (slice_index image (at + 5) ∷ (slice_index image (at + 6) ∷ (slice_index image (at + 7) ∷ [])))))))

eight_at : (image : List ℕ) (at j : ℕ) → j < 8 → slice_index (eight image at) j ≡ slice_index image (at + j)
eight_at image at zero low = let place : at ≡ at + 0 = omega arith in ap (λ k. get_or image k 0) place
eight_at image at (suc zero) low = refl
eight_at image at (suc (suc zero)) low = refl
eight_at image at (suc (suc (suc zero))) low = refl
eight_at image at (suc (suc (suc (suc zero)))) low = refl
eight_at image at (suc (suc (suc (suc (suc zero))))) low = refl
eight_at image at (suc (suc (suc (suc (suc (suc zero)))))) low = refl
eight_at image at (suc (suc (suc (suc (suc (suc (suc zero))))))) low = refl
eight_at image at (suc (suc (suc (suc (suc (suc (suc (suc j)))))))) low = absurd (omega arith)

pub piece_bytes : (image : List ℕ) (at j : ℕ) → IsSmallPiece image at → j < 8 → slice_index (little_bytes 8 (piece image at % 2 ^ 64)) j ≡ slice_index image (at + j)
piece_bytes image at j s low =
    ap (λ bytes. get_or bytes j 0) (eight_bytes _ _ _ _ _ _ _ _ s.small_a s.small_b s.small_c s.small_d s.small_e s.small_f s.small_g s.small_h) ∙ eight_at image at j low

-- A piece that is stored.
pub stored : (old m : Image) (base n at : ℕ) (image : List ℕ) → 8 * n + 8 ≤ length image → index_of m (base + 8 * n) 8 ≡ Some at → IsSmallPiece image (8 * n) → Filled old m base image n
    → Filled old (with_number m at 8 (piece image (8 * n) % 2 ^ 64)) base image (suc n)
stored old m base n at image fits there small f =
    let v = piece image (8 * n) % 2 ^ 64 in
    let new = little_bytes 8 v in
    let count : length new ≡ 8 = length-bytes_low_first 0 8 v in
    let run : index_of m (base + 8 * n) (length new) ≡ Some at = ap (index_of m (base + 8 * n)) count ∙ there in
    let law = law_stores m f.is (base + 8 * n) at new run in
    let room : at + 8 ≤ length m.bytes = fits_within m f.is (base + 8 * n) 8 at there in
    record {
      is = record { short = f.is.short; tables = f.is.tables; whole = pasted_length m.bytes new at (omega arith) ∙ f.is.whole };
      same = ap (λ (i : Image). record i { bytes = paste m.bytes at new }) f.same;
      inside = λ j low. elim (cases_lt j (8 * n)) [
        | inl before ↦ law.1 (base + j) (inl (omega arith)) ∙ f.inside j before
        | inr from ↦
            let place : base + j ≡ base + 8 * n + (j - 8 * n) = omega arith in
            let same : 8 * n + (j - 8 * n) ≡ j = omega arith in
            ap (byte_at (with_number m at 8 v)) place
            ∙ law.0 (j - 8 * n) (omega arith)
            ∙ ap Some (piece_bytes image (8 * n) (j - 8 * n) small (omega arith) ∙ ap (λ k. slice_index image k) same)
      ];
      outside = λ a side. elim side [
        | inl below ↦ law.1 a (inl (omega arith)) ∙ f.outside a (inl below)
        | inr above ↦ law.1 a (inr (omega arith)) ∙ f.outside a (inr (omega arith))
      ];
    }
