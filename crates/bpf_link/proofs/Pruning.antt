-- Relocations that are kept as they stand in the object, and slots that hold an exit.
use Rattle.std.proofs.Common.{◌≡◌, ◌<◌, ◌≤◌, ℕ, zero, suc, ◌+◌, ◌-◌, ◌*◌, ◌/◌, ◌%◌, Bool, true, false, List, [], ◌∷◌, ◌++◌, Ok, Err, length, take, get_or, refl, sym, ap, ◌∙◌, arith, add-one, add-zero, append-nil, length-append}
use Rattle.std.specs.Prelude.{filter, if◌then◌else◌}
use Rattle.std.proofs.lemmas.List.{get_or-append_right, get_or_append_left}
use Rattle.std.proofs.lemmas.List.Elements.{filter-append}
use Rattle.std.proofs.Math.Seq.{take-suc}
use Rattle.bpf_isa.specs.Words.{u32_at}
use Rattle.bpf_link.specs.declared.layout.RelocationEntry.{RelocationEntry}
use Rattle.bpf_link.specs.Layout.{relocation_entry}
use Rattle.bpf_link.specs.Objects.{below}
use Rattle.bpf_link.specs.declared.fault.LinkFault.{LinkFault}
use Rattle.bpf_link.specs.declared.parts.Side.{Side}
use Rattle.bpf_link.specs.declared.patch.Patch.{Patch}
use Rattle.bpf_link.specs.declared.plan.Plan.{Plan}
use Rattle.bpf_link.specs.Data.{numbered}
use Rattle.bpf_link.specs.Links.{with_patch}
use Rattle.bpf_link.specs.Parts.{part_of}
use Rattle.bpf_link.specs.Patches.{patch_at}
use Rattle.bpf_link.specs.Pruned.{all_tried, is_kept, tried}
use Rattle.bpf_link.specs.Tables.{relocation_at, relocations_in}
use Rattle.bpf_link.proofs.Answered.{number_same}

-- bytes at two places
abbrev pub AreBytes : List ℕ → ℕ → List ℕ → ℕ → ℕ → Type 0
AreBytes a p b q n = (k : ℕ) → k < n → get_or a (p + k) 0 ≡ get_or b (q + k) 0

more : (a b : List ℕ) (p q n m d : ℕ) → AreBytes a p b q n → d + m ≤ n → AreBytes a (p + d) b (q + d) m
more a b p q n m d same fits = λ k small. ap (λ i. get_or a i 0) (omega arith) ∙ same (d + k) (omega arith) ∙ ap (λ i. get_or b i 0) (omega arith)

four : (a b : List ℕ) (p q : ℕ) → AreBytes a p b q 4 → u32_at a p ≡ u32_at b q
four a b p q same =
    number_same a b p q (ap (λ i. get_or a i 0) (sym (add-zero p)) ∙ same 0 (omega arith) ∙ ap (λ i. get_or b i 0) (add-zero q)) (same 1 (omega arith)) (same 2 (omega arith))
    (ap (λ i. get_or a i 0) (omega arith) ∙ same 3 (omega arith) ∙ ap (λ i. get_or b i 0) (omega arith))

four_at : (a b : List ℕ) (p q n d : ℕ) → AreBytes a p b q n → d + 4 ≤ n → u32_at a (p + d) ≡ u32_at b (q + d)
four_at a b p q n d same fits = four a b (p + d) (q + d) (more a b p q n 4 d same fits)

abbrev entry : ℕ → ℕ → ℕ → ℕ → RelocationEntry
entry low high kind symbol = record { offset = low + 4294967296 * high; kind = kind; symbol = symbol }

pub entry_same : (a b : List ℕ) (p q : ℕ) → AreBytes a p b q 16 → relocation_entry a p ≡ relocation_entry b q
entry_same a b p q same =
    let first : u32_at a p ≡ u32_at b q = four a b p q (λ k small. same k (omega arith)) in
    ap (λ n. entry n (u32_at a (p + 4)) (u32_at a (p + 8)) (u32_at a (p + 12))) first
    ∙ ap (λ n. entry (u32_at b q) n (u32_at a (p + 8)) (u32_at a (p + 12))) (four_at a b p q 16 4 same (omega arith))
    ∙ ap (λ n. entry (u32_at b q) (u32_at b (q + 4)) n (u32_at a (p + 12))) (four_at a b p q 16 8 same (omega arith))
    ∙ ap (λ n. entry (u32_at b q) (u32_at b (q + 4)) (u32_at b (q + 8)) n) (four_at a b p q 16 12 same (omega arith))

-- one more relocation behind whole ones
below_same : {A : Type 0} (f g : ℕ → A) (n : ℕ) → ((i : ℕ) → i < n → f i ≡ g i) → below f n ≡ below g n
below_same f g zero same = refl
below_same f g (suc n) same = ap (λ xs. xs ++ f n ∷ []) (below_same f g n (λ i low. same i (omega arith))) ∙ ap (λ x. below g n ++ x ∷ []) (same n (omega arith))

one_more : (xs chunk : List ℕ) → length xs % 16 ≡ 0 → length chunk ≡ 16 → relocations_in (xs ++ chunk) ≡ relocations_in xs ++ relocation_entry chunk 0 ∷ []
one_more xs chunk whole size =
    let n : ℕ = length xs / 16 in
    let all : length (xs ++ chunk) / 16 ≡ suc n = (let both = length-append xs chunk in omega (arith, both, size, whole)) in
    let old : (i : ℕ) → i < n → relocation_entry (xs ++ chunk) (16 * i) ≡ relocation_entry xs (16 * i) =
    λ i low. entry_same (xs ++ chunk) xs (16 * i) (16 * i) (λ k small. get_or_append_left xs chunk 0 (16 * i + k) (omega (arith, whole, low, small))) in
    let new : relocation_entry (xs ++ chunk) (16 * n) ≡ relocation_entry chunk 0 = entry_same (xs ++ chunk) chunk (16 * n) 0 (λ k small. in_chunk k small) in
    ap (below (λ i. relocation_entry (xs ++ chunk) (16 * i))) all
    ∙ ap (λ ys. ys ++ relocation_entry (xs ++ chunk) (16 * n) ∷ []) (below_same (λ i. relocation_entry (xs ++ chunk) (16 * i)) (λ i. relocation_entry xs (16 * i)) n old)
    ∙ ap (λ e. relocations_in xs ++ e ∷ []) new
  where
    in_chunk : (k : ℕ) → k < 16 → get_or (xs ++ chunk) (16 * (length xs / 16) + k) 0 ≡ get_or chunk (0 + k) 0
    in_chunk k small =
        let rest : 16 * (length xs / 16) + k - length xs ≡ 0 + k = omega (arith, whole) in
        get_or-append_right xs chunk (length xs) (16 * (length xs / 16) + k) 0 refl (omega (arith, whole)) ∙ ap (λ i. get_or chunk i 0) rest

-- the relocations that are kept among the first n, and one more
abbrev pub AreKept : List Bool → ℕ → List RelocationEntry → ℕ → List ℕ → Type 0
AreKept reach first relocations n bytes = record { value : relocations_in bytes ≡ filter (is_kept reach first) (take n relocations); whole : length bytes % 16 ≡ 0 }

one_filtered : (test : RelocationEntry → Bool) (relocations : List RelocationEntry) (n : ℕ) → n < length relocations
    → filter test (take (n + 1) relocations) ≡ filter test (take n relocations) ++ filter test (relocation_at relocations n ∷ [])
one_filtered test relocations n inside =
    ap (λ k. filter test (take k relocations)) (add-one n) ∙ ap (filter test) (take-suc relocations n _ inside) ∙ filter-append test (take n relocations) (relocation_at relocations n ∷ [])

pub with_kept : (reach : List Bool) (first : ℕ) (relocations : List RelocationEntry) (n : ℕ) (bytes chunk new : List ℕ) → AreKept reach first relocations n bytes
    → n < length relocations → is_kept reach first (relocation_at relocations n) ≡ true → length chunk ≡ 16 → relocation_entry chunk 0 ≡ relocation_at relocations n → new ≡ bytes ++ chunk
    → AreKept reach first relocations (n + 1) new
with_kept reach first relocations n bytes chunk new known inside kept size same is = record {
  value =
      ap relocations_in is ∙ one_more bytes chunk known.whole size ∙ ap (λ xs. xs ++ relocation_entry chunk 0 ∷ []) known.value
      ∙ ap (λ e. filter (is_kept reach first) (take n relocations) ++ e ∷ []) same
      ∙ ap (λ b. filter (is_kept reach first) (take n relocations) ++ (if b then relocation_at relocations n ∷ [] else [])) (sym kept)
      ∙ sym (one_filtered (is_kept reach first) relocations n inside);
  whole = let both = ap length is ∙ length-append bytes chunk in let before = known.whole in omega (arith, both, size, before);
}

pub without_kept : (reach : List Bool) (first : ℕ) (relocations : List RelocationEntry) (n : ℕ) (bytes : List ℕ) → AreKept reach first relocations n bytes
    → n < length relocations → is_kept reach first (relocation_at relocations n) ≡ false → AreKept reach first relocations (n + 1) bytes
without_kept reach first relocations n bytes known inside kept = record {
  value =
      known.value ∙ sym (append-nil (filter (is_kept reach first) (take n relocations)))
      ∙ ap (λ b. filter (is_kept reach first) (take n relocations) ++ (if b then relocation_at relocations n ∷ [] else [])) (sym kept)
      ∙ sym (one_filtered (is_kept reach first) relocations n inside);
  whole = known.whole;
}

-- one more relocation is tried
pub try_done : (plan : Plan) (side : Side) (start words new : List ℕ) (patch : Patch) (n : ℕ) → words ≡ all_tried plan side start n
    → patch_at (numbered plan [] []) side (relocation_at (part_of plan.parts side).relocations n) ≡ Ok patch → new ≡ with_patch words patch → new ≡ all_tried plan side start (n + 1)
try_done plan side start words new patch n before known done =
    done ∙ ap (λ w. with_patch w patch) before ∙ ap (λ r. tried r (all_tried plan side start n)) (sym known) ∙ sym (ap (all_tried plan side start) (add-one n))

pub try_failed : (plan : Plan) (side : Side) (start words : List ℕ) (fault : LinkFault) (n : ℕ) → words ≡ all_tried plan side start n
    → patch_at (numbered plan [] []) side (relocation_at (part_of plan.parts side).relocations n) ≡ Err fault → words ≡ all_tried plan side start (n + 1)
try_failed plan side start words fault n before known =
    before ∙ ap (λ r. tried r (all_tried plan side start n)) (sym known) ∙ sym (ap (all_tried plan side start) (add-one n))
