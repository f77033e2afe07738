-- Bytes that are put together: where each piece stands.
use Rattle.std.proofs.Common.{◌≡◌, ◌<◌, ◌≤◌, ◌⊎◌, inl, inr, ℕ, zero, suc, ◌+◌, ◌-◌, ◌*◌, List, ◌++◌, length, drop, get_or, refl, ap, ◌∙◌, arith, length-append}
use Rattle.std.specs.Prelude.{slice_range}
use Rattle.std.proofs.lemmas.Grind.{same_number_lists}
use Rattle.std.proofs.lemmas.List.{get_or-append_right, get_or_append_left, get_or-append-add, get_or-take, get_or-drop, length-drop, length-take-le}
use Rattle.bpf_join.specs.Gathered.{gathered}

-- a list begins with another
pub record Begins (xs ys : List ℕ) : Type 0 where
  pub longer : length xs ≤ length ys
  pub same : (j : ℕ) → j < length xs → get_or ys j 0 ≡ get_or xs j 0

pub begins_here : (xs ys : List ℕ) → Begins xs (xs ++ ys)
begins_here xs ys = record { longer = let size = length-append xs ys in omega (arith, size); same = λ j inside. get_or_append_left xs ys 0 j inside }

pub begins_with : (xs ys zs : List ℕ) → Begins xs ys → Begins ys zs → Begins xs zs
begins_with xs ys zs first second = record { longer = let a = first.longer in let b = second.longer in omega arith; same = same }
  where
    same : (j : ℕ) → j < length xs → get_or zs j 0 ≡ get_or xs j 0
    same j inside = let a = first.longer in second.same j (omega arith) ∙ first.same j inside

pub begins_on : (xs ys zs : List ℕ) → Begins xs ys → Begins xs (ys ++ zs)
begins_on xs ys zs first = begins_with xs ys (ys ++ zs) first (begins_here ys zs)

-- what stands behind a part
pub behind : (xs ys all : List ℕ) (k : ℕ) → Begins (xs ++ ys) all → k < length ys → get_or all (length xs + k) 0 ≡ get_or ys k 0
behind xs ys all k begins inside =
    let size = length-append xs ys in
    begins.same (length xs + k) (omega (arith, size)) ∙ get_or-append-add xs ys k 0

pub slice_at : (xs : List ℕ) (a b k : ℕ) → a + k < b → get_or (slice_range xs a b) k 0 ≡ get_or xs (a + k) 0
slice_at xs a b k inside = get_or-take (b - a) _ k 0 (omega arith) ∙ get_or-drop a xs k 0

pub slice_length : (xs : List ℕ) (a b : ℕ) → a ≤ b → b ≤ length xs → length (slice_range xs a b) ≡ b - a
slice_length xs a b order inside =
    let size = length-drop a xs in
    length-take-le (b - a) (drop a xs) (omega (arith, size))

-- a part that is cut out
pub sliced : (xs ys all bytes : List ℕ) → Begins (xs ++ ys) all → ((j : ℕ) → length xs ≤ j → j < length all → get_or bytes j 0 ≡ get_or all j 0) → length all ≤ length bytes
    → slice_range bytes (length xs) (length xs + (length (xs ++ ys) - length xs)) ≡ ys
sliced xs ys all bytes begins same fits =
    let size = length-append xs ys in
    let longer = begins.longer in
    let cut : length (slice_range bytes (length xs) (length xs + (length (xs ++ ys) - length xs))) ≡ length xs + (length (xs ++ ys) - length xs) - length xs =
    slice_length bytes (length xs) (length xs + (length (xs ++ ys) - length xs)) (omega arith) (omega (arith, size, longer, fits)) in
    let each : (k : ℕ) → k < length (slice_range bytes (length xs) (length xs + (length (xs ++ ys) - length xs)))
    → get_or (slice_range bytes (length xs) (length xs + (length (xs ++ ys) - length xs))) k 0 ≡ get_or ys k 0 =
    λ k low. slice_at bytes (length xs) (length xs + (length (xs ++ ys) - length xs)) k (omega (arith, cut))
    ∙ same (length xs + k) (omega arith) (omega (arith, cut, size, longer))
    ∙ behind xs ys all k begins (omega (arith, cut, size)) in
    same_number_lists (slice_range bytes (length xs) (length xs + (length (xs ++ ys) - length xs))) ys (omega (arith, cut, size)) each

-- pieces of 64 bytes each
last_or : (i n : ℕ) → i < suc n → (i < n) ⊎ (i ≡ n)
last_or i n h = grind arith

pub gathered_length : (piece : ℕ → List ℕ) (n : ℕ) → ((i : ℕ) → length (piece i) ≡ 64) → length (gathered piece n) ≡ 64 * n
gathered_length piece zero sizes = refl
gathered_length piece (suc n) sizes =
    let before = gathered_length piece n sizes in
    let last = sizes n in
    length-append (gathered piece n) (piece n) ∙ omega (arith, before, last)

pub gathered_at : (piece : ℕ → List ℕ) (n i k : ℕ) → ((i : ℕ) → length (piece i) ≡ 64) → i < n → k < 64 → get_or (gathered piece n) (64 * i + k) 0 ≡ get_or (piece i) k 0
gathered_at piece zero i k sizes inside small = absurd (omega arith)
gathered_at piece (suc n) i k sizes inside small = by (last_or i n inside) (gathered_at piece n i k sizes)
  where
    size : length (gathered piece n) ≡ 64 * n
    size = gathered_length piece n sizes

    by : (i < n) ⊎ (i ≡ n) → (i < n → k < 64 → get_or (gathered piece n) (64 * i + k) 0 ≡ get_or (piece i) k 0) → get_or (gathered piece n ++ piece n) (64 * i + k) 0 ≡ get_or (piece i) k 0
    by (inl low) rest = get_or_append_left (gathered piece n) (piece n) 0 (64 * i + k) (omega (arith, size)) ∙ rest low small
    by (inr same) rest =
        get_or-append_right (gathered piece n) (piece n) (64 * n) (64 * i + k) 0 size (omega (arith, same))
        ∙ ap (λ j. get_or (piece n) j 0) (omega (arith, same))
        ∙ ap (λ j. get_or (piece j) k 0) (let back : n ≡ i = omega (arith, same) in back)

-- what a file keeps of a body: all but the header's 62 bytes
pub record Keeps (bytes all : List ℕ) : Type 0 where
  pub same : (j : ℕ) → 62 ≤ j → j < length all → get_or bytes j 0 ≡ get_or all j 0
  pub longer : length all ≤ length bytes

-- a part of a file
pub part_cut : (xs ys all bytes : List ℕ) → Begins (xs ++ ys) all → Keeps bytes all → 64 ≤ length xs → slice_range bytes (length xs) (length xs + (length (xs ++ ys) - length xs)) ≡ ys
part_cut xs ys all bytes begins keeps long = sliced xs ys all bytes begins (λ j low inside. keeps.same j (past j low) inside) keeps.longer
  where
    past : (j : ℕ) → length xs ≤ j → 62 ≤ j
    past j low = omega arith

pub part_byte : (xs ns zs all bytes : List ℕ) → Begins (xs ++ (ns ++ zs)) all → Keeps bytes all → 64 ≤ length xs → (k : ℕ) → k < length ns
    → get_or bytes (length xs + k) 0 ≡ get_or ns k 0
part_byte xs ns zs all bytes begins keeps long k inside =
    let longer = begins.longer in
    let one = length-append xs (ns ++ zs) in
    let two = length-append ns zs in
    keeps.same (length xs + k) (omega arith) (omega (arith, longer, one, two))
    ∙ behind xs (ns ++ zs) all k begins (omega (arith, two))
    ∙ get_or_append_left ns zs 0 k inside

pub part_fits : (xs ns zs all bytes : List ℕ) (s : ℕ) → Begins (xs ++ (ns ++ zs)) all → Keeps bytes all → s ≤ length ns → length xs + s ≤ length bytes
part_fits xs ns zs all bytes s begins keeps low =
    let longer = begins.longer in
    let more = keeps.longer in
    let one = length-append xs (ns ++ zs) in
    let two = length-append ns zs in
    omega (arith, longer, more, one, two)

pub grows : (xs ys : List ℕ) → 0 < length ys → length xs < length (xs ++ ys)
grows xs ys some = let size = length-append xs ys in omega (arith, size)
