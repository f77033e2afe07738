-- The laws of memory read by address.
use Rattle.std.proofs.Common.{◌≡◌, ◌≤◌, ◌<◌, ◌⊎◌, ℕ, zero, suc, ◌+◌, ◌-◌, ◌*◌, ◌^◌, List, [], ◌∷◌, length, Option, Some, None, refl, sym, ap, ◌∙◌, inl, inr, arith, le_refl}
use Rattle.std.specs.Prelude.{Bool, true, false, IsSome, All, option_map, unwrap_or, slice_index, slice_get, slice_range, drop, replicate, if◌then◌else◌, ◌++◌}
use Rattle.byteorder.specs.Endian.{little_from}
use Rattle.std.proofs.lemmas.Bool.{cases_lt}
use Rattle.std.proofs.lemmas.Bool.Decides.{nat_tests}
use Rattle.std.proofs.lemmas.List.{drop-append-le, drop-drop, drop_all, drop-replicate, get_or_append_left, get_or-append-add, get_or-drop, get_or-replicate, length-replicate, replicate-append-replicate}
use Rattle.std.proofs.lemmas.Grind.{elements}
use Rattle.std.proofs.Math.Nat.{pow-suc}
use Rattle.std.proofs.lemmas.List.Sums.{sum_by-cons}
use Rattle.bpf_isa.specs.declared.maps.MapShape.{MapShape}
use Rattle.bpf_isa.specs.Maps.{IsShape}
use Rattle.bpf_isa.specs.Programs.{Checked}
use Rattle.bpf_steps.specs.Platform.{context_base, context_limit, frame_base, frame_len, frame_count, map_base, map_address}
use Rattle.bpf_steps.specs.Regions.{Image, IsImage, Region, regions, frames_from, maps_from, map_len, maps_len, index_in, index_of, is_from_frame, map_bytes, paste, with_context}
use Rattle.bpf_steps.specs.State.{initial, depth}
use Rattle.bpf_steps.specs.ByAddress.{byte_at, AllPast, AreApart, RegionsAreApart, RunsAreTheirAddresses, sum_at, NumbersAreSums, StoresAreLocal, IsInFrame, AccessibleIsBelow, OpenedByAddress, RestartedByAddress, RestartedAtOpening}
use Rattle.bpf_steps.proofs.Indices.{index_here, index_above, index_below, frames_in, frames_before, maps_below, none_behind}
use Rattle.bpf_steps.proofs.Spans.{first_shape, later_shapes}

-- Maps from map i on lie past every address below map i, and frames and maps from frame i on past those below frame i.
maps_past : (a i : ℕ) (shapes : List MapShape) → a < map_address i → AllPast a (maps_from i shapes)
unfolding maps_from
maps_past a i [] h = tt
maps_past a i (shape ∷ shapes) h = (h, maps_past a (suc i) shapes (omega arith))

frames_past : (a i n : ℕ) (shapes : List MapShape) → a < frame_base i → a < map_base → AllPast a (frames_from i n ++ maps_from 0 shapes)
unfolding frames_from
frames_past a i zero shapes h below = maps_past a 0 shapes (omega arith)
frames_past a i (suc n) shapes h below = (h, frames_past a (suc i) n shapes (omega arith) below)

maps_apart : (i : ℕ) (shapes : List MapShape) → All IsShape shapes → AreApart (maps_from i shapes)
unfolding maps_from
maps_apart i [] h = tt
maps_apart i (shape ∷ shapes) h =
    let short = (first_shape shape shapes h).total in
    (maps_past _ (suc i) shapes (omega (arith, short)), maps_apart (suc i) shapes (later_shapes shape shapes h))

frames_apart : (i n : ℕ) (shapes : List MapShape) → All IsShape shapes → frame_base (i + n) < map_base → AreApart (frames_from i n ++ maps_from 0 shapes)
unfolding frames_from
frames_apart i zero shapes h below = maps_apart 0 shapes h
frames_apart i (suc n) shapes h below =
    (frames_past _ (suc i) n shapes (omega arith) (omega arith), frames_apart (suc i) n shapes h (omega arith))

pub law_apart : RegionsAreApart
law_apart m h =
    let short = h.short in
    (frames_past _ 0 frame_count m.maps (omega (arith, short)) (omega (arith, short)), frames_apart 0 frame_count m.maps h.tables.shapes (omega arith))

-- A run is in the first region, or it is sought in the others.
index_split : (r : Region) (rs : List Region) (a n : ℕ) → ((r.base ≤ a) × (a + n ≤ r.base + r.len) × (index_in (r ∷ rs) a n ≡ Some (a - r.base))) ⊎ (((a < r.base) ⊎ (r.base + r.len < a + n)) × (index_in (r ∷ rs) a n ≡ option_map (λ at. r.len + at) (index_in rs a n)))
index_split r rs a n =
    elim (cases_lt a r.base) [
      | inl below ↦ inr (inl below, index_below r rs a n below)
      | inr from ↦ elim (cases_lt (r.base + r.len) (a + n)) [
        | inl above ↦ inr (inr above, index_above r rs a n above)
        | inr within ↦ inl (from, within, index_here r rs a n from within)
      ]
    ]

some_from_map : (k y : ℕ) (o : Option ℕ) → option_map (λ at. k + at) o ≡ Some y → (x : ℕ) × (o ≡ Some x) × (y ≡ k + x)
some_from_map k y None e = cc
some_from_map k y (Some x) e = (x, refl, cc)

-- A run of regions that all begin past an address lies past it.
index_past : (k : ℕ) (rs : List Region) (a n at : ℕ) → AllPast k rs → index_in rs a n ≡ Some at → k < a
unfolding index_in
index_past k [] a n at h e = cc
index_past k (r ∷ rs) a n at h e = elim (index_split r rs a n) [
  | inl here ↦ omega (arith, here.0, h.0)
  | inr other ↦ let found = some_from_map _ _ _ (sym other.1 ∙ e) in index_past k rs a n found.0 h.1 found.1
]

-- Each address of a run stands at its index.
index_within : (rs : List Region) → AreApart rs → (a n at j : ℕ) → index_in rs a n ≡ Some at → j < n → index_in rs (a + j) 1 ≡ Some (at + j)
unfolding index_in
index_within [] h a n at j e low = cc
index_within (r ∷ rs) h a n at j e low = elim (index_split r rs a n) [
  | inl here ↦
      let same : a - r.base ≡ at = cc (here.2) in
      index_here r rs (a + j) 1 (omega (arith, here.0)) (omega (arith, here.1)) ∙ ap Some (omega (arith, here.0))
  | inr other ↦
      let found = some_from_map _ _ _ (sym other.1 ∙ e) in
      let past : r.base + r.len < a = index_past _ rs a n found.0 h.0 found.1 in
      index_above r rs (a + j) 1 (omega arith)
      ∙ ap (option_map (λ at. r.len + at)) (index_within rs h.1 a n found.0 j found.1 low)
      ∙ ap Some (omega (arith, found.2))
]

-- The places of a run lie within the regions' bytes.
total : List Region → ℕ
total [] = 0
total (r ∷ rs) = r.len + total rs

index_fits : (rs : List Region) (a n at : ℕ) → index_in rs a n ≡ Some at → at + n ≤ total rs
unfolding index_in total
index_fits [] a n at e = cc
index_fits (r ∷ rs) a n at e = elim (index_split r rs a n) [
  | inl here ↦ let same : a - r.base ≡ at = cc (here.2) in omega (arith, here.0, here.1)
  | inr other ↦
      let found : (x : ℕ) × (index_in rs a n ≡ Some x) × (at ≡ r.len + x) = some_from_map _ _ _ (sym other.1 ∙ e) in
      omega (arith, index_fits rs a n found.0 found.1, found.2)
]

-- Addresses outside a run stand at places outside it.
index_apart : (rs : List Region) (a n at b k : ℕ) → index_in rs a n ≡ Some at → index_in rs b 1 ≡ Some k → (b < a) ⊎ (a + n ≤ b) → (k < at) ⊎ (at + n ≤ k)
unfolding index_in
index_apart [] a n at b k e f h = cc
index_apart (r ∷ rs) a n at b k e f h = elim (index_split r rs a n) [
  | inl here ↦ elim (index_split r rs b 1) [
    | inl there ↦
        let same : a - r.base ≡ at = cc (here.2) in
        let also : b - r.base ≡ k = cc (there.2) in
        elim h [ inl below ↦ inl (omega (arith, here.0, there.0)) | inr above ↦ inr (omega (arith, here.0, there.0)) ]
    | inr later ↦
        let same : a - r.base ≡ at = cc (here.2) in
        let found = some_from_map _ _ _ (sym later.1 ∙ f) in
        inr (omega (arith, here.0, here.1, found.2))
  ]
  | inr other ↦
      let found = some_from_map _ _ _ (sym other.1 ∙ e) in
      elim (index_split r rs b 1) [
        | inl there ↦
            let also : b - r.base ≡ k = cc (there.2) in
            inl (omega (arith, there.0, there.1, found.2))
        | inr later ↦
            let behind = some_from_map _ _ _ (sym later.1 ∙ f) in
            elim (index_apart rs a n found.0 b behind.0 found.1 behind.1 h) [
              | inl below ↦ inl (omega (arith, found.2, behind.2))
              | inr above ↦ inr (omega (arith, found.2, behind.2))
            ]
      ]
]

later_index : (r : Region) (rs : List Region) (a j : ℕ) → r.base + r.len ≤ a → (x : ℕ) × (index_in (r ∷ rs) (a + j) 1 ≡ Some x) → (x : ℕ) × (index_in rs (a + j) 1 ≡ Some x)
later_index r rs a j past found =
    let there = some_from_map _ _ _ (sym (index_above r rs (a + j) 1 (omega arith)) ∙ found.1) in
    (there.0, there.1)

-- A run whose addresses are all present is present.
index_whole : (rs : List Region) → AreApart rs → (a n : ℕ) → 1 ≤ n → ((j : ℕ) → j < n → (x : ℕ) × (index_in rs (a + j) 1 ≡ Some x)) → (at : ℕ) × (index_in rs a n ≡ Some at)
unfolding index_in
index_whole [] h a n some each = let first = each 0 (omega arith) in cc (first.1)
index_whole (r ∷ rs) h a n some each = elim (index_split r rs a n) [
  | inl here ↦ (a - r.base, here.2)
  | inr (side, rest) ↦ elim side [
    | inl below ↦
        let first = each 0 (omega arith) in
        let found = some_from_map _ _ _ (sym (index_below r rs (a + 0) 1 (omega arith)) ∙ first.1) in
        let past : r.base + r.len < a + 0 = index_past _ rs (a + 0) 1 found.0 h.0 found.1 in
        absurd (omega arith)
    | inr above ↦ elim (cases_lt a (r.base + r.len)) [
      | inl over ↦
          let last : a + (r.base + r.len - a) ≡ r.base + r.len = omega arith in
          let gap = each (r.base + r.len - a) (omega arith) in
          let found = some_from_map _ _ _ (sym (index_above r rs (a + (r.base + r.len - a)) 1 (omega arith)) ∙ gap.1) in
          let past : r.base + r.len < a + (r.base + r.len - a) = index_past _ rs _ 1 found.0 h.0 found.1 in
          absurd (omega arith)
      | inr past ↦
          let later = index_whole rs h.1 a n some (λ j low. later_index r rs a j past (each j low)) in
          (r.len + later.0, rest ∙ ap (option_map (λ at. r.len + at)) later.1)
    ]
  ]
]

-- The law of runs.
is_some : {X : Type 0} (o : Option X) → IsSome o → (x : X) × (o ≡ Some x)
is_some None h = cc
is_some (Some x) h = (x, refl)

is_some_from : {X : Type 0} (o : Option X) (x : X) → o ≡ Some x → IsSome o
is_some_from None x e = cc
is_some_from (Some y) x e = refl

is_some_map : {X Y : Type 0} (f : X → Y) (o : Option X) → IsSome (option_map f o) → (x : X) × (o ≡ Some x)
is_some_map f None h = cc
is_some_map f (Some x) h = (x, refl)

pub byte_within : (m : Image) → IsImage m → (a n at j : ℕ) → index_of m a n ≡ Some at → j < n → byte_at m (a + j) ≡ Some (slice_index m.bytes (at + j))
byte_within m h a n at j e low =
    ap (option_map (λ k. slice_index m.bytes k)) (index_within (regions m) (law_apart m h) a n at j e low)

pub law_runs : RunsAreTheirAddresses
law_runs m h a n some = (
  (λ present. λ j low.
      let found = is_some _ present in
      is_some_from _ _ (byte_within m h a n found.0 j found.1 low)),
  (λ each.
      let found = index_whole (regions m) (law_apart m h) a n some (λ j low. is_some_map _ _ (each j low)) in
      is_some_from _ _ found.1),
)

-- The law of stores.
paste_in : (old new : List ℕ) (at j : ℕ) → at + length new ≤ length old → j < length new → slice_index (paste old at new) (at + j) ≡ slice_index new j
paste_in old new at j fits low = grind (arith, elements)

paste_below : (old new : List ℕ) (at k : ℕ) → at + length new ≤ length old → k < length old → k < at → slice_index (paste old at new) k ≡ slice_index old k
paste_below old new at k fits low below = grind (arith, elements)

paste_above : (old new : List ℕ) (at k : ℕ) → at + length new ≤ length old → k < length old → at + length new ≤ k → slice_index (paste old at new) k ≡ slice_index old k
paste_above old new at k fits low above = grind (arith, elements)

paste_out : (old new : List ℕ) (at k : ℕ) → at + length new ≤ length old → k < length old → (k < at) ⊎ (at + length new ≤ k) → slice_index (paste old at new) k ≡ slice_index old k
paste_out old new at k fits low (inl below) = paste_below old new at k fits low below
paste_out old new at k fits low (inr above) = paste_above old new at k fits low above

-- How many bytes the regions have.
total_maps : (i : ℕ) (shapes : List MapShape) → total (maps_from i shapes) ≡ maps_len shapes
unfolding total maps_from
total_maps i [] = refl
total_maps i (shape ∷ shapes) = omega (arith, total_maps (suc i) shapes, sum_by-cons map_len shape shapes)

total_frames : (i n : ℕ) (shapes : List MapShape) → total (frames_from i n ++ maps_from 0 shapes) ≡ frame_len * n + maps_len shapes
unfolding total frames_from
total_frames i zero shapes = omega (arith, total_maps 0 shapes)
total_frames i (suc n) shapes = omega (arith, total_frames (suc i) n shapes)

pub fits_within : (m : Image) → IsImage m → (a n at : ℕ) → index_of m a n ≡ Some at → at + n ≤ length m.bytes
unfolding total
fits_within m h a n at e =
    omega (arith, h.whole, index_fits (regions m) a n at e, total_frames 0 frame_count m.maps)

same_byte : (o : Option ℕ) (xs ys : List ℕ) → ((k : ℕ) → o ≡ Some k → slice_index xs k ≡ slice_index ys k) → option_map (λ k. slice_index xs k) o ≡ option_map (λ k. slice_index ys k) o
same_byte None xs ys h = refl
same_byte (Some k) xs ys h = ap Some (h k refl)

pub law_stores : StoresAreLocal
law_stores m h a at new e = (
  (λ j low.
      ap (option_map (λ k. slice_index (paste m.bytes at new) k)) (index_within (regions m) (law_apart m h) a (length new) at j e low)
      ∙ ap Some (paste_in m.bytes new at j (fits_within m h a (length new) at e) low)),
  (λ b outside.
      same_byte (index_of m b 1) (paste m.bytes at new) m.bytes (λ k found.
      paste_out m.bytes new at k (fits_within m h a (length new) at e) (omega (arith, fits_within m h b 1 k found))
      (index_apart (regions m) a (length new) at b k e found outside))),
)

-- The law of numbers.
little_more : (i n : ℕ) (xs : List ℕ) → little_from i (suc n) xs ≡ little_from i n xs + slice_index xs (i + n) * 256 ^ n
little_more i zero xs =
    let here : i + 0 ≡ i = omega arith in
    let same = ap (λ k. slice_index xs k) here in
    omega (arith, same)
little_more i (suc n) xs =
    let there : suc i + n ≡ i + suc n = omega arith in
    let same = ap (λ k. slice_index xs k * 256 ^ n) there in
    let power = ap (λ p. slice_index xs (i + suc n) * p) (pow-suc 256 n) in
    omega (arith, little_more (suc i) n xs, same, power)

pub length-run : (bytes : List ℕ) (at n : ℕ) → at + n ≤ length bytes → length (slice_range bytes at (at + n)) ≡ n
length-run bytes at n fits = grind (arith, elements)

pub run_reads : (bytes : List ℕ) (at n j : ℕ) → j < n → slice_index (slice_range bytes at (at + n)) j ≡ slice_index bytes (at + j)
run_reads bytes at n j low = grind (arith, elements)

sum_to : (m : Image) → IsImage m → (a n at : ℕ) → index_of m a n ≡ Some at → (k : ℕ) → k ≤ n → little_from 0 k (slice_range m.bytes at (at + n)) ≡ sum_at m a k
sum_to m h a n at e zero low = refl
sum_to m h a n at e (suc k) low =
    let byte = ap (λ b. unwrap_or b 0 * 256 ^ k) (byte_within m h a n at k e (omega arith)) in
    let zeroth : 0 + k ≡ k = omega arith in
    let here = ap (λ j. slice_index (slice_range m.bytes at (at + n)) j * 256 ^ k) zeroth in
    let read = ap (λ b. b * 256 ^ k) (run_reads m.bytes at n k (omega arith)) in
    let more = little_more 0 k (slice_range m.bytes at (at + n)) in
    omega (arith, more, here, read, byte, sum_to m h a n at e k (omega arith))

pub law_numbers : NumbersAreSums
law_numbers m h a n at e = sum_to m h a n at e n (omega arith)

-- A run that is present lies in the context, in one frame or from map 0 on.
abbrev InContext : ℕ → ℕ → Type 0
InContext a n = a + n ≤ context_base + context_limit

abbrev InFrame : ℕ → ℕ → ℕ → Type 0
InFrame i a n = (i < frame_count) × (frame_base i ≤ a) × (a + n ≤ frame_base i + frame_len)

abbrev IsPlaced : ℕ → ℕ → Type 0
IsPlaced a n = InContext a n ⊎ (((i : ℕ) × InFrame i a n) ⊎ (map_base ≤ a))

map_of : (i : ℕ) (shapes : List MapShape) (a n at : ℕ) → index_in (maps_from i shapes) a n ≡ Some at → map_base ≤ a
unfolding maps_from index_in
map_of i [] a n at e = cc
map_of i (shape ∷ shapes) a n at e = elim (index_split (record { base = map_address i; len = map_len shape }) (maps_from (suc i) shapes) a n) [
  | inl here ↦ omega (arith, here.0)
  | inr other ↦ let found = some_from_map _ _ _ (sym other.1 ∙ e) in map_of (suc i) shapes a n found.0 found.1
]

frame_of : (k m : ℕ) (shapes : List MapShape) (a n at : ℕ) → k + m ≤ frame_count → index_in (frames_from k m ++ maps_from 0 shapes) a n ≡ Some at → ((i : ℕ) × InFrame i a n) ⊎ (map_base ≤ a)
unfolding frames_from index_in
frame_of k zero shapes a n at few e = inr (map_of 0 shapes a n at e)
frame_of k (suc m) shapes a n at few e = elim (index_split (record { base = frame_base k; len = frame_len }) (frames_from (suc k) m ++ maps_from 0 shapes) a n) [
  | inl here ↦ inl (k, (omega arith, here.0, here.1))
  | inr other ↦ let found = some_from_map _ _ _ (sym other.1 ∙ e) in frame_of (suc k) m shapes a n found.0 (omega arith) found.1
]

place_of : (m : Image) → IsImage m → (a n at : ℕ) → index_of m a n ≡ Some at → IsPlaced a n
place_of m h a n at e = elim (index_split (record { base = context_base; len = m.context_len }) (frames_from 0 frame_count ++ maps_from 0 m.maps) a n) [
  | inl here ↦ let short = h.short in inl (omega (arith, here.1, short))
  | inr other ↦ let found = some_from_map _ _ _ (sym other.1 ∙ e) in inr (frame_of 0 frame_count m.maps a n found.0 (omega arith) found.1)
]

-- What a test of an address says of the frames.
unhidden : (b : Bool) (found : Option ℕ) → IsSome (if b then None else found) → (b ≡ false) × IsSome found
unhidden true found h = cc
unhidden false found h = (refl, h)

pub shown : (b : Bool) (found : Option ℕ) → b ≡ false → IsSome found → IsSome (if b then None else found)
shown true found e h = cc
shown false found e h = h

outside_frames : (i a : ℕ) → is_from_frame i a ≡ false → (a < frame_base i) ⊎ (frame_base frame_count ≤ a)
outside_frames i a e = grind (arith, nat_tests)

below_frames : (i a : ℕ) → a < frame_base i → is_from_frame i a ≡ false
below_frames i a h = grind (arith, nat_tests)

pub past_frames : (i a : ℕ) → frame_base frame_count ≤ a → is_from_frame i a ≡ false
past_frames i a h = grind (arith, nat_tests)

-- No address of a run that is accessible at a depth lies in a frame above it.
no_address : (d a n i j : ℕ) → IsPlaced a n → (a < frame_base (d + 1)) ⊎ (frame_base frame_count ≤ a) → d < i → i < frame_count → j < n → IsInFrame i (a + j) → ⊥
no_address d a n i j (inl context) side above there low within = omega (arith, within.0)
no_address d a n i j (inr (inr later)) side above there low within = omega (arith, within.1)
no_address d a n i j (inr (inl place)) (inl below) above there low within =
    omega (arith, place.1.1, place.1.2, within.0)
no_address d a n i j (inr (inl place)) (inr past) above there low within = omega (arith, place.1.0, place.1.2)

-- A run with no address in a frame above a depth begins below those frames or past them.
begins_below : (d a n : ℕ) → 1 ≤ n → IsPlaced a n → ((i j : ℕ) → d < i → i < frame_count → j < n → IsInFrame i (a + j) → ⊥) → is_from_frame (d + 1) a ≡ false
begins_below d a n some (inl context) h = below_frames (d + 1) a (omega arith)
begins_below d a n some (inr (inr later)) h = past_frames (d + 1) a (omega arith)
begins_below d a n some (inr (inl place)) h = elim (cases_lt a (frame_base (d + 1))) [
  | inl below ↦ below_frames (d + 1) a below
  | inr from ↦
      absurd (h place.0 0 (omega (arith, place.1.2)) place.1.0 some (omega (arith, place.1.1), omega (arith, place.1.2)))
]

pub law_accessible : AccessibleIsBelow
law_accessible x is a n some = (
  (λ seen.
      let parts = unhidden (is_from_frame (depth x + 1) a) (index_of x.memory a n) seen in
      let found = is_some _ parts.1 in
      let place = place_of x.memory is.image a n found.0 found.1 in
      (parts.1, λ i j. no_address (depth x) a n i j place (outside_frames (depth x + 1) a parts.0))),
  (λ given.
      let found = is_some _ given.0 in
      let place = place_of x.memory is.image a n found.0 found.1 in
      shown (is_from_frame (depth x + 1) a) (index_of x.memory a n) (begins_below (depth x) a n some place given.1) given.0),
)

-- The law of opening.
opened_bytes : Checked → List ℕ → List ℕ
opened_bytes program context = context ++ replicate (frame_len * frame_count + maps_len program.maps) 0

zero_behind : (program : Checked) (context : List ℕ) (k : ℕ) → k < frame_len * frame_count + maps_len program.maps → slice_index (opened_bytes program context) (length context + k) ≡ 0
unfolding opened_bytes
zero_behind program context k low =
    get_or-append-add context (replicate (frame_len * frame_count + maps_len program.maps) 0) k 0
    ∙ get_or-replicate (frame_len * frame_count + maps_len program.maps) k 0 0 low

-- The byte at a place of a map.
map_has : (i q : ℕ) (shapes : List MapShape) (shape : MapShape) (a j : ℕ) → slice_get shapes q ≡ Some shape → j < map_len shape → a ≡ map_address (i + q) + j → (at : ℕ) × (index_in (maps_from i shapes) a 1 ≡ Some at)
unfolding maps_from
map_has i q [] shape a j here low e = cc
map_has i zero (s ∷ shapes) shape a j here low e =
    let same : map_len s ≡ map_len shape = cc in
    (a - map_address i, index_here (record { base = map_address i; len = map_len s }) (maps_from (suc i) shapes) a 1 (omega arith) (omega (arith, same)))
map_has i (suc q) (s ∷ shapes) shape a j here low e = elim (index_split (record { base = map_address i; len = map_len s }) (maps_from (suc i) shapes) a 1) [
  | inl first ↦ (a - map_address i, first.2)
  | inr other ↦
      let later = map_has (suc i) q shapes shape a j here low (omega arith) in
      (map_len s + later.0, other.1 ∙ ap (option_map (λ at. map_len s + at)) later.1)
]

pub law_opened : OpenedByAddress
unfolding opened_bytes
law_opened program context short = (
  (λ j low.
      let bytes : List ℕ = opened_bytes program context in
      let place : context_base + j - context_base ≡ j = omega arith in
      ap (option_map (λ at. slice_index bytes at)) (index_here (record { base = context_base; len = length context }) (frames_from 0 frame_count ++ maps_from 0 program.maps) (context_base + j) 1 (omega arith) (omega arith))
      ∙ ap (λ at. Some (slice_index bytes at)) place
      ∙ ap Some (get_or_append_left context (replicate (frame_len * frame_count + maps_len program.maps) 0) 0 j low)),
  (λ i j there low.
      let region : Region = record { base = context_base; len = length context } in
      let a : ℕ = frame_base i + j in
      let frames = frames_in 0 frame_count i j a 1 (omega arith) (omega arith) there in
      ap (option_map (λ at. slice_index (opened_bytes program context) at)) (index_above region (frames_from 0 frame_count ++ maps_from 0 program.maps) a 1 (omega arith)
      ∙ ap (option_map (λ at. length context + at)) (none_behind (frames_from 0 frame_count) (maps_from 0 program.maps) a 1 (maps_below 0 program.maps a 1 (omega arith)) ∙ frames))
      ∙ ap Some (zero_behind program context (512 * i + j) (omega arith))),
  (λ i j shape here low.
      let region : Region = record { base = context_base; len = length context } in
      let a : ℕ = map_address i + j in
      let zeroth : 0 + i ≡ i = omega arith in
      let found = map_has 0 i program.maps shape a j here low (omega (arith, zeroth)) in
      let fits = index_fits (maps_from 0 program.maps) a 1 found.0 found.1 in
      let whole = total_maps 0 program.maps in
      ap (option_map (λ at. slice_index (opened_bytes program context) at)) (index_above region (frames_from 0 frame_count ++ maps_from 0 program.maps) a 1 (omega arith)
      ∙ ap (option_map (λ at. length context + at)) (frames_before 0 frame_count (maps_from 0 program.maps) a 1 (omega arith) (omega arith) ∙ ap (option_map (λ at. frame_len * frame_count + at)) found.1))
      ∙ ap Some (zero_behind program context (frame_len * frame_count + found.0) (omega (arith, fits, whole)))),
)

-- The laws of starting once more.
frame_bytes : List ℕ
frame_bytes = replicate (frame_len * frame_count) 0

restarted_bytes : Image → List ℕ → List ℕ
restarted_bytes m context = context ++ (frame_bytes ++ map_bytes m)

zero_in_frames : (m : Image) (context : List ℕ) (k : ℕ) → k < frame_len * frame_count → slice_index (restarted_bytes m context) (length context + k) ≡ 0
unfolding restarted_bytes frame_bytes
zero_in_frames m context k low =
    get_or-append-add context (frame_bytes ++ map_bytes m) k 0
    ∙ get_or_append_left frame_bytes (map_bytes m) 0 k (omega (arith, length-replicate {A = ℕ} (frame_len * frame_count) 0))
    ∙ get_or-replicate (frame_len * frame_count) k 0 0 low

same_in_maps : (m : Image) (context : List ℕ) (k : ℕ)
    → slice_index (restarted_bytes m context) (length context + (frame_len * frame_count + k)) ≡ slice_index m.bytes (m.context_len + (frame_len * frame_count + k))
unfolding restarted_bytes frame_bytes
same_in_maps m context k =
    let frames : length frame_bytes ≡ frame_len * frame_count = length-replicate {A = ℕ} (frame_len * frame_count) 0 in
    let place : m.context_len + frame_len * frame_count + k ≡ m.context_len + (frame_len * frame_count + k) = omega arith in
    get_or-append-add context (frame_bytes ++ map_bytes m) (frame_len * frame_count + k) 0
    ∙ ap (λ n. slice_index (frame_bytes ++ map_bytes m) (n + k)) (sym frames)
    ∙ get_or-append-add frame_bytes (map_bytes m) k 0
    ∙ get_or-drop (m.context_len + frame_len * frame_count) m.bytes k 0
    ∙ ap (λ n. slice_index m.bytes n) place

-- Where a byte of a map stands among all bytes.
at_map : (m : Image) (a at : ℕ) → map_base ≤ a → index_in (maps_from 0 m.maps) a 1 ≡ Some at → m.context_len ≤ context_limit
    → index_of m a 1 ≡ Some (m.context_len + (frame_len * frame_count + at))
at_map m a at past here short =
    let region : Region = record { base = context_base; len = m.context_len } in
    index_above region (frames_from 0 frame_count ++ maps_from 0 m.maps) a 1 (omega arith)
    ∙ ap (option_map (λ at. m.context_len + at)) (frames_before 0 frame_count (maps_from 0 m.maps) a 1 (omega arith) (omega arith) ∙ ap (option_map (λ at. frame_len * frame_count + at)) here)

pub law_restarted : RestartedByAddress
unfolding restarted_bytes frame_bytes
law_restarted x is context short = (
  (λ j low.
      let place : context_base + j - context_base ≡ j = omega arith in
      ap (option_map (λ at. slice_index (restarted_bytes x.memory context) at)) (index_here (record { base = context_base; len = length context }) (frames_from 0 frame_count ++ maps_from 0 x.memory.maps) (context_base + j) 1 (omega arith) (omega arith))
      ∙ ap (λ at. Some (slice_index (restarted_bytes x.memory context) at)) place
      ∙ ap Some (get_or_append_left context (frame_bytes ++ map_bytes x.memory) 0 j low)),
  (λ i j there low.
      let region : Region = record { base = context_base; len = length context } in
      let a : ℕ = frame_base i + j in
      let frames = frames_in 0 frame_count i j a 1 (omega arith) (omega arith) there in
      ap (option_map (λ at. slice_index (restarted_bytes x.memory context) at)) (index_above region (frames_from 0 frame_count ++ maps_from 0 x.memory.maps) a 1 (omega arith)
      ∙ ap (option_map (λ at. length context + at)) (none_behind (frames_from 0 frame_count) (maps_from 0 x.memory.maps) a 1 (maps_below 0 x.memory.maps a 1 (omega arith)) ∙ frames))
      ∙ ap Some (zero_in_frames x.memory context (512 * i + j) (omega arith))),
  (λ i j shape here low.
      let a : ℕ = map_address i + j in
      let zeroth : 0 + i ≡ i = omega arith in
      let found = map_has 0 i x.memory.maps shape a j (rw is.mapped here) low (omega (arith, zeroth)) in
      ap (option_map (λ at. slice_index (restarted_bytes x.memory context) at)) (at_map (with_context context x.memory) a found.0 (omega arith) found.1 short)
      ∙ ap Some (same_in_maps x.memory context found.0)
      ∙ sym (ap (option_map (λ at. slice_index x.memory.bytes at)) (at_map x.memory a found.0 (omega arith) found.1 is.image.short))),
)

still_zeros : (first : List ℕ) (n : ℕ)
    → replicate (frame_len * frame_count) 0 ++ drop (length first + frame_len * frame_count) (first ++ replicate (frame_len * frame_count + n) 0) ≡ replicate (frame_len * frame_count + n) 0
still_zeros first n =
    let zeros : List ℕ = replicate (frame_len * frame_count + n) 0 in
    let rest : frame_len * frame_count + n - frame_len * frame_count ≡ n = omega arith in
    ap (λ ys. replicate (frame_len * frame_count) 0 ++ ys)
    (sym (drop-drop (frame_len * frame_count) (length first) (first ++ zeros))
    ∙ ap (drop (frame_len * frame_count)) (drop-append-le (length first) first zeros (le_refl (length first)) ∙ ap (λ ys. ys ++ zeros) (drop_all (length first) first (le_refl (length first))))
    ∙ drop-replicate (frame_len * frame_count) (frame_len * frame_count + n) 0
    ∙ ap (λ k. replicate k 0) rest)
    ∙ replicate-append-replicate (frame_len * frame_count) n 0

pub law_unchanged : RestartedAtOpening
law_unchanged program first context =
    ap (λ bytes. record (initial program context) { memory = record { context_len = length context; maps = program.maps; bytes = context ++ bytes } }) (still_zeros first (maps_len program.maps))
