-- What a ring of entries holds, when the oldest is dropped and a new one is appended.
use Rattle.std.proofs.Common.{◌≡◌, ℕ, ◌+◌, ◌-◌, ◌^◌, ◌≤◌, ◌<◌, Bool, true, List, [], ◌∷◌, ◌++◌, Option, Some, length, take, drop, refl, sym, ap, ◌∙◌, subst, append_assoc, arith}
use Rattle.std.specs.Prelude.{sum_by}
use Rattle.std.proofs.lemmas.List.{take_at, drop_at, length-append, append-nil}
use Rattle.std.proofs.lemmas.List.Sums.{sum_by-cons}
use Rattle.std.proofs.lemmas.List.Elements.{All-head, All-tail, All-cons}
use Rattle.byteorder.specs.Endian.{little_bytes}
use Rattle.bpf_entries.specs.declared.entry.Entry.{Entry}
use Rattle.bpf_entries.specs.Past.{is_of_step}
use Rattle.bpf_steps.specs.declared.change.Change.{Change}
use Rattle.bpf_steps.specs.declared.change.Change.TheVariants as change
use Rattle.bpf_steps.specs.Entries.{entry_of, step_entry}
use Rattle.bpf_machine.specs.Moves.{HasComeBy}
use Rattle.bpf_steps.specs.Next.{change as change_of}
use Rattle.bpf_steps.specs.State.{State}
use Rattle.bpf_entries.specs.Fields.{FitsFields}
use Rattle.bpf_entries.specs.Keeping.{Kept, kept_weight, fit, keep}
use Rattle.bpf_entries.specs.Weights.{greatest_weight, weight}
use Rattle.bpf_entries.specs.Texts.{text, body, tag, kind}
use Rattle.bpf_entries.specs.Rings.{AllFit, ring}
use Rattle.bpf_entries.proofs.Texts.{length-text, weight_low, weight_high}
use Rattle.bpf_entries.proofs.Rings.{begins_with_oldest, back_of, front as front_of}
use Rattle.bpf_entries.proofs.Keeping.{fit_in, fit_all, fit_without_oldest}
use Rattle.bpf_ring.specs.Blocks.{Content}
use Rattle.bpf_ring.specs.declared.counts.Counts.{Counts}
use Rattle.bpf_ring.specs.Counted.{Counted}
use Rattle.bpf_ring.specs.Held.{IsHeld, NewestLed, HoldsWay}
use Rattle.bpf_ring.specs.Left.{Left}

-- A ring has as many bytes as its entries weigh, so at least as many as there are entries and marks.
pub length-ring : (ks : List Kept) → AllFit ks → length (ring ks) ≡ sum_by kept_weight ks
length-ring [] a = refl
length-ring (k ∷ ks) a =
    let rest : length (ring ks) ≡ sum_by kept_weight ks = length-ring ks (All-tail (λ k. FitsFields k.0) k ks a) in
    let here : length (text k.0 k.1) ≡ weight k.0 = length-text k.0 k.1 (All-head (λ k. FitsFields k.0) k ks a) in
    let sum = sum_by-cons kept_weight k ks in
    let both = length-append (ring ks) (text k.0 k.1) in
    omega (arith, rest, here, sum, both)

pub few_entries : (ks : List Kept) → AllFit ks → length ks ≤ length (ring ks)
few_entries [] a = omega arith
few_entries (k ∷ ks) a =
    let rest = few_entries ks (All-tail (λ k. FitsFields k.0) k ks a) in
    let here : length (text k.0 k.1) ≡ weight k.0 = length-text k.0 k.1 (All-head (λ k. FitsFields k.0) k ks a) in
    let high = weight_high k.0 in
    let both = length-append (ring ks) (text k.0 k.1) in
    omega (arith, rest, here, high, both)

-- The parts of a list that was pushed to at the far end.
pub all_but_last : (ks : List Kept) (z : Kept) → AllFit (ks ++ z ∷ []) → AllFit ks
all_but_last [] z a = λ i d h. absurd (omega (arith, h))
all_but_last (k ∷ ks) z a = All-cons (λ k. FitsFields k.0) k ks (All-head (λ k. FitsFields k.0) k (ks ++ z ∷ []) a) (all_but_last ks z (All-tail (λ k. FitsFields k.0) k (ks ++ z ∷ []) a))

pub last_of_all : (ks : List Kept) (z : Kept) → AllFit (ks ++ z ∷ []) → FitsFields z.0
last_of_all [] z a = All-head (λ k. FitsFields k.0) z [] a
last_of_all (k ∷ ks) z a = last_of_all ks z (All-tail (λ k. FitsFields k.0) k (ks ++ z ∷ []) a)

-- The oldest dropped.
pub dropped : (old new : Content) (before after : Counts) (ks : List Kept) (z : Kept) → IsHeld old before (ks ++ z ∷ [])
    → new.bytes ≡ drop (weight z.0) old.bytes → Counted after ks → IsHeld new after ks
dropped old new before after ks z held bytes counted =
    let front : FitsFields z.0 = last_of_all ks z held.fit in
    let whole : old.bytes ≡ text z.0 z.1 ++ ring ks = held.bytes ∙ begins_with_oldest ks z.0 z.1 in
    record {
      fit = all_but_last ks z held.fit;
      bytes = bytes ∙ ap (drop (weight z.0)) whole ∙ drop_at (text z.0 z.1) (ring ks) (weight z.0) (length-text z.0 z.1 front);
      counted = counted;
    }

-- One more.
pub appended : (old new : Content) (before after : Counts) (ks : List Kept) (e : Entry) (m : Bool) (bytes : List ℕ) → IsHeld old before ks → FitsFields e → bytes ≡ text e m
    → new.bytes ≡ old.bytes ++ bytes → Counted after ((e, m) ∷ ks) → IsHeld new after ((e, m) ∷ ks)
appended old new before after ks e m bytes held fits is new_bytes counted = record {
  fit = All-cons (λ k. FitsFields k.0) (e, m) ks fits held.fit;
  bytes = new_bytes ∙ ap (λ b. old.bytes ++ b) is ∙ ap (λ b. b ++ text e m) held.bytes;
  counted = counted;
}

pub few_held : (content : Content) (counts : Counts) (size n : ℕ) (ks : List Kept) → length content.bytes + n ≤ size → size ≤ 16777216 → IsHeld content counts ks → length ks < 2 ^ 63
few_held content counts size n ks within small held = omega (arith, within, small, ap length held.bytes, few_entries ks held.fit)

-- A list that isn't empty has an oldest.
pub record Oldest (ks : List Kept) : Type 0 where
  pub others : List Kept
  pub oldest : Kept
  pub whole : ks ≡ others ++ oldest ∷ []

pub oldest_of : (k : Kept) (ks : List Kept) → Oldest (k ∷ ks)
oldest_of k [] = record { others = []; oldest = k; whole = refl }
oldest_of k (l ∷ ks) = let rest = oldest_of l ks in record { others = k ∷ rest.others; oldest = rest.oldest; whole = ap (λ t. k ∷ t) rest.whole }

pub left_dropped : (old new : Content) (before after : Counts) (room : ℕ) (ks : List Kept) → room < length old.bytes
    → ((front : List Kept) (z : Kept) → IsHeld old before (front ++ z ∷ []) → IsHeld new after front)
    → Left old before room ks → Left new after room ks
left_dropped old new before after room ks more drops left = split left.front left.held left.same where
  split : (front : List Kept) → IsHeld old before front → fit kept_weight room front ≡ fit kept_weight room ks → Left new after room ks
  split [] held same = absurd (omega (arith, more, ap length held.bytes))
  split (k ∷ front) held same =
      let parts = oldest_of k front in
      let there : IsHeld old before (parts.others ++ parts.oldest ∷ []) = subst (IsHeld old before) parts.whole held in
      let weighs : room < sum_by kept_weight (parts.others ++ parts.oldest ∷ []) = omega (arith, more, ap length there.bytes, length-ring (parts.others ++ parts.oldest ∷ []) there.fit) in
      record {
        front = parts.others;
        held = drops parts.others parts.oldest there;
        same = sym (fit_without_oldest kept_weight room parts.others parts.oldest weighs) ∙ ap (fit kept_weight room) (sym parts.whole) ∙ same;
      }

pub left_all : (content : Content) (counts : Counts) (room : ℕ) (ks : List Kept) → length content.bytes ≤ room → Left content counts room ks
    → IsHeld content counts (fit kept_weight room ks)
left_all content counts room ks within left =
    let weighs : sum_by kept_weight left.front ≤ room = omega (arith, within, ap length left.held.bytes, length-ring left.front left.held.fit) in
    subst (IsHeld content counts) (sym (fit_all kept_weight room left.front weighs) ∙ left.same) left.held

-- What the oldest entry's text says of a ring that begins with it.
pub begins : (content : Content) (counts : Counts) (ks : List Kept) (z : Kept) → IsHeld content counts (ks ++ z ∷ []) → content.bytes ≡ text z.0 z.1 ++ ring ks
begins content counts ks z held = held.bytes ∙ begins_with_oldest ks z.0 z.1

pub begins_with_weight : (bytes : List ℕ) (z : Kept) (rest : List ℕ) → bytes ≡ text z.0 z.1 ++ rest
    → bytes ≡ little_bytes 2 (weight z.0) ++ ((tag (kind z.0) z.1 ∷ (body z.0 ++ little_bytes 2 (weight z.0))) ++ rest)
begins_with_weight bytes z rest h = h

pub weighs_within : (bytes : List ℕ) (z : Kept) (rest : List ℕ) → FitsFields z.0 → bytes ≡ text z.0 z.1 ++ rest → weight z.0 ≤ length bytes
weighs_within bytes z rest a h = omega (arith, ap length h, length-append (text z.0 z.1) rest, length-text z.0 z.1 a)

-- What a tag at a place is.
abbrev pub TagAt : Content → ℕ → ℕ → Type 0
TagAt content place t = (e : Entry) (m : Bool) (before rest : List ℕ) → content.bytes ≡ before ++ (text e m ++ rest) → place ≡ length before → t ≡ tag (kind e) m

-- What counts do without an entry with a tag.
abbrev pub CountsOldest : Counts → Counts → ℕ → Type 0
CountsOldest old new t = (ks : List Kept) (z : Kept) → Counted old (ks ++ z ∷ []) → t ≡ tag (kind z.0) z.1 → Counted new ks

abbrev pub CountsNewest : Counts → Counts → ℕ → Type 0
CountsNewest old new t = (ks : List Kept) (k : Kept) → Counted old (k ∷ ks) → t ≡ tag (kind k.0) k.1 → Counted new ks

-- The whole of a drop, by what was read of the oldest.
pub drop_held : (old new : Content) (before after : Counts) (n count t : ℕ) (ks : List Kept) (z : Kept) → IsHeld old before (ks ++ z ∷ [])
    → ((k : ℕ) (rest : List ℕ) → k < 2 ^ 16 → old.bytes ≡ little_bytes 2 k ++ rest → n ≡ k)
    → ((e : Entry) (mark : Bool) (rest : List ℕ) → old.bytes ≡ text e mark ++ rest → t ≡ tag (kind e) mark)
    → (1 ≤ n → n ≤ length old.bytes → count ≡ n)
    → new.bytes ≡ drop count old.bytes → CountsOldest before after t → IsHeld new after ks
drop_held old new before after n count t ks z held len tags same bytes counts =
    let fits : FitsFields z.0 = last_of_all ks z held.fit in
    let whole : old.bytes ≡ text z.0 z.1 ++ ring ks = begins old before ks z held in
    let low = weight_low z.0 fits in
    let high = weight_high z.0 in
    let inside = weighs_within old.bytes z (ring ks) fits whole in
    let is : n ≡ weight z.0 = len (weight z.0) _ (omega (arith, low)) (begins_with_weight old.bytes z (ring ks) whole) in
    let exact : count ≡ weight z.0 = same (omega (arith, is, high)) (omega (arith, is, inside)) ∙ is in
    dropped old new before after ks z held (bytes ∙ ap (λ k. drop k old.bytes) exact) (counts ks z held.counted (tags z.0 z.1 (ring ks) whole))

-- What a ring kept for a new entry, and the entry behind it.
pub kept_more : (size : ℕ) (content : Content) (counts : Counts) (ks : List Kept) (e : Entry) (m : Bool) → 1024 ≤ size → FitsFields e
    → IsHeld content counts ((e, m) ∷ fit kept_weight (size - weight e) ks) → IsHeld content counts (keep kept_weight size ks (e, m))
kept_more size content counts ks e m large fits held =
    let low = weight_low e fits in
    subst (IsHeld content counts) (sym (fit_in kept_weight size (e, m) ks (omega (arith, low, large)))) held

-- The newest entry's text, as it is copied out.
pub newest_text : (content : Content) (counts : Counts) (n count : ℕ) (ks : List Kept) (k : Kept) (bytes : List ℕ) → IsHeld content counts (k ∷ ks)
    → ((w : ℕ) (before : List ℕ) → w < 2 ^ 16 → content.bytes ≡ before ++ little_bytes 2 w → n ≡ w)
    → (1 ≤ n → n ≤ length content.bytes → count ≡ n)
    → bytes ≡ drop (length content.bytes - count) content.bytes → (count ≡ weight k.0) × (bytes ≡ text k.0 k.1)
newest_text content counts n count ks k bytes held len same copied =
    let fits : FitsFields k.0 = All-head (λ k. FitsFields k.0) k ks held.fit in
    let low = weight_low k.0 fits in
    let high = weight_high k.0 in
    let long : length (text k.0 k.1) ≡ weight k.0 = length-text k.0 k.1 fits in
    let sum : length content.bytes ≡ length (ring ks) + length (text k.0 k.1) = ap length held.bytes ∙ length-append (ring ks) (text k.0 k.1) in
    let is : n ≡ weight k.0 = len (weight k.0) (ring ks ++ front_of k.0 k.1) (omega (arith, low)) (held.bytes ∙ back_of (ring ks) k.0 k.1) in
    let exact : count ≡ weight k.0 = same (omega (arith, is, high)) (omega (arith, is, sum, long)) ∙ is in
    let place : length (ring ks) ≡ length content.bytes - count = omega (arith, sum, long, exact) in
    let last : drop (length content.bytes - count) content.bytes ≡ text k.0 k.1 = ap (drop (length content.bytes - count)) held.bytes ∙ drop_at (ring ks) (text k.0 k.1) (length content.bytes - count) place in
    (exact, copied ∙ last)

pub some_bytes : (content : Content) (counts : Counts) (ks : List Kept) (k : Kept) → IsHeld content counts (k ∷ ks) → 5 ≤ length content.bytes
some_bytes content counts ks k held =
    let high = weight_high k.0 in
    omega (arith, high, ap length held.bytes, length-append (ring ks) (text k.0 k.1), length-text k.0 k.1 (All-head (λ k. FitsFields k.0) k ks held.fit))

pub newest_count : (content : Content) (counts : Counts) (n count : ℕ) (ks : List Kept) (k : Kept) → IsHeld content counts (k ∷ ks)
    → ((w : ℕ) (before : List ℕ) → w < 2 ^ 16 → content.bytes ≡ before ++ little_bytes 2 w → n ≡ w)
    → (1 ≤ n → n ≤ length content.bytes → count ≡ n) → count ≡ weight k.0
newest_count content counts n count ks k held len same =
    (newest_text content counts n count ks k (drop (length content.bytes - count) content.bytes) held len same refl).0

-- The newest's tag.
pub newest_tag : (content : Content) (counts : Counts) (n count t : ℕ) (ks : List Kept) (k : Kept) → IsHeld content counts (k ∷ ks)
    → ((w : ℕ) (before : List ℕ) → w < 2 ^ 16 → content.bytes ≡ before ++ little_bytes 2 w → n ≡ w)
    → (1 ≤ n → n ≤ length content.bytes → count ≡ n)
    → TagAt content (length content.bytes - count) t → t ≡ tag (kind k.0) k.1
newest_tag content counts n count t ks k held len same tags =
    let exact : count ≡ weight k.0 = newest_count content counts n count ks k held len same in
    let long : length (text k.0 k.1) ≡ weight k.0 = length-text k.0 k.1 (All-head (λ k. FitsFields k.0) k ks held.fit) in
    let sum : length content.bytes ≡ length (ring ks) + length (text k.0 k.1) = ap length held.bytes ∙ length-append (ring ks) (text k.0 k.1) in
    let whole : content.bytes ≡ ring ks ++ (text k.0 k.1 ++ []) = held.bytes ∙ ap (λ l. ring ks ++ l) (sym (append-nil (text k.0 k.1))) in
    tags k.0 k.1 (ring ks) [] whole (omega (arith, sum, long, exact))

-- The newest led to a state, by its text.
pub record CameBy (content : Content) (count : ℕ) (y : State) : Type 0 where
  pub light : count ≤ greatest_weight
  pub come : HasComeBy y (drop (length content.bytes - count) content.bytes)

pub came_by : (content : Content) (counts : Counts) (n count : ℕ) (y : State) → HoldsWay content counts y → 5 ≤ length content.bytes
    → ((w : ℕ) (before : List ℕ) → w < 2 ^ 16 → content.bytes ≡ before ++ little_bytes 2 w → n ≡ w)
    → (1 ≤ n → n ≤ length content.bytes → count ≡ n) → CameBy content count y
came_by content counts n count y way some len same = split way.ks way.held way.led where
  split : (ks : List Kept) → IsHeld content counts ks → NewestLed ks y → CameBy content count y
  split [] held led = absurd (omega (arith, some, ap length held.bytes))
  split (k ∷ ks) held led =
      let fits : FitsFields k.0 = All-head (λ k. FitsFields k.0) k ks held.fit in
      let told = newest_text content counts n count ks k (drop (length content.bytes - count) content.bytes) held len same refl in
      let low = weight_low k.0 fits in
      record {
        light = omega (arith, told.0, low);
        come = record { entry = k.0; mark = k.1; come = led; fits = fits; held = told.1 };
      }

-- The newest dropped, by its length and its tag.
pub dropped_exact : (old new : Content) (before after : Counts) (count t : ℕ) (ks : List Kept) (k : Kept) → IsHeld old before (k ∷ ks)
    → count ≡ weight k.0 → t ≡ tag (kind k.0) k.1
    → new.bytes ≡ take (length old.bytes - count) old.bytes → CountsNewest before after t → IsHeld new after ks
dropped_exact old new before after count t ks k held exact is bytes counts =
    let fits : FitsFields k.0 = All-head (λ k. FitsFields k.0) k ks held.fit in
    let long : length (text k.0 k.1) ≡ weight k.0 = length-text k.0 k.1 fits in
    let sum : length old.bytes ≡ length (ring ks) + length (text k.0 k.1) = ap length held.bytes ∙ length-append (ring ks) (text k.0 k.1) in
    let place : length (ring ks) ≡ length old.bytes - count = omega (arith, sum, long, exact) in
    record {
      fit = All-tail (λ k. FitsFields k.0) k ks held.fit;
      bytes = bytes ∙ ap (take (length old.bytes - count)) held.bytes ∙ take_at (ring ks) (text k.0 k.1) (length old.bytes - count) place;
      counted = counts ks k held.counted is;
    }

-- The same, by what was read of its length.
pub dropped_newest : (old new : Content) (before after : Counts) (n count t : ℕ) (ks : List Kept) (k : Kept) → IsHeld old before (k ∷ ks)
    → ((w : ℕ) (before : List ℕ) → w < 2 ^ 16 → old.bytes ≡ before ++ little_bytes 2 w → n ≡ w)
    → (1 ≤ n → n ≤ length old.bytes → count ≡ n)
    → t ≡ tag (kind k.0) k.1
    → new.bytes ≡ take (length old.bytes - count) old.bytes → CountsNewest before after t → IsHeld new after ks
dropped_newest old new before after n count t ks k held len same is bytes counts =
    dropped_exact old new before after count t ks k held (newest_count old before n count ks k held len same) is bytes counts

-- The same, by what was read at its place.
pub popped : (old new : Content) (before after : Counts) (n count t : ℕ) (ks : List Kept) (k : Kept) → IsHeld old before (k ∷ ks)
    → ((w : ℕ) (before : List ℕ) → w < 2 ^ 16 → old.bytes ≡ before ++ little_bytes 2 w → n ≡ w)
    → (1 ≤ n → n ≤ length old.bytes → count ≡ n)
    → TagAt old (length old.bytes - count) t
    → new.bytes ≡ take (length old.bytes - count) old.bytes → CountsNewest before after t → IsHeld new after ks
popped old new before after n count t ks k held len same tags bytes counts =
    dropped_newest old new before after n count t ks k held len same (newest_tag old before n count t ks k held len same tags) bytes counts

-- The text of a list without some of its newest stands in front.
pub ring-append : (newer front : List Kept) → ring (newer ++ front) ≡ ring front ++ ring newer
ring-append [] front = sym (append-nil (ring front))
ring-append (k ∷ ks) front = ap (λ l. l ++ text k.0 k.1) (ring-append ks front) ∙ append_assoc (ring front) (ring ks) (text k.0 k.1)

pub fit_front : (newer front : List Kept) → AllFit (newer ++ front) → AllFit front
fit_front [] front a = a
fit_front (k ∷ ks) front a = fit_front ks front (All-tail (λ k. FitsFields k.0) k (ks ++ front) a)

-- Where an entry stands: behind the text of the older ones, in front of that of the newer ones.
pub record Stands (content : Content) (place : ℕ) (newer front : List Kept) (k : Kept) : Type 0 where
  pub fits : FitsFields k.0
  pub bytes : content.bytes ≡ ring front ++ (text k.0 k.1 ++ ring newer)
  pub older : length (ring front) ≡ sum_by kept_weight front
  pub end : place ≡ length (ring front) + weight k.0

pub stands_at : (content : Content) (counts : Counts) (place : ℕ) (newer front : List Kept) (k : Kept) → IsHeld content counts (newer ++ k ∷ front)
    → place ≡ sum_by kept_weight (k ∷ front) → Stands content place newer front k
stands_at content counts place newer front k held at =
    let all : AllFit (k ∷ front) = fit_front newer (k ∷ front) held.fit in
    let older : length (ring front) ≡ sum_by kept_weight front = length-ring front (All-tail (λ k. FitsFields k.0) k front all) in
    let sum : sum_by kept_weight (k ∷ front) ≡ kept_weight k + sum_by kept_weight front = sum_by-cons kept_weight k front in
    record {
      fits = All-head (λ k. FitsFields k.0) k front all;
      bytes = held.bytes ∙ ring-append newer (k ∷ front) ∙ append_assoc (ring front) (text k.0 k.1) (ring newer);
      older = older;
      end = omega (arith, at, sum, older);
    }

-- The number in front of its end, the count that is made of it, and the bytes that were copied.
pub record Found (content : Content) (place count : ℕ) (bytes : List ℕ) (front : List Kept) (k : Kept) : Type 0 where
  pub weighs : count ≡ weight k.0
  pub copied : bytes ≡ text k.0 k.1
  pub behind : place - count ≡ sum_by kept_weight front

pub found_at : (content : Content) (place n count : ℕ) (newer front : List Kept) (k : Kept) (bytes : List ℕ) → Stands content place newer front k
    → ((w : ℕ) (before rest : List ℕ) → w < 2 ^ 16 → content.bytes ≡ before ++ (little_bytes 2 w ++ rest) → place ≡ length before + 2 → n ≡ w)
    → (1 ≤ n → n ≤ place → count ≡ n)
    → bytes ≡ take count (drop (place - count) content.bytes) → Found content place count bytes front k
found_at content place n count newer front k bytes s len same copied =
    let low = weight_low k.0 s.fits in
    let high = weight_high k.0 in
    let w = weight k.0 in
    let long : length (text k.0 k.1) ≡ w = length-text k.0 k.1 s.fits in
    let before : List ℕ = ring front ++ front_of k.0 k.1 in
    let cut : content.bytes ≡ before ++ (little_bytes 2 w ++ ring newer) =
    s.bytes ∙ sym (append_assoc (ring front) (text k.0 k.1) (ring newer))
    ∙ ap (λ l. l ++ ring newer) (back_of (ring front) k.0 k.1)
    ∙ append_assoc before (little_bytes 2 w) (ring newer) in
    let two : length (ring front ++ text k.0 k.1) ≡ length before + 2 = ap length (back_of (ring front) k.0 k.1) ∙ length-append before (little_bytes 2 w) in
    let ends : place ≡ length before + 2 = omega (arith, s.end, two, long, length-append (ring front) (text k.0 k.1)) in
    let is : n ≡ w = len w before (ring newer) (omega (arith, low)) cut ends in
    let exact : count ≡ w = same (omega (arith, is, high)) (omega (arith, is, s.end)) ∙ is in
    let from : length (ring front) ≡ place - count = omega (arith, s.end, exact) in
    let tail : drop (place - count) content.bytes ≡ text k.0 k.1 ++ ring newer =
    ap (drop (place - count)) s.bytes ∙ drop_at (ring front) (text k.0 k.1 ++ ring newer) (place - count) from in
    record {
      weighs = exact;
      copied = copied ∙ ap (take count) tail ∙ take_at (text k.0 k.1) (ring newer) count (omega (arith, long, exact));
      behind = omega (arith, from, s.older);
    }

-- Its end is past the five bytes that each text has at least, and within the ring.
pub some_before : (content : Content) (place : ℕ) (newer front : List Kept) (k : Kept) → Stands content place newer front k → (5 ≤ place) × (place ≤ length content.bytes)
some_before content place newer front k s =
    let high = weight_high k.0 in
    let long : length (text k.0 k.1) ≡ weight k.0 = length-text k.0 k.1 s.fits in
    let whole : length content.bytes ≡ length (ring front) + (weight k.0 + length (ring newer)) = omega (arith, ap length s.bytes, length-append (ring front) (text k.0 k.1 ++ ring newer), length-append (text k.0 k.1) (ring newer), long) in
    (omega (arith, s.end, high), omega (arith, s.end, whole))

-- What was read, with the place of what is left.
pub walked : (found : Option (Entry × Bool)) (e f : Entry) (m n : Bool) (rest sum : ℕ) → found ≡ Some (e, m) → found ≡ Some (f, n) → rest ≡ sum
    → ◌≡◌ {A = Option (Entry × Bool × ℕ)} (Some (e, m, rest)) (Some (f, n, sum))
walked found e f m n rest sum is read behind =
    let pair : ◌≡◌ {A = Entry × Bool} (e, m) (f, n) = cc in
    let entries : e ≡ f = ap (λ (q : Entry × Bool). q.0) pair in
    let marks : m ≡ n = ap (λ (q : Entry × Bool). q.1) pair in
    cc

-- The entry of a step is of a step.
by_change : (x : State) (d : Change) → true ≡ is_of_step (entry_of x d)
unfolding entry_of
by_change x (change.Set r value after) = refl
by_change x (change.Go after) = refl
by_change x (change.Store a at size value after) = refl
by_change x (change.Fetch a at size value r after) = refl
by_change x (change.Call to) = refl
by_change x change.Return = refl
by_change x (change.Cell a from n after) = refl
by_change x (change.Trace word after) = refl
by_change x (change.Stop status) = refl

pub of_a_step : (x : State) → true ≡ is_of_step (step_entry x)
of_a_step x = by_change x (change_of x)
