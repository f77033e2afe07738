-- Entries that are counted by a walk over their text, from the oldest on.
use Rattle.std.proofs.Common.{◌≡◌, ℕ, ◌+◌, ◌-◌, ◌^◌, ◌≤◌, ◌<◌, List, [], ◌∷◌, ◌++◌, length, refl, sym, ap, ◌∙◌, subst, append_assoc, arith}
use Rattle.std.proofs.lemmas.List.{length-append, append-nil}
use Rattle.std.proofs.lemmas.List.Elements.{All-head, All-tail}
use Rattle.byteorder.specs.Endian.{little_bytes}
use Rattle.bpf_entries.specs.Fields.{FitsFields}
use Rattle.bpf_entries.specs.Keeping.{Kept}
use Rattle.bpf_entries.specs.Rings.{AllFit, ring}
use Rattle.bpf_entries.specs.Texts.{text, body, tag, kind}
use Rattle.bpf_entries.specs.Weights.{weight}
use Rattle.bpf_entries.proofs.Texts.{length-text, weight_low, weight_high}
use Rattle.bpf_ring.specs.Blocks.{Content}
use Rattle.bpf_ring.specs.Counted.{Counted}
use Rattle.bpf_ring.specs.declared.counts.Counts.{Counts}
use Rattle.bpf_ring.proofs.Held.{few_entries, fit_front, oldest_of, ring-append, TagAt}

-- The oldest of a list were counted, up to a place in its text.
pub record Walked (counts : Counts) (place : ℕ) (ks : List Kept) : Type 0 where
  pub newer : List Kept
  pub older : List Kept
  pub whole : ks ≡ newer ++ older
  pub here : place ≡ length (ring older)
  pub counted : Counted counts older

pub walk_begins : (counts : Counts) (ks : List Kept) → Counted counts [] → Walked counts 0 ks
walk_begins counts ks none = record { newer = ks; older = []; whole = sym (append-nil ks); here = refl; counted = none }

-- How many bytes the entry at a place has, as they say.
abbrev pub LenAt : Content → ℕ → ℕ → Type 0
LenAt content place n = (w : ℕ) (before rest : List ℕ) → w < 2 ^ 16 → content.bytes ≡ before ++ (little_bytes 2 w ++ rest) → place ≡ length before → n ≡ w

-- What counts do with one more, by its tag.
abbrev pub CountsMore : Counts → Counts → ℕ → Type 0
CountsMore old new t = (ks : List Kept) (k : Kept) → Counted old ks → length ks < 2 ^ 63 → t ≡ tag (kind k.0) k.1 → Counted new (k ∷ ks)

-- One more is counted, the oldest of those that weren't.
one_more : (content : Content) (old new : Counts) (place n count t : ℕ) (newer older : List Kept) (z : Kept) → AllFit (newer ++ z ∷ older) → content.bytes ≡ ring (newer ++ z ∷ older)
    → place ≡ length (ring older) → Counted old older → length content.bytes ≤ 16777216
    → LenAt content place n → (1 ≤ n → n ≤ length content.bytes - place → count ≡ n) → TagAt content place t → CountsMore old new t
    → Walked new (place + count) (newer ++ z ∷ older)
one_more content old new place n count t newer older z fit bytes here counted small len same tags more =
    let all : AllFit (z ∷ older) = fit_front newer (z ∷ older) fit in
    let fits : FitsFields z.0 = All-head (λ k. FitsFields k.0) z older all in
    let low = weight_low z.0 fits in
    let high = weight_high z.0 in
    let long : length (text z.0 z.1) ≡ weight z.0 = length-text z.0 z.1 fits in
    let cut : content.bytes ≡ ring older ++ (text z.0 z.1 ++ ring newer) = bytes ∙ ring-append newer (z ∷ older) ∙ append_assoc (ring older) (text z.0 z.1) (ring newer) in
    let sum : length content.bytes ≡ length (ring older) + (weight z.0 + length (ring newer)) = omega (arith, ap length cut, length-append (ring older) (text z.0 z.1 ++ ring newer), length-append (text z.0 z.1) (ring newer), long) in
    let is : n ≡ weight z.0 = len (weight z.0) (ring older) ((tag (kind z.0) z.1 ∷ (body z.0 ++ little_bytes 2 (weight z.0))) ++ ring newer) (omega (arith, low)) cut here in
    let exact : count ≡ weight z.0 = same (omega (arith, is, high)) (omega (arith, is, sum, here)) ∙ is in
    let few : length older < 2 ^ 63 = omega (arith, few_entries older (All-tail (λ k. FitsFields k.0) z older all), sum, small) in
    record {
      newer = newer;
      older = z ∷ older;
      whole = refl;
      here = omega (arith, here, exact, long, length-append (ring older) (text z.0 z.1));
      counted = more older z counted few (tags z.0 z.1 (ring older) (ring newer) cut here);
    }

pub walk_on : (content : Content) (old new : Counts) (place n count t : ℕ) (ks : List Kept) → AllFit ks → content.bytes ≡ ring ks → place < length content.bytes → length content.bytes ≤ 16777216
    → LenAt content place n → (1 ≤ n → n ≤ length content.bytes - place → count ≡ n) → TagAt content place t → CountsMore old new t
    → Walked old place ks → Walked new (place + count) ks
walk_on content old new place n count t ks fit bytes more small len same tags counts w = split w.newer w.older w.whole w.here w.counted where
  split : (newer older : List Kept) → ks ≡ newer ++ older → place ≡ length (ring older) → Counted old older → Walked new (place + count) ks
  split [] older whole here counted = absurd (omega (arith, more, here, ap length bytes, ap (λ l. length (ring l)) whole))
  split (k ∷ newer) older whole here counted =
      let parts = oldest_of k newer in
      let is : ks ≡ parts.others ++ parts.oldest ∷ older = whole ∙ ap (λ l. l ++ older) parts.whole ∙ append_assoc parts.others (parts.oldest ∷ []) older in
      subst (Walked new (place + count)) (sym is)
      (one_more content old new place n count t parts.others older parts.oldest (subst AllFit is fit) (bytes ∙ ap ring is) here counted small len same tags counts)

-- At the end all of them are.
pub walk_ends : (content : Content) (counts : Counts) (place : ℕ) (ks : List Kept) → AllFit ks → content.bytes ≡ ring ks → length content.bytes ≤ place → Walked counts place ks → Counted counts ks
walk_ends content counts place ks fit bytes past w = split w.newer w.older w.whole w.here w.counted where
  split : (newer older : List Kept) → ks ≡ newer ++ older → place ≡ length (ring older) → Counted counts older → Counted counts ks
  split [] older whole here counted = subst (Counted counts) (sym whole) counted
  split (k ∷ newer) older whole here counted =
      let all : AllFit (k ∷ (newer ++ older)) = subst AllFit whole fit in
      let long : length (text k.0 k.1) ≡ weight k.0 = length-text k.0 k.1 (All-head (λ k. FitsFields k.0) k (newer ++ older) all) in
      let high = weight_high k.0 in
      let sum : length content.bytes ≡ length (ring older) + length (ring (k ∷ newer)) = ap length bytes ∙ ap (λ l. length (ring l)) whole ∙ ap length (ring-append (k ∷ newer) older) ∙ length-append (ring older) (ring (k ∷ newer)) in
      absurd (omega (arith, sum, length-append (ring newer) (text k.0 k.1), long, high, here, past))
