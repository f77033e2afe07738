-- The newest entries, as far as they are of steps and have no mark.
use Rattle.std.proofs.Common.{◌≡◌, ◌≤◌, ◌+◌, ◌-◌, ℕ, zero, suc, List, [], ◌∷◌, ◌++◌, length, take, drop, refl, sym, ap, subst, ◌∙◌, append_assoc, arith}
use Rattle.std.specs.Prelude.{All, sum_by}
use Rattle.std.proofs.lemmas.List.{length-append, length-take, take_all, take_at, take-append-drop}
use Rattle.std.proofs.lemmas.List.Elements.{All-cons, All-head, All-tail}
use Rattle.std.proofs.lemmas.List.Sums.{sum_by-append, sum_by_push}
use Rattle.bpf_entries.specs.Keeping.{Kept, kept_weight}
use Rattle.bpf_entries.specs.Rings.{AllFit, ring}
use Rattle.bpf_entries.specs.Texts.{text}
use Rattle.bpf_entries.specs.Weights.{weight}
use Rattle.bpf_ring.proofs.Counted.{step_fewer}
use Rattle.bpf_ring.proofs.Held.{fit_front, length-ring, ring-append}
use Rattle.bpf_ring.proofs.Ways.{text_left}
use Rattle.bpf_ring.specs.Blocks.{Content}
use Rattle.bpf_ring.specs.Counted.{Counted}
use Rattle.bpf_ring.specs.Held.{IsHeld}
use Rattle.bpf_ring.specs.Stretches.{IsStretch, IsUnmarked}
use Rattle.bpf_ring.specs.Ways.{HasText}
use Rattle.bpf_ring.specs.declared.counts.Counts.{Counts}
use Rattle.bpf_ring.specs.declared.stretches.Stretch.{Stretch}

-- So many of the newest of a list were looked at, whose text bytes end in: each is as is said.
module _ (P : Kept → Type 0) where
  pub record Passed (count len : ℕ) (front bytes : List ℕ) (ks : List Kept) : Type 0 where
    pub newer : List Kept
    pub older : List Kept
    pub whole : ks ≡ newer ++ older
    pub many : length newer ≡ count
    pub each : All P newer
    pub weighs : len ≡ sum_by kept_weight newer
    pub left : HasText (front ++ take (length bytes - len) bytes) older

  pub passed_none : (front bytes : List ℕ) (ks : List Kept) → HasText (front ++ bytes) ks → Passed 0 0 front bytes ks
  passed_none front bytes ks held = record {
    newer = [];
    older = ks;
    whole = refl;
    many = refl;
    each = λ i d h. absurd (omega (arith, h));
    weighs = refl;
    left = subst (λ (l : List ℕ). HasText (front ++ l) ks) (sym (take_all (length bytes - 0) bytes (omega arith))) held;
  }

  pub record Newest (count len : ℕ) (ks : List Kept) : Type 0 where
    pub there : count ≤ length ks
    pub each : All P (take count ks)
    pub weighs : len ≡ sum_by kept_weight (take count ks)

  pub passed_newest : (count len : ℕ) (front bytes : List ℕ) (ks : List Kept) → Passed count len front bytes ks → Newest count len ks
  passed_newest count len front bytes ks p =
      let long = length-append p.newer p.older in
      let newest : take count ks ≡ p.newer = ap (take count) p.whole ∙ take_at p.newer p.older count p.many in
      record {
        there = omega (arith, p.many, long, ap length p.whole);
        each = subst (All P) (sym newest) p.each;
        weighs = p.weighs ∙ ap (sum_by kept_weight) (sym newest);
      }

  all_push : (ks : List Kept) (k : Kept) → All P ks → P k → All P (ks ++ k ∷ [])
  all_push [] k all is = All-cons P k [] is (λ i d h. absurd (omega (arith, h)))
  all_push (l ∷ ks) k all is = All-cons P l (ks ++ k ∷ []) (All-head P l ks all) (all_push ks k (All-tail P l ks all) is)

  -- The text of one more.
  pub record Ends (bytes : List ℕ) (n : ℕ) (k : Kept) : Type 0 where
    pub is : P k
    pub weighs : n ≡ weight k.0
    pub newest : drop (length bytes - n) bytes ≡ text k.0 k.1

  pub passed_one : (count len n : ℕ) (front bytes : List ℕ) (ks : List Kept) → 5 ≤ n → n ≤ length bytes - len
      → ((k : Kept) (ls : List Kept) → HasText (front ++ take (length bytes - len) bytes) (k ∷ ls) → Ends (take (length bytes - len) bytes) n k)
      → Passed count len front bytes ks → Passed (count + 1) (len + n) front bytes ks
  passed_one count len n front bytes ks some low ends p = split p.newer p.older p.whole p.many p.each p.weighs p.left where
    split : (newer older : List Kept) → ks ≡ newer ++ older → length newer ≡ count → All P newer → len ≡ sum_by kept_weight newer
        → HasText (front ++ take (length bytes - len) bytes) older → Passed (count + 1) (len + n) front bytes ks
    split newer [] whole many each weighs left =
        absurd (omega (arith, ap length left.whole, length-append front (take (length bytes - len) bytes), length-take (length bytes - len) bytes, some, low))
    split newer (k ∷ older) whole many each weighs left =
        let e = ends k older left in
        let down : length bytes - len - n ≡ length bytes - (len + n) = omega arith in
        record {
          newer = newer ++ k ∷ [];
          older = older;
          whole = whole ∙ sym (append_assoc newer (k ∷ []) older);
          many = omega (arith, many, length-append newer (k ∷ []));
          each = all_push newer k each e.is;
          weighs = omega (arith, weighs, e.weighs, sum_by_push kept_weight newer k);
          left = subst (λ (m : ℕ). HasText (front ++ take m bytes) older) down (text_left front bytes (length bytes - len) n k older left low (omega arith) e.newest);
        }

-- Without some of the newest there are as many fewer.
counted_without : (counts : Counts) (newer older : List Kept) → All IsUnmarked newer → Counted counts (newer ++ older)
    → Counted (record counts { entries = counts.entries - length newer }) older
counted_without counts [] older plain counted =
    let none : counts.entries ≡ counts.entries - 0 = omega arith in
    subst (λ (n : ℕ). Counted (record counts { entries = n }) older) none counted
counted_without counts (k ∷ newer) older plain counted =
    let less : Counts = record counts { entries = counts.entries - 1 } in
    let is = All-head IsUnmarked k newer plain in
    let fewer : counts.entries - 1 - length newer ≡ counts.entries - length (k ∷ newer) = omega arith in
    subst (λ (n : ℕ). Counted (record counts { entries = n }) older) fewer
    (counted_without less newer older (All-tail IsUnmarked k newer plain) (step_fewer counts less (newer ++ older) k counted is.0 is.1 refl refl refl))

-- What a ring holds without a stretch.
pub without_stretch : (old new : Content) (before after : Counts) (s : Stretch) (n : ℕ) (ks : List Kept) → IsHeld old before ks → IsStretch s ks → (s.len ≤ length old.bytes → n ≡ s.len)
    → new.bytes ≡ take (length old.bytes - n) old.bytes → after ≡ record before { entries = before.entries - s.count } → IsHeld new after (drop s.count ks)
without_stretch old new before after s n ks held stretch is bytes counts = record {
  fit = fit_front newer older fits;
  bytes = bytes ∙ ap (λ (m : ℕ). take (length old.bytes - m) old.bytes) (is within) ∙ ap (take (length old.bytes - s.len)) cut ∙ take_at (ring older) (ring newer) (length old.bytes - s.len) front;
  counted = subst (λ (c : Counts). Counted c older) (sym counts)
      (subst (λ (m : ℕ). Counted (record before { entries = before.entries - m }) older) many
      (counted_without before newer older stretch.unmarked.plain (subst (Counted before) whole held.counted)));
}
  where
    newer : List Kept
    newer = take s.count ks

    older : List Kept
    older = drop s.count ks

    whole : ks ≡ newer ++ older
    whole = sym (take-append-drop s.count ks)

    fits : AllFit (newer ++ older)
    fits = subst AllFit whole held.fit

    cut : old.bytes ≡ ring older ++ ring newer
    cut = held.bytes ∙ ap ring whole ∙ ring-append newer older

    many : length newer ≡ s.count
    many = length-take s.count ks ∙ omega (arith, stretch.unmarked.there)

    sum : sum_by kept_weight (newer ++ older) ≡ sum_by kept_weight newer + sum_by kept_weight older
    sum = sum_by-append kept_weight newer older

    all : length old.bytes ≡ sum_by kept_weight (newer ++ older)
    all = ap length (held.bytes ∙ ap ring whole) ∙ length-ring (newer ++ older) fits

    rest : length (ring older) ≡ sum_by kept_weight older
    rest = length-ring older (fit_front newer older fits)

    within : s.len ≤ length old.bytes
    within = omega (arith, all, sum, stretch.weighs)

    front : length (ring older) ≡ length old.bytes - s.len
    front = omega (arith, all, sum, rest, stretch.weighs)

-- One more of the newest is let go.
pub drop_one : (P Q : List Kept → Type 0) (n : ℕ) (ks : List Kept) → (P [] → Q []) → ((ls : List Kept) (k : Kept) → P (k ∷ ls) → Q ls) → P (drop n ks) → Q (drop (suc n) ks)
drop_one P Q zero [] none some p = none p
drop_one P Q zero (k ∷ ks) none some p = some ks k p
drop_one P Q (suc n) [] none some p = none p
drop_one P Q (suc n) (k ∷ ks) none some p = drop_one P Q n ks none some p
