-- A ring whose oldest bytes may be the rest of an entry: what a run leaves that writes over them, and what the walk back finds.
use Rattle.std.proofs.Common.{◌≡◌, ◌≤◌, ◌<◌, ◌+◌, ◌-◌, ◌^◌, ℕ, zero, suc, Bool, true, false, List, [], ◌∷◌, ◌++◌, length, drop, refl, sym, ap, ◌∙◌, subst, inl, inr, arith, append_assoc}
use Rattle.std.specs.Prelude.{cond, not, sum_by}
use Rattle.std.proofs.lemmas.Bool.{cases_lt}
use Rattle.std.proofs.lemmas.List.{append-nil, drop-append-le, drop-drop, drop_at, length-append, length-drop}
use Rattle.std.proofs.lemmas.List.Elements.{All-cons, All-head, All-nil, All-tail}
use Rattle.std.proofs.lemmas.List.Sums.{sum_by-append, sum_by-cons, sum_by_push}
use Rattle.byteorder.specs.Endian.{little_bytes}
use Rattle.bpf_entries.proofs.Keeping.{fit_all, fit_in, fit_none, fit_out}
use Rattle.bpf_entries.proofs.Rings.{back_of, front as front_of}
use Rattle.bpf_entries.proofs.Texts.{length-text, weight_high, weight_low}
use Rattle.bpf_entries.specs.Fields.{FitsFields}
use Rattle.bpf_entries.specs.Keeping.{Kept, fit, kept_weight}
use Rattle.bpf_entries.specs.Past.{is_of_step}
use Rattle.bpf_entries.specs.Rings.{AllFit, ring}
use Rattle.bpf_entries.specs.Texts.{text}
use Rattle.bpf_entries.specs.Weights.{weight}
use Rattle.bpf_steps.specs.Entries.{step_entry}
use Rattle.bpf_steps.specs.State.{State}
use Rattle.bpf_ring.proofs.Held.{fit_front, length-ring, of_a_step, ring-append}
use Rattle.bpf_ring.proofs.PieceLaws.{all_both, fit_fit, fit_prefix}
use Rattle.bpf_ring.specs.Blocks.{Content}
use Rattle.bpf_ring.specs.Edges.{ArePlain, IsBehind, IsRagged, newest}
use Rattle.bpf_ring.specs.Held.{IsHeld}
use Rattle.bpf_ring.specs.Pieces.{entries_of}
use Rattle.bpf_ring.specs.Runs.{kept_on, state_after}
use Rattle.bpf_ring.specs.declared.counts.Counts.{Counts}
use Rattle.bpf_ring.specs.declared.edge.Edge.{Edge}

-- What fits behind a beginning, of what fits more.
module _ {A : Type 0} (weigh : A → ℕ) where
  fit_behind : (less more : ℕ) (front es : List A) → less ≤ more → fit weigh less (front ++ fit weigh more es) ≡ fit weigh less (front ++ es)
  fit_behind less more [] es h = fit_fit weigh less more es h
  fit_behind less more (e ∷ front) es h = elim (cases_lt less (weigh e)) [
    | inl out ↦ fit_out weigh less e (front ++ fit weigh more es) out ∙ sym (fit_out weigh less e (front ++ es) out)
    | inr here ↦
        fit_in weigh less e (front ++ fit weigh more es) here
        ∙ ap (λ t. e ∷ t) (fit_behind (less - weigh e) more front es (omega (arith, h)))
        ∙ sym (fit_in weigh less e (front ++ es) here)
  ]

-- What a run keeps is what fits of all its entries.
pub kept_on_is : (size n : ℕ) (x : State) (ks : List Kept) → fit kept_weight size ks ≡ ks → kept_on size n x ks ≡ fit kept_weight size (entries_of n x ++ ks)
kept_on_is size zero x ks h = sym h
kept_on_is size (suc k) x ks h =
    let e : Kept = (step_entry (state_after k x), false) in
    ap (λ (t : List Kept). fit kept_weight size (e ∷ t)) (kept_on_is size k x ks h)
    ∙ fit_behind kept_weight size size (e ∷ []) (entries_of k x ++ ks) (omega arith)

-- Entries of steps without marks.
abbrev marked : Kept → ℕ
marked k = cond k.1 1 0

abbrev edit : Kept → ℕ
edit k = cond (not (is_of_step k.0)) 1 0

plain_both : (front ks : List Kept) → ArePlain front → ArePlain ks → ArePlain (front ++ ks)
plain_both front ks a b = (sum_by-append marked front ks ∙ omega (arith, a.0, b.0), sum_by-append edit front ks ∙ omega (arith, a.1, b.1))

plain_front : (front ks : List Kept) → ArePlain (front ++ ks) → ArePlain front
plain_front front ks a = (omega (arith, a.0, sum_by-append marked front ks), omega (arith, a.1, sum_by-append edit front ks))

no_edit : (b : Bool) → true ≡ b → ◌≡◌ {A = ℕ} (cond (not b) 1 0) 0
no_edit true h = refl
no_edit false h = cc

pub plain_steps : (n : ℕ) (x : State) → ArePlain (entries_of n x)
plain_steps zero x = (refl, refl)
plain_steps (suc k) x =
    let e : Kept = (step_entry (state_after k x), false) in
    let rest = plain_steps k x in
    let none : edit e ≡ 0 = no_edit (is_of_step e.0) (of_a_step (state_after k x)) in
    (omega (arith, rest.0, sum_by-cons marked e (entries_of k x)), omega (arith, none, rest.1, sum_by-cons edit e (entries_of k x)))

-- The last bytes of two texts.
newest_over : (size : ℕ) (a t : List ℕ) → length t ≤ size → newest size (a ++ t) ≡ drop (length (newest size a) + length t - size) (newest size a) ++ t
newest_over size a t h =
    let both = length-append a t in
    let old = length-drop (length a - size) a in
    let n : ℕ = length (a ++ t) - size in
    let j : ℕ = length (newest size a) + length t - size in
    let same : n ≡ length a - size + j = omega (arith, both, old, h) in
    drop-append-le n a t (omega (arith, both, h))
    ∙ ap (λ (k : ℕ). drop k a ++ t) same
    ∙ ap (λ (l : List ℕ). l ++ t) (sym (drop-drop j (length a - size) a))

-- A ring that is no longer than its size is ragged, too, if its list is plain.
pub gets_ragged : (content : Content) (counts : Counts) (ks : List Kept) → length content.bytes ≤ content.size → (counts.marks ≡ 0) × (counts.edits ≡ 0) → IsHeld content counts ks → IsRagged content counts ks
gets_ragged content counts ks within none held =
    let long = length-ring ks held.fit in
    let small : length (ring ks) - content.size ≡ 0 = omega (arith, ap length held.bytes, within) in
    record {
      all = ks;
      fits = held.fit;
      plain = (sym held.counted.marks ∙ none.0, sym held.counted.edits ∙ none.1);
      bytes = held.bytes ∙ ap (λ (n : ℕ). drop n (ring ks)) (sym small);
      counted = none;
      same = fit_all kept_weight content.size ks (omega (arith, ap length held.bytes, within, long));
    }

-- Texts were written over the oldest bytes.
pub written_over : (old new : Content) (before after : Counts) (front ks : List Kept) (t : List ℕ) → IsRagged old before ks → AllFit front → ArePlain front → t ≡ ring front → length t ≤ old.size
    → new.size ≡ old.size → after ≡ before → new.bytes ≡ drop (length old.bytes + length t - old.size) old.bytes ++ t → IsRagged new after (fit kept_weight old.size (front ++ ks))
written_over old new before after front ks t r fits plain is small size counts bytes = record {
  all = front ++ r.all;
  fits = all_both front r.all fits r.fits;
  plain = plain_both front r.all plain r.plain;
  bytes =
      bytes
      ∙ ap (λ (l : List ℕ). drop (length l + length t - old.size) l ++ t) r.bytes
      ∙ sym (newest_over old.size (ring r.all) t small)
      ∙ ap (λ (l : List ℕ). newest old.size (ring r.all ++ l)) is
      ∙ ap (newest old.size) (sym (ring-append front r.all))
      ∙ ap (λ (n : ℕ). newest n (ring (front ++ r.all))) (sym size);
  counted = (ap (λ (c : Counts). c.marks) counts ∙ r.counted.0, ap (λ (c : Counts). c.edits) counts ∙ r.counted.1);
  same =
      ap (λ (n : ℕ). fit kept_weight n (front ++ r.all)) size
      ∙ sym (fit_behind kept_weight old.size old.size front r.all (omega arith))
      ∙ ap (λ (l : List Kept). fit kept_weight old.size (front ++ l)) r.same;
}

-- What fits once fits again.
pub fits_again : (content : Content) (counts : Counts) (ks : List Kept) → IsRagged content counts ks → fit kept_weight content.size ks ≡ ks
fits_again content counts ks r =
    ap (fit kept_weight content.size) (sym r.same)
    ∙ fit_fit kept_weight content.size content.size r.all (omega arith)
    ∙ r.same

-- The walk back: the newest entries of a list, as many bytes of a ring as there are behind a place.
pub record IsCut (content : Content) (place count : ℕ) (all : List Kept) : Type 0 where
  pub newer : List Kept
  pub older : List Kept
  pub whole : all ≡ newer ++ older
  pub entries : count ≡ length newer
  pub at : place + sum_by kept_weight newer ≡ length content.bytes

-- How many bytes the entry in front of a place has, as the two bytes in front of it say.
abbrev pub LenBefore : Content → ℕ → ℕ → Type 0
LenBefore content place n = (w : ℕ) (before rest : List ℕ) → w < 2 ^ 16 → content.bytes ≡ before ++ (little_bytes 2 w ++ rest) → place ≡ length before + 2 → n ≡ w

pub cut_begins : (content : Content) (all : List Kept) → IsCut content (length content.bytes) 0 all
cut_begins content all = record { newer = []; older = all; whole = refl; entries = refl; at = omega arith }

newer_fit : (newer older : List Kept) → AllFit (newer ++ older) → AllFit newer
newer_fit [] older a = All-nil (λ (k : Kept). FitsFields k.0)
newer_fit (k ∷ newer) older a = All-cons (λ (k : Kept). FitsFields k.0) k newer (All-head (λ (k : Kept). FitsFields k.0) k (newer ++ older) a) (newer_fit newer older (All-tail (λ (k : Kept). FitsFields k.0) k (newer ++ older) a))

abbrev head_or : Kept → List Kept → Kept
head_or d [] = d
head_or d (k ∷ ks) = k

-- Where the walk stands: so many bytes of the text of the older ones are gone.
record Stands (content : Content) (place : ℕ) (newer older : List Kept) : Type 0 where
  newer_fits : AllFit newer
  older_fits : AllFit older
  gone : ℕ
  bytes : content.bytes ≡ drop gone (ring older ++ ring newer)
  here : place + gone ≡ length (ring older)
  within : length content.bytes ≤ content.size
  full : 1 ≤ gone → length content.bytes ≡ content.size
  sum : place + length (ring newer) ≡ length content.bytes

stands : (content : Content) (counts : Counts) (ks : List Kept) (r : IsRagged content counts ks) (place count : ℕ) (c : IsCut content place count r.all) → Stands content place c.newer c.older
stands content counts ks r place count c =
    let all : AllFit (c.newer ++ c.older) = subst AllFit c.whole r.fits in
    let n_fits : AllFit c.newer = newer_fit c.newer c.older all in
    let long = length-ring c.newer n_fits in
    let text : ring r.all ≡ ring c.older ++ ring c.newer = ap ring c.whole ∙ ring-append c.newer c.older in
    let both = length-append (ring c.older) (ring c.newer) in
    let gone : ℕ = length (ring r.all) - content.size in
    let cut = length-drop gone (ring r.all) in
    let count_all = ap length text in
    let count_bytes = ap length r.bytes in
    record {
      newer_fits = n_fits;
      older_fits = fit_front c.newer c.older all;
      gone = gone;
      bytes = r.bytes ∙ ap (drop gone) text;
      here = omega (arith, c.at, long, both, cut, count_all, count_bytes);
      within = omega (arith, cut, count_bytes);
      full = λ some. omega (arith, some, cut, count_bytes);
      sum = omega (arith, c.at, long);
    }

-- The number in front of the place is the weight of the entry that ends there.
told : (content : Content) (place n : ℕ) (newer more : List Kept) (k : Kept) → Stands content place newer (k ∷ more) → 2 ≤ place → LenBefore content place n → n ≡ weight k.0
told content place n newer more k s some len =
    let fits : FitsFields k.0 = All-head (λ (k : Kept). FitsFields k.0) k more s.older_fits in
    let low = weight_low k.0 fits in
    let w : ℕ = weight k.0 in
    let front : List ℕ = ring more ++ front_of k.0 k.1 in
    let whole : ring (k ∷ more) ++ ring newer ≡ front ++ (little_bytes 2 w ++ ring newer) =
    ap (λ (l : List ℕ). l ++ ring newer) (back_of (ring more) k.0 k.1) ∙ append_assoc front (little_bytes 2 w) (ring newer) in
    let two : length (ring (k ∷ more)) ≡ length front + 2 = ap length (back_of (ring more) k.0 k.1) ∙ length-append front (little_bytes 2 w) in
    let inside : s.gone ≤ length front = omega (arith, s.here, two, some) in
    let cut = length-drop s.gone front in
    len w (drop s.gone front) (ring newer) (omega (arith, low))
    (s.bytes ∙ ap (drop s.gone) whole ∙ drop-append-le s.gone front (little_bytes 2 w ++ ring newer) inside)
    (omega (arith, s.here, two, cut, inside))

pub cut_more : (content : Content) (counts : Counts) (ks : List Kept) (r : IsRagged content counts ks) (place count n : ℕ) → IsCut content place count r.all
    → 5 ≤ place → LenBefore content place n → 1 ≤ n → n ≤ place → IsCut content (place - n) (count + 1) r.all
cut_more content counts ks r place count n c some len least within = split c.newer c.older c.whole c.entries c.at (stands content counts ks r place count c) where
  split : (newer older : List Kept) → r.all ≡ newer ++ older → count ≡ length newer → place + sum_by kept_weight newer ≡ length content.bytes → Stands content place newer older
      → IsCut content (place - n) (count + 1) r.all
  split newer [] whole entries at s = absurd (omega (arith, s.here, some))
  split newer (k ∷ more) whole entries at s =
      let is = told content place n newer more k s (omega (arith, some)) len in
      let back : newer ++ k ∷ more ≡ (newer ++ k ∷ []) ++ more = sym (append_assoc newer (k ∷ []) more) in
      record {
        newer = newer ++ k ∷ [];
        older = more;
        whole = whole ∙ back;
        entries = omega (arith, entries, length-append newer (k ∷ []));
        at = omega (arith, at, is, within, sum_by_push kept_weight newer k);
      }

-- Where it ends, what is cut off is what fits.
all_that_fit : (content : Content) (place : ℕ) (newer older : List Kept) → Stands content place newer older → ((k : Kept) (more : List Kept) → older ≡ k ∷ more → place < weight k.0)
    → fit kept_weight content.size (newer ++ older) ≡ newer
all_that_fit content place newer older s over = fit_prefix kept_weight content.size newer older (omega (arith, s.sum, s.within, long)) ∙ ap (λ (l : List Kept). newer ++ l) (none older s over) ∙ append-nil newer where
  long : length (ring newer) ≡ sum_by kept_weight newer
  long = length-ring newer s.newer_fits

  none : (older : List Kept) → Stands content place newer older → ((k : Kept) (more : List Kept) → older ≡ k ∷ more → place < weight k.0) → fit kept_weight (content.size - sum_by kept_weight newer) older ≡ []
  none [] s over = fit_none kept_weight (content.size - sum_by kept_weight newer)
  none (k ∷ more) s over =
      let fits : FitsFields k.0 = All-head (λ (k : Kept). FitsFields k.0) k more s.older_fits in
      let size = length-text k.0 k.1 fits in
      let both = length-append (ring more) (text k.0 k.1) in
      let low : place < weight k.0 = over k more refl in
      fit_out kept_weight (content.size - sum_by kept_weight newer) k more (omega (arith, low, long, s.sum, s.full (omega (arith, low, s.here, both, size))))

past : (content : Content) (place : ℕ) (newer older : List Kept) → Stands content place newer older
    → ((w : ℕ) → 5 ≤ w → (2 ≤ place → (n : ℕ) → LenBefore content place n → n ≡ w) → place < w)
    → (k : Kept) (more : List Kept) → older ≡ k ∷ more → place < weight k.0
past content place newer [] s over k more e = cc
past content place newer (l ∷ ls) s over k more e =
    let same : l ≡ k = ap (λ (t : List Kept). head_or l t) e in
    let low : place < weight l.0 = over (weight l.0) (weight_high l.0) (λ some n len. told content place n newer ls l s some len) in
    subst (λ (j : Kept). place < weight j.0) same low

pub cut_ends : (content : Content) (counts : Counts) (ks : List Kept) (r : IsRagged content counts ks) (place count : ℕ) → IsCut content place count r.all
    → ((w : ℕ) → 5 ≤ w → (2 ≤ place → (n : ℕ) → LenBefore content place n → n ≡ w) → place < w) → (edge : Edge) → edge.place ≡ place → edge.entries ≡ count → IsBehind content edge ks
cut_ends content counts ks r place count c over edge at entries =
    let s = stands content counts ks r place count c in
    let is : ks ≡ c.newer = sym r.same ∙ ap (fit kept_weight content.size) c.whole ∙ all_that_fit content place c.newer c.older s (past content place c.newer c.older s over) in
    let skipped : s.gone + place ≡ length (ring c.older) = omega (arith, s.here) in
    record {
      fits = subst AllFit (sym is) s.newer_fits;
      bytes =
          ap (λ (n : ℕ). drop n content.bytes) at
          ∙ ap (drop place) s.bytes
          ∙ drop-drop place s.gone (ring c.older ++ ring c.newer)
          ∙ drop_at (ring c.older) (ring c.newer) (s.gone + place) (sym skipped)
          ∙ ap ring (sym is);
      entries = entries ∙ c.entries ∙ ap length (sym is);
      plain = subst ArePlain (sym is) (plain_front c.newer c.older (subst ArePlain c.whole r.plain));
    }
