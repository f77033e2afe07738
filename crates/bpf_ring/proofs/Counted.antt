-- What is counted of entries when one comes or goes.
use Rattle.std.proofs.Common.{◌≡◌, ℕ, ◌+◌, ◌-◌, ◌%◌, ◌≤◌, Bool, true, false, if◌then◌else◌, List, [], ◌∷◌, ◌++◌, length, refl, sym, ap, ◌∙◌, arith}
use Rattle.std.specs.Prelude.{cond, count_by, not, nat_le}
use Rattle.std.proofs.lemmas.Bool.Decides.{nat_tests}
use Rattle.std.proofs.lemmas.List.{length-append}
use Rattle.std.proofs.lemmas.List.Sums.{sum_by-cons, sum_by_push}
use Rattle.bpf_entries.specs.declared.entry.Entry.{Entry}
use Rattle.bpf_entries.specs.Keeping.{Kept}
use Rattle.bpf_entries.specs.Past.{is_of_step}
use Rattle.bpf_entries.specs.Texts.{kind, tag}
use Rattle.bpf_entries.proofs.Texts.{kind_low, kind_step}
use Rattle.bpf_ring.specs.declared.counts.Counts.{Counts}
use Rattle.bpf_ring.specs.Counted.{Counted}

abbrev marked : Kept → ℕ
marked k = cond k.1 1 0

abbrev edit : Kept → ℕ
edit k = cond (not (is_of_step k.0)) 1 0

abbrev step : Kept → ℕ
step k = cond (is_of_step k.0) 1 0

-- What isn't an edit is a step.
one_sort : (b : Bool) → cond b 1 0 + cond (not b) 1 0 ≡ 1
one_sort true = refl
one_sort false = refl

both_sorts : (ks : List Kept) → count_by (λ k. is_of_step k.0) ks + count_by (λ k. not (is_of_step k.0)) ks ≡ length ks
both_sorts [] = refl
both_sorts (k ∷ ks) = omega (arith, both_sorts ks, one_sort (is_of_step k.0), sum_by-cons step k ks, sum_by-cons edit k ks)

pub steps_left : (counts : Counts) (ks : List Kept) → Counted counts ks → counts.entries - counts.edits ≡ count_by (λ k. is_of_step k.0) ks
steps_left counts ks counted = omega (arith, counted.entries, counted.edits, both_sorts ks)

-- No count is greater than that of the entries.
at_most_one : (b : Bool) → cond b 1 0 ≤ 1
at_most_one true = omega arith
at_most_one false = omega arith

pub few_marks : (ks : List Kept) → count_by (λ k. k.1) ks ≤ length ks
few_marks [] = omega arith
few_marks (k ∷ ks) = omega (arith, few_marks ks, at_most_one k.1, sum_by-cons marked k ks)

-- What a tag says.
pub tag_mark : (e : Entry) (m : Bool) (t : ℕ) → t ≡ tag (kind e) m → nat_le 128 t ≡ m
tag_mark e true t h = let low = kind_low e in grind (arith, nat_tests)
tag_mark e false t h = let low = kind_low e in grind (arith, nat_tests)

tag_kind : (e : Entry) (m : Bool) (t : ℕ) → t ≡ tag (kind e) m → t % 128 ≡ kind e
tag_kind e true t h = omega (arith, h, kind_low e)
tag_kind e false t h = omega (arith, h, kind_low e)

pub tag_step : (e : Entry) (m : Bool) (t : ℕ) → t ≡ tag (kind e) m → nat_le (t % 128) 9 ≡ is_of_step e
tag_step e m t h = ap (λ k. nat_le k 9) (tag_kind e m t h) ∙ kind_step e

-- One less.
less_by : (b : Bool) (n old new : ℕ) → n ≡ cond b 1 0 + old → new ≡ (if b then n - 1 else n) → new ≡ old
less_by true n old new e f = omega (arith, e, f)
less_by false n old new e f = f ∙ omega (arith, e)

less_but : (b : Bool) (n old new : ℕ) → n ≡ cond (not b) 1 0 + old → new ≡ (if b then n else n - 1) → new ≡ old
less_but true n old new e f = f ∙ omega (arith, e)
less_but false n old new e f = omega (arith, e, f)

fewer : (old new : Counts) (ks : List Kept) (k : Kept) (t : ℕ) → old.entries ≡ length ks + 1 → old.marks ≡ cond k.1 1 0 + count_by (λ k. k.1) ks
    → old.edits ≡ cond (not (is_of_step k.0)) 1 0 + count_by (λ k. not (is_of_step k.0)) ks → t ≡ tag (kind k.0) k.1
    → new.entries ≡ old.entries - 1 → new.marks ≡ (if nat_le 128 t then old.marks - 1 else old.marks) → new.edits ≡ (if nat_le (t % 128) 9 then old.edits else old.edits - 1)
    → Counted new ks
fewer old new ks k t e f g h entries marks edits = record {
  entries = omega (arith, entries, e);
  marks = less_by k.1 old.marks _ new.marks f (marks ∙ ap (λ b. if b then old.marks - 1 else old.marks) (tag_mark k.0 k.1 t h));
  edits = less_but (is_of_step k.0) old.edits _ new.edits g (edits ∙ ap (λ b. if b then old.edits else old.edits - 1) (tag_step k.0 k.1 t h));
}

pub newest_less : (old new : Counts) (ks : List Kept) (k : Kept) (t : ℕ) → Counted old (k ∷ ks) → t ≡ tag (kind k.0) k.1
    → new.entries ≡ old.entries - 1 → new.marks ≡ (if nat_le 128 t then old.marks - 1 else old.marks) → new.edits ≡ (if nat_le (t % 128) 9 then old.edits else old.edits - 1)
    → Counted new ks
newest_less old new ks k t counted h = fewer old new ks k t (omega (arith, counted.entries)) (counted.marks ∙ sum_by-cons marked k ks) (counted.edits ∙ sum_by-cons edit k ks) h

pub oldest_less : (old new : Counts) (ks : List Kept) (z : Kept) (t : ℕ) → Counted old (ks ++ z ∷ []) → t ≡ tag (kind z.0) z.1
    → new.entries ≡ old.entries - 1 → new.marks ≡ (if nat_le 128 t then old.marks - 1 else old.marks) → new.edits ≡ (if nat_le (t % 128) 9 then old.edits else old.edits - 1)
    → Counted new ks
oldest_less old new ks z t counted h =
    fewer old new ks z t (omega (arith, counted.entries, length-append ks (z ∷ []))) (omega (arith, counted.marks, sum_by_push marked ks z)) (omega (arith, counted.edits, sum_by_push edit ks z)) h

-- The oldest less, an unmarked one of a step, by its tag.
pub low_mark : (t : ℕ) → t ≤ 9 → nat_le 128 t ≡ false
low_mark t low = grind (arith, nat_tests)

pub low_kind : (t : ℕ) → t ≤ 9 → nat_le (t % 128) 9 ≡ true
low_kind t low = grind (arith, nat_tests)

pub step_less : (old new : Counts) (ks : List Kept) (z : Kept) (t : ℕ) → t ≤ 9 → Counted old (ks ++ z ∷ []) → t ≡ tag (kind z.0) z.1
    → new.entries ≡ old.entries - 1 → new.marks ≡ old.marks → new.edits ≡ old.edits → Counted new ks
step_less old new ks z t low counted h entries marks edits =
    oldest_less old new ks z t counted h entries
    (marks ∙ ap (λ b. if b then old.marks - 1 else old.marks) (sym (low_mark t low)))
    (edits ∙ ap (λ b. if b then old.edits else old.edits - 1) (sym (low_kind t low)))

-- One more, an unmarked one of a step.
no_edit : (b : Bool) → true ≡ b → ◌≡◌ {A = ℕ} (cond (not b) 1 0) 0
no_edit true h = refl
no_edit false h = cc

pub step_more : (old new : Counts) (ks : List Kept) (e : Entry) → Counted old ks → true ≡ is_of_step e
    → new.entries ≡ old.entries + 1 → new.marks ≡ old.marks → new.edits ≡ old.edits → Counted new ((e, false) ∷ ks)
step_more old new ks e counted of more marks edits =
    let none : ◌≡◌ {A = ℕ} (edit (e, false)) 0 = no_edit (is_of_step e) of in
    record {
      entries = omega (arith, more, counted.entries);
      marks = omega (arith, marks, counted.marks, sum_by-cons marked (e, false) ks);
      edits = omega (arith, edits, counted.edits, sum_by-cons edit (e, false) ks, none);
    }

-- The newest less, an unmarked one of a step.
pub step_fewer : (old new : Counts) (ks : List Kept) (k : Kept) → Counted old (k ∷ ks) → is_of_step k.0 ≡ true → k.1 ≡ false
    → new.entries ≡ old.entries - 1 → new.marks ≡ old.marks → new.edits ≡ old.edits → Counted new ks
step_fewer old new ks k counted of plain fewer marks edits =
    let none : ◌≡◌ {A = ℕ} (edit k) 0 = no_edit (is_of_step k.0) (sym of) in
    let unmarked : ◌≡◌ {A = ℕ} (marked k) 0 = ap (λ (b : Bool). cond b 1 0) plain in
    record {
      entries = omega (arith, fewer, counted.entries);
      marks = omega (arith, marks, counted.marks, sum_by-cons marked k ks, unmarked);
      edits = omega (arith, edits, counted.edits, sum_by-cons edit k ks, none);
    }
