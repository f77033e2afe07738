-- Items are texts of entries, and lie with the oldest first: what a change at either end makes of the list that they are, and of its sums.
use Rattle.std.proofs.Common.{◌≡◌, ◌≤◌, ◌<◌, ◌+◌, ◌-◌, ◌^◌, ℕ, Bool, true, false, cond, List, [], ◌∷◌, ◌++◌, length, reverse, Option, Some, None, MatchOption, Bor, refl, sym, ap, ◌∙◌, subst, append_assoc, arith}
use Rattle.std.specs.Prelude.{sum_by, option_map, IsSome, IfSome}
use Rattle.std.proofs.lemmas.List.{reverse-append, reverse-reverse, length-reverse, length-append, append-nil}
use Rattle.std.proofs.lemmas.List.Sums.{sum_by-cons, sum_by_push}
use Rattle.std.proofs.Math.ListN.{get_or}
use Rattle.std.proofs.Math.Seq.{get_or-append_seam}
use Rattle.bpf_entries.specs.declared.entry.Entry.{Entry}
use Rattle.bpf_entries.specs.declared.entry.Entry.TheVariants as entry
use Rattle.bpf_entries.specs.Fields.{FitsFields}
use Rattle.bpf_entries.specs.Texts.{text}
use Rattle.bpf_entries.specs.Weights.{weight}
use Rattle.bpf_entries.specs.Keeping.{Kept, kept_weight, fit}
use Rattle.bpf_journal.specs.Histories.{newest}
use Rattle.bpf_journal.specs.Items.{IsText, read_as, mark_count, held, marks, IsCounted, LosesOldest}
use Rattle.bpf_entries.proofs.Keeping.{fit_without_oldest}
use Rattle.bpf_entries.proofs.Texts.{kind_back, mark_back, read_whole}

-- The text of an entry is read as the entry and its mark.
pub read_back : (e : Entry) (m : Bool) (bytes : List ℕ) → FitsFields e → bytes ≡ text e m → read_as bytes ≡ (e, m)
read_back e m bytes fits is =
    let whole : bytes ≡ text e m ++ [] = is ∙ sym (append-nil (text e m)) in
    let entry : (read_as bytes).0 ≡ e = read_whole e m _ bytes fits is (kind_back e m [] bytes whole) in
    let mark : (read_as bytes).1 ≡ m = mark_back e m [] bytes whole in
    cc

pub is_text : (e : Entry) (m : Bool) (bytes : List ℕ) → FitsFields e → bytes ≡ text e m → IsText bytes
is_text e m bytes fits is =
    let back = read_back e m bytes fits is in
    record { fits = subst (λ (k : Kept). FitsFields k.0) (sym back) fits; is = is ∙ ap (λ (k : Kept). text k.0 k.1) (sym back) }

pub held_none : held [] ≡ []
unfolding held
held_none = refl

pub held_push : (xs : List Kept) (x : Kept) → held (xs ++ x ∷ []) ≡ x ∷ held xs
unfolding held
held_push xs x = reverse-append xs (x ∷ [])

pub held_front : (x : Kept) (xs : List Kept) → held (x ∷ xs) ≡ held xs ++ x ∷ []
unfolding held
held_front x xs = reverse-append (x ∷ []) xs

pub length-held : (xs : List Kept) → length (held xs) ≡ length xs
unfolding held
length-held xs = length-reverse xs

pub none_held : (xs : List Kept) → length xs ≡ 0 → held xs ≡ []
none_held [] e = held_none
none_held (x ∷ xs) e = absurd (omega arith)

-- The counters of no entries.
pub counted_none : IsCounted (held []) 0 0
counted_none = subst (λ (es : List Kept). IsCounted es 0 0) (sym held_none) (record { weighs = refl; counts = refl })

-- The sums of a list with one more at an end.
marks-cons : (k : Kept) (es : List Kept) → marks (k ∷ es) ≡ cond k.1 1 0 + marks es
marks-cons k es = sum_by-cons (λ k. cond k.1 1 0) k es

marks_push : (es : List Kept) (k : Kept) → marks (es ++ k ∷ []) ≡ marks es + cond k.1 1 0
marks_push es k = sum_by_push (λ k. cond k.1 1 0) es k

-- Each entry weighs something, so no more are marked than weigh.
weighs_some : (e : Entry) → 1 ≤ weight e
weighs_some (entry.Register pc register value) = omega arith
weighs_some (entry.Jump pc) = omega arith
weighs_some (entry.Call pc old) = omega arith
weighs_some (entry.Return pc saved) = omega arith
weighs_some (entry.Store pc address old) = omega arith
weighs_some (entry.Fetch pc register value address old) = omega arith
weighs_some (entry.Cell pc r0 address old) = omega arith
weighs_some (entry.Trace pc r0) = omega arith
weighs_some entry.End = omega arith
weighs_some (entry.EditRegister register value) = omega arith
weighs_some (entry.EditBytes address old) = omega arith
weighs_some (entry.EditPc pc status) = omega arith

one_mark : (b : Bool) → cond b 1 0 ≤ 1
one_mark true = omega arith
one_mark false = omega arith

pub few_marks : (es : List Kept) → marks es ≤ sum_by kept_weight es
few_marks [] = omega arith
few_marks (k ∷ es) =
    let here : 1 ≤ kept_weight k = weighs_some k.0 in
    let one = one_mark k.1 in
    let rest = few_marks es in
    omega (arith, marks-cons k es, sum_by-cons kept_weight k es)

-- So there are no more of them than they weigh.
pub few_entries : (es : List Kept) → length es ≤ sum_by kept_weight es
few_entries [] = omega arith
few_entries (k ∷ es) =
    let here : 1 ≤ kept_weight k = weighs_some k.0 in
    let rest = few_entries es in
    omega (arith, here, rest, sum_by-cons kept_weight k es)

-- One more at the newest end.
pub counted_push : (old new : List Kept) (x : Kept) (w m a b : ℕ) → new ≡ old ++ x ∷ [] → a ≡ kept_weight x → b ≡ mark_count x → IsCounted (held old) w m → IsCounted (held new) (w + a) (m + b)
counted_push old new x w m a b e ea eb i =
    let list : held new ≡ x ∷ held old = ap held e ∙ held_push old x in
    subst (λ (es : List Kept). IsCounted es (w + a) (m + b)) (sym list) (record {
      weighs = omega (arith, sum_by-cons kept_weight x (held old), i.weighs);
      counts = omega (arith, marks-cons x (held old), i.counts);
    })

-- One less at the newest end.
pub light_newest : (old new : List Kept) (x : Kept) (w m : ℕ) → old ≡ new ++ x ∷ [] → IsCounted (held old) w m → (kept_weight x ≤ w) × (mark_count x ≤ m)
light_newest old new x w m e i =
    let list : held old ≡ x ∷ held new = ap held e ∙ held_push new x in
    let weighs : w ≡ sum_by kept_weight (x ∷ held new) = i.weighs ∙ ap (sum_by kept_weight) list in
    let counts : m ≡ marks (x ∷ held new) = i.counts ∙ ap marks list in
    (omega (arith, sum_by-cons kept_weight x (held new)), omega (arith, marks-cons x (held new)))

pub counted_pop : (old new : List Kept) (x : Kept) (w m a b : ℕ) → old ≡ new ++ x ∷ [] → a ≡ kept_weight x → b ≡ mark_count x → IsCounted (held old) w m → IsCounted (held new) (w - a) (m - b)
counted_pop old new x w m a b e ea eb i =
    let list : held old ≡ x ∷ held new = ap held e ∙ held_push new x in
    let weighs : w ≡ sum_by kept_weight (x ∷ held new) = i.weighs ∙ ap (sum_by kept_weight) list in
    let counts : m ≡ marks (x ∷ held new) = i.counts ∙ ap marks list in
    record {
      weighs = omega (arith, sum_by-cons kept_weight x (held new));
      counts = omega (arith, marks-cons x (held new));
    }

-- One less at the oldest end.
pub light_oldest : (old new : List Kept) (x : Kept) (w m : ℕ) → old ≡ x ∷ new → IsCounted (held old) w m → (kept_weight x ≤ w) × (mark_count x ≤ m)
light_oldest old new x w m e i =
    let list : held old ≡ held new ++ x ∷ [] = ap held e ∙ held_front x new in
    let weighs : w ≡ sum_by kept_weight (held new ++ x ∷ []) = i.weighs ∙ ap (sum_by kept_weight) list in
    let counts : m ≡ marks (held new ++ x ∷ []) = i.counts ∙ ap marks list in
    (omega (arith, sum_by_push kept_weight (held new) x), omega (arith, marks_push (held new) x))

pub counted_drop : (old new : List Kept) (x : Kept) (w m a b : ℕ) → old ≡ x ∷ new → a ≡ kept_weight x → b ≡ mark_count x → IsCounted (held old) w m → IsCounted (held new) (w - a) (m - b)
counted_drop old new x w m a b e ea eb i =
    let list : held old ≡ held new ++ x ∷ [] = ap held e ∙ held_front x new in
    let weighs : w ≡ sum_by kept_weight (held new ++ x ∷ []) = i.weighs ∙ ap (sum_by kept_weight) list in
    let counts : m ≡ marks (held new ++ x ∷ []) = i.counts ∙ ap marks list in
    record {
      weighs = omega (arith, sum_by_push kept_weight (held new) x);
      counts = omega (arith, marks_push (held new) x);
    }

-- What is left behind the newest weighs no more.
pub lighter : (old new : List Kept) (r : Option Kept) → MatchOption r ((old ≡ []) × (new ≡ [])) (λ k. old ≡ k ∷ new) → sum_by kept_weight new ≤ sum_by kept_weight old
lighter old new None e = subst (λ (es : List Kept). sum_by kept_weight es ≤ sum_by kept_weight old) (sym e.1) (omega arith)
lighter old new (Some k) e = omega (arith, ap (sum_by kept_weight) e, sum_by-cons kept_weight k new)

-- The item with so many older ones is at that index.
pub at_index : (items : List Kept) (newer rest : List Kept) (k : Kept) (d : Kept) → held items ≡ newer ++ k ∷ rest → get_or items (length rest) d ≡ k
unfolding held
at_index items newer rest k d e =
    let oldest_first : items ≡ (reverse rest ++ k ∷ []) ++ reverse newer =
    sym (reverse-reverse items) ∙ ap reverse e ∙ reverse-append newer (k ∷ rest) ∙ ap (λ front. front ++ reverse newer) (reverse-append (k ∷ []) rest) in
    let regrouped : (reverse rest ++ k ∷ []) ++ reverse newer ≡ reverse rest ++ k ∷ reverse newer = simp (append_assoc) in
    ap (λ l. get_or l (length rest) d) (oldest_first ∙ regrouped)
    ∙ ap (λ i. get_or (reverse rest ++ k ∷ reverse newer) i d) (sym (length-reverse rest))
    ∙ get_or-append_seam (reverse rest) k (reverse newer) d

pub is_within : (items : List Kept) (newer rest : List Kept) (k : Kept) → held items ≡ newer ++ k ∷ rest → length rest < length items
is_within items newer rest k e =
    let count : length (held items) ≡ length (newer ++ k ∷ rest) = ap length e in
    omega (arith, length-held items, length-append newer (k ∷ rest))

-- Dropping the oldest of what is too heavy makes no difference to what fits.
pub fit_after_drop : (room : ℕ) (old new : List Kept) → LosesOldest old new → room < sum_by kept_weight old → fit kept_weight room new ≡ fit kept_weight room old
fit_after_drop room old new l h =
    let heavy : room < sum_by kept_weight (new ++ l.oldest ∷ []) = subst (λ (es : List Kept). room < sum_by kept_weight es) l.is h in
    sym (fit_without_oldest kept_weight room new l.oldest heavy) ∙ ap (fit kept_weight room) (sym l.is)

pub shorter : (old new : List Kept) → LosesOldest old new → length new < length old
shorter old new l = omega (arith, ap length l.is, length-append new (l.oldest ∷ []))

-- Room for one more mark.
pub room_for_mark : (items : List Kept) (now : List Kept) (x : Kept) (w m b : ℕ) → held items ≡ now → sum_by kept_weight now < 2 ^ 32 → IsCounted (held items) w m → b ≡ mark_count x → m + b < 2 ^ 64
room_for_mark items now x w m b view few i eb =
    let sum : sum_by kept_weight (held items) < 2 ^ 32 = subst (λ (es : List Kept). sum_by kept_weight es < 2 ^ 32) (sym view) few in
    omega (arith, few_marks (held items), one_mark x.1, i.counts)

-- What a read of an item answers.
pub item_found : (items : List Kept) (newer rest : List Kept) (k : Kept) (n i : ℕ) (r : Option (Bor Kept)) → n ≡ length items → length rest ≡ i → (i < n → IsSome r) → IfSome r (λ x. x.now ≡ get_or items i x.now) → held items ≡ newer ++ k ∷ rest → MatchOption r ⊥ (λ x. x.now ≡ k)
item_found items newer rest k n i None len count some is e =
    let within : length rest < length items = is_within items newer rest k e in
    let found : IsSome {T = Bor Kept} None = some (omega arith) in
    absurd cc
item_found items newer rest k n i (Some x) len count some is e =
    is ∙ ap (λ j. get_or items j x.now) (sym count) ∙ at_index items newer rest k x.now e

-- The newest is the one with all others older.
pub newest_found : (es : List Kept) (items : List Kept) (n : ℕ) (r : Option (Bor Kept)) → es ≡ held items → n ≡ length items → (0 < n → IsSome r) → (IsSome r → 0 < n) → IfSome r (λ x. x.now ≡ get_or items (n - 1) x.now) → option_map (λ x. x.now) r ≡ newest es
newest_found [] items n None e len some none is = refl
newest_found [] items n (Some x) e len some none is =
    let within : 0 < n = none refl in
    let count : length (held items) ≡ 0 = ap length (sym e) in
    absurd (omega (arith, length-held items))
newest_found (k ∷ rest) items n None e len some none is =
    let within : length rest < length items = is_within items [] rest k (sym e) in
    let found : IsSome {T = Bor Kept} None = some (omega arith) in
    absurd cc
newest_found (k ∷ rest) items n (Some x) e len some none is =
    let count : length (k ∷ rest) ≡ length items = ap length e ∙ length-held items in
    let last : n - 1 ≡ length rest = omega arith in
    ap Some (is ∙ ap (λ i. get_or items i x.now) last ∙ at_index items [] rest k x.now (sym e))
