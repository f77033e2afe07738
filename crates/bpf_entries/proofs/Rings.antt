-- A ring is of one list alone, and is cut into entries from the back.
use Rattle.std.proofs.Common.{◌≡◌, ℕ, suc, ◌+◌, ◌-◌, ◌^◌, ◌≤◌, ◌<◌, Bool, List, [], ◌∷◌, ◌++◌, length, take, drop, refl, sym, ap, ◌∙◌, append_assoc, arith}
use Rattle.std.proofs.lemmas.List.{take_at, drop_at, length-append, append-nil}
use Rattle.byteorder.specs.Endian.{little_bytes, little_number}
use Rattle.byteorder.specs.Numbers.{little_number-reads_back}
use Rattle.bpf_entries.specs.declared.entry.Entry.{Entry}
use Rattle.bpf_entries.specs.Fields.{FitsFields}
use Rattle.bpf_entries.specs.Weights.{weight}
use Rattle.bpf_entries.specs.Texts.{text, body, tag, kind}
use Rattle.bpf_entries.specs.Rings.{AllFit, ring}
use Rattle.bpf_entries.proofs.Texts.{length-text, weight_low, weight_high, one_entry}

abbrev Kept : Type 0
Kept = Entry × Bool

abbrev kept_text : Kept → List ℕ
kept_text k = text k.0 k.1

-- The last bytes of two lists.
pub same_ends : (xs ys s t : List ℕ) → length s ≡ length t → xs ++ s ≡ ys ++ t → (xs ≡ ys) × (s ≡ t)
same_ends xs ys s t len e =
    let whole : length xs + length s ≡ length ys + length t = sym (length-append xs s) ∙ ap length e ∙ length-append ys t in
    let count : length ys ≡ length xs = omega (arith, whole, len) in
    let left : xs ≡ ys = sym (take_at xs s (length xs) refl) ∙ ap (take (length xs)) e ∙ take_at ys t (length xs) count in
    let right : s ≡ t = sym (drop_at xs s (length xs) refl) ∙ ap (drop (length xs)) e ∙ drop_at ys t (length xs) count in
    (left, right)

weight_small : (e : Entry) → FitsFields e → weight e < 256 ^ 2
weight_small e a = let low = weight_low e a in omega arith

-- A text without its last two bytes.
abbrev pub front : Entry → Bool → List ℕ
front e m = little_bytes 2 (weight e) ++ (tag (kind e) m ∷ body e)

pub back_of : (xs : List ℕ) (e : Entry) (m : Bool) → xs ++ text e m ≡ (xs ++ front e m) ++ little_bytes 2 (weight e)
back_of xs e m = sym (append_assoc xs (front e m) (little_bytes 2 (weight e)))

-- Lists that end alike in an entry's text end in one entry.
pub same_last : (xs ys : List ℕ) (x y : Kept) → FitsFields x.0 → FitsFields y.0 → xs ++ kept_text x ≡ ys ++ kept_text y → (xs ≡ ys) × (x ≡ y)
same_last xs ys x y a b e =
    let ends = same_ends (xs ++ front x.0 x.1) (ys ++ front y.0 y.1) (little_bytes 2 (weight x.0)) (little_bytes 2 (weight y.0)) refl (sym (back_of xs x.0 x.1) ∙ e ∙ back_of ys y.0 y.1) in
    let weights : weight x.0 ≡ weight y.0 =
    sym (little_number-reads_back 2 (weight x.0) [] (weight_small x.0 a)) ∙ ap (little_number 2) ends.1 ∙ little_number-reads_back 2 (weight y.0) [] (weight_small y.0 b) in
    let both = same_ends xs ys (kept_text x) (kept_text y) (length-text x.0 x.1 a ∙ weights ∙ sym (length-text y.0 y.1 b)) e in
    let entries = one_entry x.0 y.0 x.1 y.1 a b both.1 in
    let are : x ≡ y = ap (λ f. (f, x.1)) entries.0 ∙ ap (λ m. (y.0, m)) entries.1 in
    (both.0, are)

-- A ring that ends in an entry isn't empty.
some : (ks : List Kept) (k : Kept) → FitsFields k.0 → 5 ≤ length (ring (k ∷ ks))
some ks k a = let high = weight_high k.0 in omega (arith, length-append (ring ks) (kept_text k), length-text k.0 k.1 a)

pub one_list : (ks ls : List Kept) → AllFit ks → AllFit ls → ring ks ≡ ring ls → ks ≡ ls
one_list [] [] a b e = refl
one_list [] (l ∷ ls) a b e = absurd (omega (arith, ap length e, some ls l (b 0 l (omega arith))))
one_list (k ∷ ks) [] a b e = absurd (omega (arith, ap length e, some ks k (a 0 k (omega arith))))
one_list (k ∷ ks) (l ∷ ls) a b e =
    let last = same_last (ring ks) (ring ls) k l (a 0 k (omega arith)) (b 0 l (omega arith)) e in
    let rest : ks ≡ ls = one_list ks ls (λ i d h. a (suc i) d (omega arith)) (λ i d h. b (suc i) d (omega arith)) last.0 in
    let head : k ≡ l = last.1 in
    cc

-- The last two bytes, and the text that they measure.
pub ends_in_weight : (ks : List Kept) (e : Entry) (m : Bool) → FitsFields e
    → little_number 2 (drop (length (ring ((e, m) ∷ ks)) - 2) (ring ((e, m) ∷ ks))) ≡ weight e
ends_in_weight ks e m a =
    let xs = ring ks in
    let count : length (xs ++ front e m) ≡ length (xs ++ text e m) - 2 = omega (arith, ap length (back_of xs e m), length-append (xs ++ front e m) (little_bytes 2 (weight e))) in
    let ends : drop (length (xs ++ text e m) - 2) (xs ++ text e m) ≡ little_bytes 2 (weight e) =
    ap (drop (length (xs ++ text e m) - 2)) (back_of xs e m) ∙ drop_at (xs ++ front e m) (little_bytes 2 (weight e)) (length (xs ++ text e m) - 2) count in
    ap (little_number 2) ends ∙ little_number-reads_back 2 (weight e) [] (weight_small e a)

pub ends_in_text : (ks : List Kept) (e : Entry) (m : Bool) → FitsFields e
    → drop (length (ring ((e, m) ∷ ks)) - weight e) (ring ((e, m) ∷ ks)) ≡ text e m
ends_in_text ks e m a = drop_at (ring ks) (text e m) _ (omega (arith, length-append (ring ks) (text e m), length-text e m a))

-- The oldest entry's text stands in front.
pub begins_with_oldest : (ks : List Kept) (e : Entry) (m : Bool) → ring (ks ++ (e, m) ∷ []) ≡ text e m ++ ring ks
begins_with_oldest [] e m = sym (append-nil (text e m))
begins_with_oldest (k ∷ ks) e m = ap (λ l. l ++ kept_text k) (begins_with_oldest ks e m) ∙ append_assoc (text e m) (ring ks) (kept_text k)
