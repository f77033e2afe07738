-- Texts that are cut at the last of some bytes, and places in order.
use Rattle.std.proofs.Common.{ℕ, ◌≡◌, ◌<◌, ◌≤◌, ◌+◌, ◌-◌, ◌==◌, true, false, List, [], ◌∷◌, ◌++◌, Some, None, Result, Ok, Err, take, length, get_or, refl, ap, sym, ◌∙◌, subst, arith}
use Rattle.std.specs.Prelude.{IfOk, drop, map}
use Rattle.std.specs.Borrow.{Bor}
use Rattle.std.specs.Cmp.Lexicographic.{slice_cmp}
use Rattle.std.specs.List.Sorted.{IsPermutation, IsSorted}
use Rattle.std.specs.Ordering.{nat_cmp, ordering_then}
use Rattle.std.specs.declared.cmp.Ordering.{Ordering}
use Rattle.std.proofs.lemmas.List.{drop_more, get_or-map, length-map, take-append-drop}
use Rattle.std.proofs.lemmas.List.Sorted.{IsPermutation-map}
use Rattle.bpf_cover.specs.Places.{AreInOrder, last_cut, spot_cmp}
use Rattle.bpf_cover.specs.Spots.{plain}
use Rattle.bpf_cover.specs.declared.places.Spot.{Spot}

-- a byte before those among which there is none such
past : (byte b : ℕ) (s : List ℕ) → last_cut byte s ≡ None → (b == byte) ≡ false → last_cut byte (b ∷ s) ≡ None
past byte b s none other = rw (none, other) refl

here : (byte b : ℕ) (s : List ℕ) → last_cut byte s ≡ None → (b == byte) ≡ true → last_cut byte (b ∷ s) ≡ Some ([], s)
here byte b s none same = rw (none, same) refl

behind : (byte : ℕ) (front s rest : List ℕ) → last_cut byte s ≡ Some ([], rest) → last_cut byte (front ++ s) ≡ Some (front, rest)
behind byte [] s rest e = e
behind byte (b ∷ front) s rest e = rw (behind byte front s rest e) refl

pub drop-last : {X : Type 0} (xs : List X) (end : ℕ) (d : X) → 0 < end → end ≤ length xs → drop (end - 1) xs ≡ get_or xs (end - 1) d ∷ drop end xs
drop-last xs end d h most =
    let last : (end - 1) + 1 ≡ end = omega (arith, h) in
    drop_more xs (end - 1) d (omega (arith, h, most)) ∙ ap (λ n. get_or xs (end - 1) d ∷ drop n xs) last

pub last_cut-past : (byte : ℕ) (xs : List ℕ) (end d : ℕ) → 0 < end → end ≤ length xs → last_cut byte (drop end xs) ≡ None
    → (get_or xs (end - 1) d == byte) ≡ false → last_cut byte (drop (end - 1) xs) ≡ None
last_cut-past byte xs end d h most none other =
    ap (last_cut byte) (drop-last xs end d h most) ∙ past byte (get_or xs (end - 1) d) (drop end xs) none other

pub last_cut-found : (byte : ℕ) (xs : List ℕ) (end d : ℕ) → 0 < end → end ≤ length xs → last_cut byte (drop end xs) ≡ None
    → (get_or xs (end - 1) d == byte) ≡ true → Some (take (end - 1) xs, drop end xs) ≡ last_cut byte xs
last_cut-found byte xs end d h most none same =
    let tail = ap (last_cut byte) (drop-last xs end d h most) ∙ here byte (get_or xs (end - 1) d) (drop end xs) none same in
    sym (behind byte (take (end - 1) xs) (drop (end - 1) xs) (drop end xs) tail) ∙ ap (last_cut byte) (take-append-drop (end - 1) xs)

pub last_cut-none : (byte : ℕ) (xs : List ℕ) (end : ℕ) → end ≤ 0 → last_cut byte (drop end xs) ≡ None → None ≡ last_cut byte xs
last_cut-none byte xs end over none = let zero : end ≡ 0 = omega (arith, over) in sym (rw zero at none)

-- keys in order
abbrev pub Key : Type 0
Key = Bor (List ℕ) × ℕ × ℕ

abbrev pub key_cmp : Key → Key → Ordering
key_cmp x y = ordering_then (ordering_then (slice_cmp nat_cmp x.0.now y.0.now) (nat_cmp x.1 y.1)) (nat_cmp x.2 y.2)

plain-sorted : (keys : List Key) → IsSorted key_cmp keys → IsSorted spot_cmp (map plain keys)
plain-sorted [] sorted = λ k d low high. absurd (omega (arith, high))
plain-sorted (first ∷ more) sorted = λ k d low high.
    let keys = first ∷ more in
    let long : length (map plain keys) ≡ length keys = length-map keys plain in
    let next = get_or-map plain keys (k + 1) first d (omega (arith, high, long)) in
    let one = get_or-map plain keys k first d (omega (arith, high, long)) in
    rw (next, one) (sorted k first low (omega (arith, high, long)))

pub plain-order : (spots ordered : List Spot) (keys sorted : List Key) → map plain keys ≡ spots → ordered ≡ map plain sorted
    → IsPermutation keys sorted → IsSorted key_cmp sorted → AreInOrder spots ordered
plain-order spots ordered keys sorted e f moved up =
    subst (λ (s : List Spot). AreInOrder s ordered) e (subst (λ (o : List Spot). AreInOrder (map plain keys) o) (sym f) (record {
      same = IsPermutation-map plain keys sorted moved;
      order = plain-sorted sorted up;
    }))

-- what follows of an answer
pub if-ok : {A E : Type 0} (r : Result A E) (P Q : A → Type 0) → ((v : A) → P v → Q v) → IfOk r P → IfOk r Q
if-ok (Ok v) P Q f p = f v p
if-ok (Err e) P Q f p = tt
