-- Bytes around a block's end, item by item.
use Rattle.std.proofs.Common.{◌≡◌, ℕ, ◌+◌, ◌-◌, ◌≤◌, ◌<◌, ◌⊎◌, List, ◌++◌, length, get_or, take, drop, refl, sym, ap, ◌∙◌, append_assoc, arith, inl, inr}
use Rattle.std.proofs.lemmas.List.{drop_at, length-append, length-drop, drop-drop, take_all, take-append-drop, take-append-le, take-take, drop-append-le, length-take, get_or-take, get_or-drop, get_or_append_left, get_or-append_right, same_lists}
use Rattle.std.proofs.lemmas.Grind.{common_steps}
use Rattle.std.proofs.lemmas.Bool.{cases_lt}
use Rattle.std.proofs.lemmas.Bool.Decides.{nat_tests}
use borrow.Rule.Slice.PartMut.{put_mid}
use Rattle.byteorder.specs.Endian.{little_bytes}
use Rattle.bpf_ring.specs.Blocks.{around, behind, pasted}

pub length-around : (xs : List ℕ) (first n : ℕ) → first ≤ length xs → n ≤ length xs → length (around xs first n) ≡ n
length-around xs first n a b = grind (arith, common_steps)

pub around_low : (xs : List ℕ) (first n i d : ℕ) → i < n → first + i < length xs → get_or (around xs first n) i d ≡ get_or xs (first + i) d
around_low xs first n i d a b = grind (arith, common_steps)

pub around_high : (xs : List ℕ) (first n i d : ℕ) → i < n → i < length xs → first ≤ length xs → length xs ≤ first + i → get_or (around xs first n) i d ≡ get_or xs (first + i - length xs) d
around_high xs first n i d a w b c = grind (arith, common_steps)

pub length-pasted : (xs es : List ℕ) (at : ℕ) → at + length es ≤ length xs → length (pasted xs at es) ≡ length xs
length-pasted xs es at fits = grind (arith, common_steps)

pub pasted_in : (xs es : List ℕ) (at i d : ℕ) → at + length es ≤ length xs → at ≤ i → i < at + length es → get_or (pasted xs at es) i d ≡ get_or es (i - at) d
pasted_in xs es at i d fits a b = grind (arith, common_steps)

pub pasted_low : (xs es : List ℕ) (at i d : ℕ) → at + length es ≤ length xs → i < at → get_or (pasted xs at es) i d ≡ get_or xs i d
pasted_low xs es at i d fits a = grind (arith, common_steps)

pub pasted_high : (xs es : List ℕ) (at i d : ℕ) → at + length es ≤ length xs → at + length es ≤ i → get_or (pasted xs at es) i d ≡ get_or xs i d
pasted_high xs es at i d fits a = grind (arith, common_steps)

-- Where item k stands.
pub stands : (J first k j : ℕ) → j ≡ behind J first k → (j ≡ first + k) ⊎ (j + J ≡ first + k)
stands J first k j e = grind (arith, nat_tests)

stands_within : (J first k j : ℕ) → j ≡ behind J first k → first < J → k ≤ J → j < J
stands_within J first k j e a b = grind (arith, nat_tests)

pub around_at : (xs : List ℕ) (first n k j d : ℕ) → (j ≡ first + k) ⊎ (j + length xs ≡ first + k) → j < length xs → k < n → k < length xs → first < length xs
    → get_or (around xs first n) k d ≡ get_or xs j d
around_at xs first n k j d (inl e) a b w c = around_low xs first n k d b (omega (arith, e)) ∙ ap (λ i. get_or xs i d) (sym e)
around_at xs first n k j d (inr e) a b w c =
    let is : first + k - length xs ≡ j = omega (arith, e) in
    around_high xs first n k d b w (omega arith) (omega (arith, e)) ∙ ap (λ i. get_or xs i d) is

-- The oldest dropped.
drop_place : (J first n at k j : ℕ) → (at ≡ first + n) ⊎ (at + J ≡ first + n) → (j ≡ at + k) ⊎ (j + J ≡ at + k) → j < J → first < J → n + k < J → at < J
    → (j ≡ first + (n + k)) ⊎ (j + J ≡ first + (n + k))
drop_place J first n at k j (inl e) (inl f) a b c d = inl (omega arith)
drop_place J first n at k j (inl e) (inr f) a b c d = inr (omega arith)
drop_place J first n at k j (inr e) (inl f) a b c d = inr (omega arith)
drop_place J first n at k j (inr e) (inr f) a b c d = absurd (omega arith)

pub around_drop : (xs : List ℕ) (first len n at : ℕ) → at ≡ behind (length xs) first n → first < length xs → len ≤ length xs → n ≤ len
    → around xs at (len - n) ≡ drop n (around xs first len)
around_drop xs first len n at e a b c =
    let J = length xs in
    let low : at < length xs = stands_within J first n at e a (omega arith) in
    let kept : length (around xs first len) ≡ len = length-around xs first len (omega arith) b in
    let left : length (around xs at (len - n)) ≡ len - n = length-around xs at (len - n) (omega arith) (omega arith) in
    let right : length (drop n (around xs first len)) ≡ len - n = omega (arith, length-drop n (around xs first len), kept) in
    same_lists _ _ (left ∙ sym right) (λ k d h.
    let short : k < len - n = omega (arith, h, left) in
    let j = behind (length xs) at k in
    let here = stands J at k j refl in
    let within = stands_within J at k j refl low (omega (arith, short)) in
    around_at xs at (len - n) k j d here within short (omega (arith, short)) low
    ∙ sym (around_at xs first len (n + k) j d (drop_place J first n at k j (stands J first n at e) here within a (omega (arith, short)) low) within (omega (arith, short)) (omega (arith, short)) a)
    ∙ sym (get_or-drop n (around xs first len) k d))

-- Bytes put behind the others, in one piece.
old_place : (J first len n end k j : ℕ) → (j ≡ first + k) ⊎ (j + J ≡ first + k) → (end ≡ first + len) ⊎ (end + J ≡ first + len) → j < J → k < len → len + n ≤ J → end + n ≤ J
    → (j < end) ⊎ (end + n ≤ j)
old_place J first len n end k j (inl e) (inl f) a b c d = inl (omega arith)
old_place J first len n end k j (inl e) (inr f) a b c d = inr (omega arith)
old_place J first len n end k j (inr e) (inl f) a b c d = absurd (omega arith)
old_place J first len n end k j (inr e) (inr f) a b c d = inl (omega arith)

new_place : (J first len n end k j : ℕ) → (j ≡ first + k) ⊎ (j + J ≡ first + k) → (end ≡ first + len) ⊎ (end + J ≡ first + len) → j < J → len ≤ k → k < len + n → end + n ≤ J
    → j ≡ end + (k - len)
new_place J first len n end k j (inl e) (inl f) a b c d = omega arith
new_place J first len n end k j (inl e) (inr f) a b c d = absurd (omega arith)
new_place J first len n end k j (inr e) (inl f) a b c d = absurd (omega arith)
new_place J first len n end k j (inr e) (inr f) a b c d = omega arith

pasted_out : (xs es : List ℕ) (at i d : ℕ) → at + length es ≤ length xs → (i < at) ⊎ (at + length es ≤ i) → get_or (pasted xs at es) i d ≡ get_or xs i d
pasted_out xs es at i d fits (inl a) = pasted_low xs es at i d fits a
pasted_out xs es at i d fits (inr a) = pasted_high xs es at i d fits a

pub around_more : (xs es : List ℕ) (first len end : ℕ) → end ≡ behind (length xs) first len → first < length xs → len + length es ≤ length xs → end + length es ≤ length xs
    → around (pasted xs end es) first (len + length es) ≡ around xs first len ++ es
around_more xs es first len end e a b c =
    let J = length xs in
    let size : length (pasted xs end es) ≡ J = length-pasted xs es end c in
    let is = stands J first len end e in
    let whole : length (around (pasted xs end es) first (len + length es)) ≡ len + length es = length-around (pasted xs end es) first (len + length es) (omega (arith, size)) (omega (arith, size)) in
    let kept : length (around xs first len) ≡ len = length-around xs first len (omega arith) (omega arith) in
    let sum : length (around xs first len ++ es) ≡ len + length es = omega (arith, length-append (around xs first len) es, kept) in
    same_lists _ _ (whole ∙ sym sum) (λ k d h.
    let short : k < len + length es = omega (arith, h, whole) in
    let j = behind (length xs) first k in
    let here = stands J first k j refl in
    let within : j < length xs = stands_within J first k j refl a (omega (arith, short)) in
    let there : (j ≡ first + k) ⊎ (j + length (pasted xs end es) ≡ first + k) = rw size here in
    around_at (pasted xs end es) first (len + length es) k j d there (omega (arith, size, within)) short (omega (arith, size, short)) (omega (arith, size))
    ∙ elim (cases_lt k len) [
      | inl old ↦
          pasted_out xs es end j d c (old_place J first len (length es) end k j here is within old b c)
          ∙ sym (around_at xs first len k j d here within old (omega arith) a)
          ∙ sym (get_or_append_left (around xs first len) es d k (omega (arith, kept)))
      | inr new ↦
          let at : j ≡ end + (k - len) = new_place J first len (length es) end k j here is within new short c in
          let off : j - end ≡ k - len = omega (arith, at) in
          pasted_in xs es end j d c (omega (arith, at)) (omega (arith, at, short))
          ∙ ap (λ i. get_or es i d) off
          ∙ sym (get_or-append_right (around xs first len) es len k d kept new)
    ])

-- The same in two pieces: the first up to the block's end, the second from its start.
two_old : (J first len n end k j : ℕ) → (j ≡ first + k) ⊎ (j + J ≡ first + k) → end ≡ first + len → end + n ≡ J → k < len → (first ≤ j) × (j < end)
two_old J first len n end k j (inl e) f a b = (omega arith, omega arith)
two_old J first len n end k j (inr e) f a b = absurd (omega arith)

two_first : (J first len n end k j : ℕ) → (j ≡ first + k) ⊎ (j + J ≡ first + k) → end ≡ first + len → end + n ≡ J → len ≤ k → k < len + n → j ≡ end + (k - len)
two_first J first len n end k j (inl e) f a b c = omega arith
two_first J first len n end k j (inr e) f a b c = absurd (omega arith)

two_second : (J first len n end k j : ℕ) → (j ≡ first + k) ⊎ (j + J ≡ first + k) → j < J → end ≡ first + len → end + n ≡ J → len + n ≤ k → j ≡ k - len - n
two_second J first len n end k j (inl e) w f a b = absurd (omega arith)
two_second J first len n end k j (inr e) w f a b = omega arith

pub around_two : (xs x y : List ℕ) (first len end : ℕ) → end ≡ first + len → first < length xs → end + length x ≡ length xs → length y ≤ first
    → around (pasted (pasted xs end x) 0 y) first (len + (length x + length y)) ≡ around xs first len ++ (x ++ y)
around_two xs x y first len end e a b c =
    let J = length xs in
    let mid : List ℕ = pasted xs end x in
    let new : List ℕ = pasted mid 0 y in
    let size1 : length mid ≡ J = length-pasted xs x end (omega (arith, b)) in
    let size : length new ≡ J = length-pasted mid y 0 (omega (arith, size1, b, e, a, c)) ∙ size1 in
    let n : ℕ = length x + length y in
    let room : len + n ≤ J = omega (arith, b, e, c) in
    let whole : length (around new first (len + n)) ≡ len + n = length-around new first (len + n) (omega (arith, size, a)) (omega (arith, size, room)) in
    let kept : length (around xs first len) ≡ len = length-around xs first len (omega (arith, a)) (omega (arith, room)) in
    let sum : length (around xs first len ++ (x ++ y)) ≡ len + n = length-append (around xs first len) (x ++ y) ∙ omega (arith, kept, length-append x y) in
    same_lists _ _ (whole ∙ sym sum) (λ k d h.
    let short : k < len + n = omega (arith, h, whole) in
    let j = behind (length xs) first k in
    let here = stands J first k j refl in
    let within : j < length xs = stands_within J first k j refl a (omega (arith, short, room)) in
    let there : (j ≡ first + k) ⊎ (j + length new ≡ first + k) = rw size here in
    around_at new first (len + n) k j d there (omega (arith, size, within)) short (omega (arith, size, short, room)) (omega (arith, size, a))
    ∙ elim (cases_lt k len) [
      | inl old ↦
          let place = two_old J first len (length x) end k j here e b old in
          pasted_high mid y 0 j d (omega (arith, size1, c, a)) (omega (arith, place.0, c))
          ∙ pasted_low xs x end j d (omega (arith, b)) (place.1)
          ∙ sym (around_at xs first len k j d here within old (omega (arith, short, room)) a)
          ∙ sym (get_or_append_left (around xs first len) (x ++ y) d k (omega (arith, kept, old)))
      | inr past ↦ elim (cases_lt k (len + length x)) [
        | inl one ↦
            let at : j ≡ end + (k - len) = two_first J first len (length x) end k j here e b past one in
            let off : j - end ≡ k - len = omega (arith, at) in
            pasted_high mid y 0 j d (omega (arith, size1, c, a)) (omega (arith, at, c, e))
            ∙ pasted_in xs x end j d (omega (arith, b)) (omega (arith, at)) (omega (arith, at, one, past))
            ∙ ap (λ i. get_or x i d) off
            ∙ sym (get_or_append_left x y d (k - len) (omega (arith, one, past)))
            ∙ sym (get_or-append_right (around xs first len) (x ++ y) len k d kept past)
        | inr two ↦
            let at : j ≡ k - len - length x = two_second J first len (length x) end k j here within e b two in
            let off : j - 0 ≡ k - len - length x = omega (arith, at) in
            pasted_in mid y 0 j d (omega (arith, size1, c, a)) (omega arith) (omega (arith, at, short, two))
            ∙ ap (λ i. get_or y i d) off
            ∙ sym (get_or-append_right x y (length x) (k - len) d refl (omega (arith, two)))
            ∙ sym (get_or-append_right (around xs first len) (x ++ y) len k d kept past)
      ]
    ])

-- What a write to a part leaves.
pub put_pasted : (xs ys es : List ℕ) (at k : ℕ) → ys ≡ es → k ≡ length es → put_mid at k xs ys ≡ pasted xs at es
put_pasted xs ys es at k e f =
    ap (λ l. take at xs ++ (l ++ drop k (drop at xs))) e
    ∙ ap (λ r. take at xs ++ (es ++ r)) (drop-drop k at xs ∙ ap (λ m. drop (at + m) xs) f)

-- Such a write as the code does it.
straight_end : (J first len n end : ℕ) → (end ≡ first + len) ⊎ (end + J ≡ first + len) → first < J → len + n ≤ J → J < end + n → end ≡ first + len
straight_end J first len n end (inl e) a b c = e
straight_end J first len n end (inr e) a b c = absurd (omega arith)

pub wraps : (xs es one two : List ℕ) (first len end : ℕ) → end ≡ behind (length xs) first len → end < length xs → first < length xs → len + length es ≤ length xs → length xs < end + length es
    → one ≡ take (length xs - end) es → two ≡ take (length es - (length xs - end)) (drop (length xs - end) es)
    → around (two ++ drop (length es - (length xs - end)) (put_mid end (length xs - end) xs one)) first (len + length es) ≡ around xs first len ++ es
wraps xs es one two first len end e w a b c f g =
    let J = length xs in
    let here : ℕ = J - end in
    let x : List ℕ = take here es in
    let y : List ℕ = drop here es in
    let is : end ≡ first + len = straight_end J first len (length es) end (stands J first len end e) a b c in
    let nx : length x ≡ here = grind (arith, common_steps, c) in
    let ny : length y ≡ length es - here = length-drop here es in
    let second : two ≡ y = g ∙ take_all (length es - here) y (omega (arith, ny)) in
    let mid : put_mid end here xs one ≡ pasted xs end x = put_pasted xs one x end here f (sym nx) in
    let past : length es - here ≡ 0 + length y = omega (arith, ny) in
    let all : two ++ drop (length es - here) (put_mid end here xs one) ≡ pasted (pasted xs end x) 0 y =
    ap (λ l. l ++ drop (length es - here) (put_mid end here xs one)) second
    ∙ ap (λ p. y ++ drop (length es - here) p) mid
    ∙ ap (λ m. y ++ drop m (pasted xs end x)) past in
    let count : len + length es ≡ len + (length x + length y) = omega (arith, nx, ny, c, w) in
    ap (λ l. around l first (len + length es)) all
    ∙ ap (λ n. around (pasted (pasted xs end x) 0 y) first n) count
    ∙ around_two xs x y first len end is a (omega (arith, nx, w)) (omega (arith, ny, is, b, c))
    ∙ ap (λ l. around xs first len ++ l) (take-append-drop here es)

-- Bytes from a place on, and the newest ones, read where they lie: in the first of the two pieces that the block was lent in.
around_piece : (xs front rest : List ℕ) (at n : ℕ) → front ++ rest ≡ xs → at + n ≤ length front → around xs at n ≡ take (at + n - at) (drop at front)
around_piece xs front rest at n e fits =
    let count : n ≡ at + n - at = omega arith in
    let tail : length (drop at front) ≡ length front - at = length-drop at front in
    ap (λ l. around l at n) (sym e)
    ∙ ap (λ l. take n (l ++ take at (front ++ rest))) (drop-append-le at front rest (omega (arith, fits)))
    ∙ ap (take n) (append_assoc (drop at front) rest (take at (front ++ rest)))
    ∙ take-append-le n (drop at front) (rest ++ take at (front ++ rest)) (omega (arith, tail, fits))
    ∙ ap (λ k. take k (drop at front)) count

pub piece_at : (xs front rest bytes : List ℕ) (first len from n at : ℕ) → around xs first len ≡ bytes → at ≡ behind (length xs) first from → first < length xs → len ≤ length xs
    → from + n ≤ length bytes → front ++ rest ≡ xs → at + n ≤ length front → take (at + n - at) (drop at front) ≡ take n (drop from bytes)
piece_at xs front rest bytes first len from n at is e a b c cut fits =
    let long : length bytes ≡ len = ap length (sym is) ∙ length-around xs first len (omega (arith, a)) b in
    sym (around_piece xs front rest at n cut fits)
    ∙ sym (take-take n (len - from) (drop at xs ++ take at xs) (omega (arith, long, c)))
    ∙ ap (take n) (around_drop xs first len from at e a b (omega (arith, long, c)))
    ∙ ap (λ l. take n (drop from l)) is

pub newest_piece : (xs front rest bytes : List ℕ) (first len n at : ℕ) → around xs first len ≡ bytes → at ≡ behind (length xs) first (length bytes - n) → first < length xs → len ≤ length xs
    → n ≤ length bytes → front ++ rest ≡ xs → at + n ≤ length front → take (at + n - at) (drop at front) ≡ drop (length bytes - n) bytes
newest_piece xs front rest bytes first len n at is e a b c cut fits =
    piece_at xs front rest bytes first len (length bytes - n) n at is e a b (omega (arith, c)) cut fits
    ∙ take_all n (drop (length bytes - n) bytes) (omega (arith, length-drop (length bytes - n) bytes, c))

-- The place of the newest bytes, by the place behind them.
pub back_place : (J first len n end : ℕ) → end ≡ behind J first len → n ≤ end → n ≤ len → first < J → len ≤ J → end - n ≡ behind J first (len - n)
back_place J first len n end e a b c d = grind (arith, nat_tests)

-- The last two bytes.
pub last_two : (bytes before : List ℕ) (n : ℕ) → bytes ≡ before ++ little_bytes 2 n → drop (length bytes - 2) bytes ≡ little_bytes 2 n
last_two bytes before n is =
    let long : length bytes ≡ length before + 2 = ap length is ∙ length-append before (little_bytes 2 n) in
    ap (drop (length bytes - 2)) is ∙ drop_at before (little_bytes 2 n) (length bytes - 2) (omega (arith, long))

-- The oldest bytes, read there.
pub oldest_piece : (xs front rest bytes : List ℕ) (first len n : ℕ) → around xs first len ≡ bytes → front ++ rest ≡ xs → n ≤ len → first + n ≤ length front
    → take (first + n - first) (drop first front) ≡ take n bytes
oldest_piece xs front rest bytes first len n is cut within fits =
    sym (around_piece xs front rest first n cut fits)
    ∙ sym (grind (arith, common_steps))
    ∙ ap (take n) is

-- A block that was filled on has the same bytes.
pub around_filled : (xs ys : List ℕ) (first len size : ℕ) → take (length xs) ys ≡ xs → length ys ≤ size → (length xs < size → first + len < length xs) → first < length xs → len ≤ length xs
    → around ys first len ≡ around xs first len
around_filled xs ys first len size same fits straight a b = elim (cases_lt (length xs) size) [
  | inl grows ↦
      let within : first + len < length xs = straight grows in
      let more : length xs ≤ length ys = omega (arith, ap length same, length-take (length xs) ys) in
      let left = length-around ys first len (omega (arith, a, more)) (omega (arith, b, more)) in
      let right = length-around xs first len (omega (arith, a)) b in
      same_lists _ _ (left ∙ sym right) (λ k d h.
      let short : k < len = omega (arith, h, left) in
      let inside : first + k < length xs = omega (arith, short, within) in
      around_low ys first len k d short (omega (arith, inside, more))
      ∙ sym (get_or-take (length xs) ys (first + k) d inside)
      ∙ ap (λ l. get_or l (first + k) d) same
      ∙ sym (around_low xs first len k d short inside))
  | inr full ↦
      let all : ys ≡ xs = sym (take_all (length xs) ys (omega (arith, fits, full))) ∙ same in
      ap (λ l. around l first len) all
]
