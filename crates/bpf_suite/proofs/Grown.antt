-- Maps with more entries hold the same bytes at the same addresses.
use Rattle.std.proofs.Common.{ℕ, suc, ◌≡◌, ◌≤◌, ◌+◌, ◌-◌, Bool, true, false, List, [], ◌∷◌, ◌++◌, append_assoc, take, drop, length, length-append, length-drop, replicate, Option, Some, None, refl, sym, ap, ◌∙◌, arith, cond, ◌&&◌, ◌⊎◌, inl, inr}
use Rattle.std.specs.Prelude.{⊤, option_map, nat_le, slice_range}
use Rattle.std.specs.Option.{option_map_or}
use Rattle.std.proofs.Math.Seq.{drop-append-add, take-add, take-append-add}
use Rattle.std.proofs.lemmas.Bool.Decides.{nat_tests}
use Rattle.std.proofs.lemmas.List.{drop-drop, drop-replicate, length-replicate, length-take-le, replicate-append-replicate, take-append-drop, take-replicate, take_all, take_at}
use Rattle.std.proofs.lemmas.List.Sums.{sum_by-cons}
use Rattle.bpf_isa.specs.declared.maps.MapShape.{MapShape}
use Rattle.bpf_steps.specs.Platform.{map_address}
use Rattle.bpf_steps.specs.Regions.{Region, index_in, map_len, maps_from, maps_len, paste}
use Rattle.bpf_steps.proofs.Indices.{index_above, index_here, maps_below}
use Rattle.bpf_suite.specs.Images.{AreIn, ArePresent, pasted}
use Rattle.bpf_suite.specs.declared.image.Run.{Run}

-- Maps of these shapes have the bytes of those, and more behind them.
abbrev pub Fits : List MapShape → List MapShape → Type 0
Fits [] shapes = ⊤
Fits (s ∷ least) [] = (map_len s ≡ 0) × Fits least []
Fits (s ∷ least) (t ∷ shapes) = (map_len s ≤ map_len t) × (map_len t ≤ 65536) × Fits least shapes

-- The bytes of maps as they stand in larger ones, which are zeros else.
abbrev pub grown : List MapShape → List MapShape → List ℕ → List ℕ
grown least [] bytes = []
grown [] (t ∷ shapes) bytes = replicate (map_len t) 0 ++ grown [] shapes bytes
grown (s ∷ least) (t ∷ shapes) bytes =
    (take (map_len s) bytes ++ replicate (map_len t - map_len s) 0) ++ grown least shapes (drop (map_len s) bytes)

-- A run has a place among the bytes of larger maps, between the same ones whatever stands there.
record At (i : ℕ) (least shapes : List MapShape) (bytes : List ℕ) (a n j : ℕ) : Type 0 where
  front : List ℕ
  back : List ℕ
  fits : j + n ≤ length bytes
  there : index_in (maps_from i shapes) a n ≡ Some (length front)
  with' : (new : List ℕ) → length new ≡ n → grown least shapes (take j bytes ++ (new ++ drop (j + n) bytes)) ≡ front ++ (new ++ back)

-- where a run stands in regions
some-from : (k j : ℕ) (found : Option ℕ) → option_map (λ at. k + at) found ≡ Some j → (i : ℕ) × (found ≡ Some i) × (j ≡ k + i)
some-from k j None e = cc
some-from k j (Some i) e = (i, refl, cc)

both-true : (p q : Bool) → (p && q) ≡ true → (p ≡ true) × (q ≡ true)
both-true true q e = (refl, e)
both-true false q e = cc

here-or-later : (r : Region) (rs : List Region) (a n j : ℕ) → index_in (r ∷ rs) a n ≡ Some j
    → ((r.base ≤ a) × (a + n ≤ r.base + r.len) × (j ≡ a - r.base)) ⊎ ((k : ℕ) × (index_in rs a n ≡ Some k) × (j ≡ r.len + k))
unfolding index_in
here-or-later r rs a n j e = go (nat_le r.base a && nat_le (a + n) (r.base + r.len)) refl e where
  go : (b : Bool) → (nat_le r.base a && nat_le (a + n) (r.base + r.len)) ≡ b → cond b (Some (a - r.base)) (option_map (λ at. r.len + at) (index_in rs a n)) ≡ Some j
      → ((r.base ≤ a) × (a + n ≤ r.base + r.len) × (j ≡ a - r.base)) ⊎ ((k : ℕ) × (index_in rs a n ≡ Some k) × (j ≡ r.len + k))
  go true is e = let both = both-true (nat_le r.base a) (nat_le (a + n) (r.base + r.len)) is in inl (low both.0, high both.1, cc) where
    low : nat_le r.base a ≡ true → r.base ≤ a
    low is = grind (arith, nat_tests)

    high : nat_le (a + n) (r.base + r.len) ≡ true → a + n ≤ r.base + r.len
    high is = grind (arith, nat_tests)
  go false is e = inr (some-from r.len j (index_in rs a n) e)

-- a run of a map isn't below it
not-below : (i : ℕ) (shapes : List MapShape) (a n j : ℕ) → index_in (maps_from i shapes) a n ≡ Some j → map_address i ≤ a
not-below i shapes a n j e = go (nat_le (map_address i) a) refl where
  go : (b : Bool) → nat_le (map_address i) a ≡ b → map_address i ≤ a
  go true is = grind (arith, nat_tests)
  go false is = let none = maps_below i shapes a n (grind (arith, nat_tests)) in cc

no-region : (a n j : ℕ) → index_in [] a n ≡ Some j → ⊥
unfolding index_in
no-region a n j e = cc

-- maps without bytes have no run
none-fits : (i : ℕ) (least : List MapShape) (a n j : ℕ) → Fits least [] → 1 ≤ n → index_in (maps_from i least) a n ≡ Some j → ⊥
unfolding maps_from
none-fits i [] a n j fits some e = no-region a n j e
none-fits i (s ∷ least) a n j fits some e =
    go (λ k found. none-fits (suc i) least a n k fits.1 some found)
    (here-or-later (record { base = map_address i; len = map_len s }) (maps_from (suc i) least) a n j e) where
      go : ((k : ℕ) → index_in (maps_from (suc i) least) a n ≡ Some k → ⊥)
          → ((map_address i ≤ a) × (a + n ≤ map_address i + map_len s) × (j ≡ a - map_address i)) ⊎ ((k : ℕ) × (index_in (maps_from (suc i) least) a n ≡ Some k) × (j ≡ map_len s + k)) → ⊥
      go rest (inl here) = absurd (omega (arith, here.0, here.1, fits.0))
      go rest (inr later) = rest later.0 later.1

-- the run in the first map
first-at : (i : ℕ) (s t : MapShape) (least shapes : List MapShape) (bytes : List ℕ) (a n j : ℕ) → map_len s ≤ map_len t → map_len s ≤ length bytes
    → map_address i ≤ a → a + n ≤ map_address i + map_len s → j ≡ a - map_address i → At i (s ∷ least) (t ∷ shapes) bytes a n j
unfolding maps_from
first-at i s t least shapes bytes a n j fits long low high is =
    let L = map_len s in
    let k = L - (j + n) in
    let f = take j bytes in
    let g = drop (j + n) bytes in
    let zeros : List ℕ = replicate (map_len t - map_len s) 0 in
    let inside : j + n ≤ L = omega (arith, low, high, is) in
    let size : length f ≡ j = length-take-le j bytes (omega (arith, inside, long)) in
    record {
      front = f;
      back = (take k g ++ zeros) ++ grown least shapes (drop k g);
      fits = omega (arith, inside, long);
      there = index_here (record { base = map_address i; len = map_len t }) (maps_from (suc i) shapes) a n low (omega (arith, high, fits))
          ∙ ap Some (sym is ∙ sym size);
      with' = λ new wide.
          let X = f ++ (new ++ g) in
          let L-is : L ≡ length f + (length new + k) = omega (arith, inside, size, wide) in
          let head : take L X ≡ f ++ (new ++ take k g) =
          ap (λ m. take m X) L-is ∙ take-append-add f (new ++ g) (length new + k) ∙ ap (λ s. f ++ s) (take-append-add new g k) in
          let tail : drop L X ≡ drop k g =
          ap (λ m. drop m X) L-is ∙ drop-append-add f (new ++ g) (length new + k) ∙ drop-append-add new g k in
          ap (λ h. (h ++ zeros) ++ grown least shapes (drop L X)) head
          ∙ ap (λ h. ((f ++ (new ++ take k g)) ++ zeros) ++ grown least shapes h) tail
          ∙ regroup f new (take k g) zeros (grown least shapes (drop k g));
    }
  where
    regroup : (f new t zeros rest : List ℕ) → ((f ++ (new ++ t)) ++ zeros) ++ rest ≡ f ++ (new ++ ((t ++ zeros) ++ rest))
    regroup f new t zeros rest =
        ap (λ s. s ++ rest) (append_assoc f (new ++ t) zeros) ∙ append_assoc f ((new ++ t) ++ zeros) rest
        ∙ ap (λ s. f ++ (s ++ rest)) (append_assoc new t zeros) ∙ ap (λ s. f ++ s) (append_assoc new (t ++ zeros) rest)

drop-at : (p q : List ℕ) (n : ℕ) → length p ≡ n → drop n (p ++ q) ≡ q
drop-at p q n e = let from : n ≡ length p + 0 = omega (arith, e) in ap (λ m. drop m (p ++ q)) from ∙ drop-append-add p q 0

-- the run in a later map
later-at : (i : ℕ) (s t : MapShape) (least shapes : List MapShape) (bytes : List ℕ) (a n j k : ℕ) → map_len s ≤ map_len t → map_len t ≤ 65536 → map_len s ≤ length bytes
    → 1 ≤ n → map_address (suc i) ≤ a → j ≡ map_len s + k → At (suc i) least shapes (drop (map_len s) bytes) a n k → At i (s ∷ least) (t ∷ shapes) bytes a n j
unfolding maps_from
later-at i s t least shapes bytes a n j k fits short long some low is rest =
    let L = map_len s in
    let p = take L bytes in
    let q = drop L bytes in
    let zeros : List ℕ = replicate (map_len t - map_len s) 0 in
    let size : length p ≡ L = length-take-le L bytes long in
    let behind : length q ≡ length bytes - L = length-drop L bytes in
    let wide : length ((p ++ zeros) ++ rest.front) ≡ map_len t + length rest.front =
    length-append (p ++ zeros) rest.front ∙ ap (λ m. m + length rest.front) (length-append p zeros)
    ∙ ap (λ m. (length p + m) + length rest.front) (length-replicate (map_len t - map_len s) 0) ∙ omega (arith, size, fits) in
    record {
      front = (p ++ zeros) ++ rest.front;
      back = rest.back;
      fits = omega (arith, rest.fits, behind, long, is);
      there = index_above (record { base = map_address i; len = map_len t }) (maps_from (suc i) shapes) a n (omega (arith, low, short, some))
          ∙ ap (option_map (λ at. map_len t + at)) rest.there ∙ ap Some (sym wide);
      with' = λ new same.
          let b = new ++ drop (j + n) bytes in
          let X = take j bytes ++ b in
          let more = take k q ++ (new ++ drop (k + n) q) in
          let cut : X ≡ p ++ more =
          ap (λ m. take m bytes ++ b) is ∙ ap (λ f. f ++ b) (take-add L k bytes) ∙ append_assoc p (take k q) b
          ∙ ap (λ d. p ++ (take k q ++ (new ++ d))) (ap (λ m. drop m bytes) (omega (arith, is)) ∙ sym (drop-drop (k + n) L bytes)) in
          let head : take L X ≡ p = ap (take L) cut ∙ take_at p more L size in
          let tail : drop L X ≡ more = ap (drop L) cut ∙ drop-at p more L size in
          ap (λ h. (h ++ zeros) ++ grown least shapes (drop L X)) head ∙ ap (λ h. (p ++ zeros) ++ grown least shapes h) tail
          ∙ ap (λ h. (p ++ zeros) ++ h) (rest.with' new same) ∙ sym (append_assoc (p ++ zeros) rest.front (new ++ rest.back));
    }

run-at : (i : ℕ) (least shapes : List MapShape) (bytes : List ℕ) (a n j : ℕ) → Fits least shapes → 1 ≤ n → length bytes ≡ maps_len least
    → index_in (maps_from i least) a n ≡ Some j → At i least shapes bytes a n j
unfolding maps_from
run-at i [] shapes bytes a n j fits some long e = absurd (no-region a n j e)
run-at i (s ∷ least) [] bytes a n j fits some long e = absurd (none-fits i (s ∷ least) a n j fits some e)
run-at i (s ∷ least) (t ∷ shapes) bytes a n j fits some long e =
    go (λ k found. run-at (suc i) least shapes (drop (map_len s) bytes) a n k fits.2 some (length-drop (map_len s) bytes ∙ omega (arith, whole, long)) found)
    (here-or-later (record { base = map_address i; len = map_len s }) (maps_from (suc i) least) a n j e) where
      whole : maps_len (s ∷ least) ≡ map_len s + maps_len least
      whole = sum_by-cons map_len s least

      go : ((k : ℕ) → index_in (maps_from (suc i) least) a n ≡ Some k → At (suc i) least shapes (drop (map_len s) bytes) a n k)
          → ((map_address i ≤ a) × (a + n ≤ map_address i + map_len s) × (j ≡ a - map_address i)) ⊎ ((k : ℕ) × (index_in (maps_from (suc i) least) a n ≡ Some k) × (j ≡ map_len s + k))
          → At i (s ∷ least) (t ∷ shapes) bytes a n j
      go rest (inl here) = first-at i s t least shapes bytes a n j fits.0 (omega (arith, whole, long)) here.0 here.1 here.2
      go rest (inr later) =
          later-at i s t least shapes bytes a n j later.0 fits.0 fits.1 (omega (arith, whole, long)) some (not-below (suc i) least a n later.0 later.1) later.2
          (rest later.0 later.1)

-- bytes in the place of others
paste-between : (front old back new : List ℕ) → length old ≡ length new → paste (front ++ (old ++ back)) (length front) new ≡ front ++ (new ++ back)
paste-between front old back new same =
    let whole = front ++ (old ++ back) in
    let before : take (length front) whole ≡ front = take_at front (old ++ back) (length front) refl in
    let behind : drop (length front + length new) whole ≡ back =
    ap (λ n. drop (length front + n) whole) (sym same) ∙ drop-append-add front (old ++ back) (length old)
    ∙ drop-at old back (length old) refl in
    let long : length whole ≡ length front + (length old + length back) = length-append front (old ++ back) ∙ ap (λ n. length front + n) (length-append old back) in
    let wide : length (front ++ (new ++ back)) ≡ length front + (length new + length back) = length-append front (new ++ back) ∙ ap (λ n. length front + n) (length-append new back) in
    ap (λ f. take (length whole) (f ++ (new ++ drop (length front + length new) whole))) before
    ∙ ap (λ b. take (length whole) (front ++ (new ++ b))) behind
    ∙ take_all (length whole) (front ++ (new ++ back)) (omega (arith, long, wide, same))

-- a list by three parts of it
thirds : (bytes : List ℕ) (j n : ℕ) → j + n ≤ length bytes → bytes ≡ take j bytes ++ (take n (drop j bytes) ++ drop (j + n) bytes)
thirds bytes j n fits =
    sym (take-append-drop j bytes) ∙ ap (λ d. take j bytes ++ d) (sym (take-append-drop n (drop j bytes)))
    ∙ ap (λ d. take j bytes ++ (take n (drop j bytes) ++ d)) (drop-drop n j bytes)

third-long : (bytes : List ℕ) (j n : ℕ) → j + n ≤ length bytes → length (take n (drop j bytes)) ≡ n
third-long bytes j n fits = let behind = length-drop j bytes in length-take-le n (drop j bytes) (omega (arith, behind, fits))

-- a run that is put in there and here
grown-paste : (least shapes : List MapShape) (bytes new : List ℕ) (a j : ℕ) → Fits least shapes → 1 ≤ length new → length bytes ≡ maps_len least
    → index_in (maps_from 0 least) a (length new) ≡ Some j
    → option_map_or (λ at. paste (grown least shapes bytes) at new) (index_in (maps_from 0 shapes) a (length new)) (grown least shapes bytes)
    ≡ grown least shapes (paste bytes j new)
grown-paste least shapes bytes new a j fits some long e =
    let n = length new in
    let at = run-at 0 least shapes bytes a n j fits some long e in
    let mine = take n (drop j bytes) in
    let size : length mine ≡ n = third-long bytes j n at.fits in
    let before : grown least shapes bytes ≡ at.front ++ (mine ++ at.back) = ap (grown least shapes) (thirds bytes j n at.fits) ∙ at.with' mine size in
    let here : paste bytes j new ≡ take j bytes ++ (new ++ drop (j + n) bytes) =
    ap (λ b. paste b j new) (thirds bytes j n at.fits) ∙ ap (λ k. paste (take j bytes ++ (mine ++ drop (j + n) bytes)) k new) (sym (length-take-le j bytes (omega (arith, at.fits))))
    ∙ paste-between (take j bytes) mine (drop (j + n) bytes) new size in
    ap (λ (o : Option ℕ). option_map_or (λ k. paste (grown least shapes bytes) k new) o (grown least shapes bytes)) at.there
    ∙ ap (λ b. paste b (length at.front) new) before ∙ paste-between at.front mine at.back new size
    ∙ sym (at.with' new refl) ∙ ap (grown least shapes) (sym here)

-- bytes stay as many
paste-long : (bytes new : List ℕ) (j : ℕ) → j + length new ≤ length bytes → length (paste bytes j new) ≡ length bytes
paste-long bytes new j fits =
    let inner = take j bytes ++ (new ++ drop (j + length new) bytes) in
    let size : length inner ≡ length (take j bytes) + (length new + length (drop (j + length new) bytes)) =
    length-append (take j bytes) (new ++ drop (j + length new) bytes) ∙ ap (λ n. length (take j bytes) + n) (length-append new (drop (j + length new) bytes)) in
    let front : length (take j bytes) ≡ j = length-take-le j bytes (omega (arith, fits)) in
    let back : length (drop (j + length new) bytes) ≡ length bytes - (j + length new) = length-drop (j + length new) bytes in
    length-take-le (length bytes) inner (omega (arith, size, front, back, fits))

-- a run ends in maps that have it
inside : (i : ℕ) (least : List MapShape) (a n j : ℕ) → index_in (maps_from i least) a n ≡ Some j → j + n ≤ maps_len least
unfolding maps_from
inside i [] a n j e = absurd (no-region a n j e)
inside i (s ∷ least) a n j e =
    go (λ k found. inside (suc i) least a n k found) (here-or-later (record { base = map_address i; len = map_len s }) (maps_from (suc i) least) a n j e) where
      whole : maps_len (s ∷ least) ≡ map_len s + maps_len least
      whole = sum_by-cons map_len s least

      go : ((k : ℕ) → index_in (maps_from (suc i) least) a n ≡ Some k → k + n ≤ maps_len least)
          → ((map_address i ≤ a) × (a + n ≤ map_address i + map_len s) × (j ≡ a - map_address i)) ⊎ ((k : ℕ) × (index_in (maps_from (suc i) least) a n ≡ Some k) × (j ≡ map_len s + k))
          → j + n ≤ maps_len (s ∷ least)
      go rest (inl here) = omega (arith, whole, here.0, here.1, here.2)
      go rest (inr later) = let more = rest later.0 later.1 in omega (arith, whole, more, later.2)

-- runs lead to the same bytes there
next-bytes : (least : List MapShape) (run : Run) (bytes : List ℕ) (j : ℕ) → index_in (maps_from 0 least) run.address (length run.bytes) ≡ Some j
    → option_map_or (λ k. paste bytes k run.bytes) (index_in (maps_from 0 least) run.address (length run.bytes)) bytes ≡ paste bytes j run.bytes
next-bytes least run bytes j e = ap (λ (o : Option ℕ). option_map_or (λ k. paste bytes k run.bytes) o bytes) e

next-long : (least : List MapShape) (run : Run) (bytes : List ℕ) (j : ℕ) → index_in (maps_from 0 least) run.address (length run.bytes) ≡ Some j
    → length bytes ≡ maps_len least → length (paste bytes j run.bytes) ≡ maps_len least
next-long least run bytes j e long =
    let fits = inside 0 least run.address (length run.bytes) j e in
    paste-long bytes run.bytes j (omega (arith, fits, long)) ∙ long

pub pasted-long : (least : List MapShape) (runs : List Run) (bytes : List ℕ) → length bytes ≡ maps_len least → ArePresent least runs
    → length (pasted least runs bytes) ≡ maps_len least
pasted-long least [] bytes long there = long
pasted-long least (run ∷ runs) bytes long there =
    ap (λ b. length (pasted least runs b)) (next-bytes least run bytes there.0.0 there.0.1)
    ∙ pasted-long least runs (paste bytes there.0.0 run.bytes) (next-long least run bytes there.0.0 there.0.1 long) there.1

pub pasted-grown : (least shapes : List MapShape) (runs : List Run) (bytes : List ℕ) → Fits least shapes → length bytes ≡ maps_len least → AreIn runs
    → ArePresent least runs → pasted shapes runs (grown least shapes bytes) ≡ grown least shapes (pasted least runs bytes)
pasted-grown least shapes [] bytes fits long in' there = refl
pasted-grown least shapes (run ∷ runs) bytes fits long in' there =
    let j = there.0.0 in
    ap (pasted shapes runs) (grown-paste least shapes bytes run.bytes run.address j fits in'.1 long there.0.1)
    ∙ pasted-grown least shapes runs (paste bytes j run.bytes) fits (next-long least run bytes j there.0.1 long) in'.2 there.1
    ∙ ap (λ b. grown least shapes (pasted least runs b)) (sym (next-bytes least run bytes j there.0.1))

-- zeros are zeros there
grown-none : (shapes : List MapShape) (bytes : List ℕ) → grown [] shapes bytes ≡ replicate (maps_len shapes) 0
grown-none [] bytes = refl
grown-none (t ∷ shapes) bytes =
    let whole : maps_len (t ∷ shapes) ≡ map_len t + maps_len shapes = sum_by-cons map_len t shapes in
    ap (λ s. replicate (map_len t) 0 ++ s) (grown-none shapes bytes) ∙ replicate-append-replicate (map_len t) (maps_len shapes) 0
    ∙ ap (λ n. replicate n 0) (sym whole)

pub grown-zeros : (least shapes : List MapShape) → Fits least shapes → grown least shapes (replicate (maps_len least) 0) ≡ replicate (maps_len shapes) 0
grown-zeros [] shapes fits = grown-none shapes []
grown-zeros (s ∷ least) [] fits = refl
grown-zeros (s ∷ least) (t ∷ shapes) fits =
    let L = map_len s in
    let whole : maps_len (s ∷ least) ≡ L + maps_len least = sum_by-cons map_len s least in
    let all : maps_len (t ∷ shapes) ≡ map_len t + maps_len shapes = sum_by-cons map_len t shapes in
    let zeros : List ℕ = replicate (maps_len (s ∷ least)) 0 in
    let head : take L zeros ≡ replicate L 0 = take-replicate L (maps_len (s ∷ least)) 0 (omega (arith, whole)) in
    let tail : drop L zeros ≡ replicate (maps_len least) 0 = drop-replicate L (maps_len (s ∷ least)) 0 ∙ ap (λ n. replicate n 0) (omega (arith, whole)) in
    let more : L + (map_len t - L) ≡ map_len t = omega (arith, fits.0) in
    ap (λ h. (h ++ replicate (map_len t - L) 0) ++ grown least shapes (drop L zeros)) head
    ∙ ap (λ h. h ++ grown least shapes (drop L zeros)) (replicate-append-replicate L (map_len t - L) 0 ∙ ap (λ n. replicate n 0) more)
    ∙ ap (λ h. replicate (map_len t) 0 ++ grown least shapes h) tail ∙ ap (λ h. replicate (map_len t) 0 ++ h) (grown-zeros least shapes fits.2)
    ∙ replicate-append-replicate (map_len t) (maps_len shapes) 0 ∙ ap (λ n. replicate n 0) (sym all)

-- a run that is read there
pub grown-read : (least shapes : List MapShape) (bytes : List ℕ) (a n j : ℕ) → Fits least shapes → 1 ≤ n → length bytes ≡ maps_len least
    → index_in (maps_from 0 least) a n ≡ Some j
    → (k : ℕ) × (index_in (maps_from 0 shapes) a n ≡ Some k) × (slice_range (grown least shapes bytes) k (k + n) ≡ slice_range bytes j (j + n))
grown-read least shapes bytes a n j fits some long e =
    let at = run-at 0 least shapes bytes a n j fits some long e in
    let mine = take n (drop j bytes) in
    let size : length mine ≡ n = third-long bytes j n at.fits in
    let whole : grown least shapes bytes ≡ at.front ++ (mine ++ at.back) = ap (grown least shapes) (thirds bytes j n at.fits) ∙ at.with' mine size in
    let k = length at.front in
    let wide : (k + n) - k ≡ n = omega arith in
    let narrow : (j + n) - j ≡ n = omega arith in (
      k,
      at.there,
      ap (λ m. take m (drop k (grown least shapes bytes))) wide ∙ ap (λ b. take n (drop k b)) whole
          ∙ ap (take n) (drop-at at.front (mine ++ at.back) k refl)
          ∙ take_at mine at.back n size ∙ ap (λ m. take m (drop j bytes)) (sym narrow),
    )
