-- Wanted places: what more of them, and fewer, come to.
use Rattle.std.proofs.Common.{◌≡◌, ◌≤◌, ◌<◌, ◌↔◌, ℕ, suc, ◌+◌, ◌-◌, ◌%◌, ◌^◌, Bool, true, false, IsTrue, List, [], ◌∷◌, ◌++◌, length, length-append, filter, take, take_all, take_at, drop, get_or, flat_map, not, refl, sym, ap, ◌∙◌, inl, inr, arith}
use Rattle.std.specs.Prelude.{if◌then◌else◌, ◌||◌, ◌⊎◌}
use Rattle.std.proofs.lemmas.Bool.{cases_lt}
use Rattle.std.proofs.lemmas.List.{drop_more, drop_all, take-append-le}
use Rattle.bpf_origin.specs.declared.place.Place.{Place}
use Rattle.bpf_origin.specs.declared.place.Place.TheVariants.{Register, Byte}
use Rattle.bpf_origin.specs.declared.place.Part.{Part}
use Rattle.bpf_origin.specs.Places.{same, bytes_from, places_of}
use Rattle.bpf_origin.specs.Wanted.{is_in, want, want_all, handed}

-- No place that is wanted is lost by more of them.
want_grows_by : (b : Bool) (w : List Place) (p : Place) → length w ≤ length (if b then w else w ++ p ∷ [])
want_grows_by true w p = omega arith
want_grows_by false w p = omega (arith, length-append w (p ∷ []))

pub want_all_grows : (w ps : List Place) → length w ≤ length (want_all w ps)
unfolding want_all
want_all_grows w [] = omega arith
want_all_grows w (p ∷ ps) = omega (arith, want_grows_by (is_in p w) w p, want_all_grows (want w p) ps)

-- Wanting more keeps the first ones.
want_keeps_by : (n : ℕ) (b : Bool) (w : List Place) (p : Place) → n ≤ length w → take n (if b then w else w ++ p ∷ []) ≡ take n w
want_keeps_by n true w p within = refl
want_keeps_by n false w p within = take-append-le n w (p ∷ []) within

want_all_keeps : (n : ℕ) (w ps : List Place) → n ≤ length w → take n (want_all w ps) ≡ take n w
unfolding want_all
want_all_keeps n w [] within = refl
want_all_keeps n w (p ∷ ps) within =
    want_all_keeps n (want w p) ps (omega (arith, within, want_grows_by (is_in p w) w p)) ∙ want_keeps_by n (is_in p w) w p within

pub want_all_more : (w xs ys : List Place) → want_all w (xs ++ ys) ≡ want_all (want_all w xs) ys
unfolding want_all
want_all_more w [] ys = refl
want_all_more w (x ∷ xs) ys = want_all_more (want w x) xs ys

-- The bytes from the k-th one on.
run_next_by : (w : List Place) (a n m : ℕ) → n ≡ suc m → want_all w (bytes_from a n) ≡ want_all (want w (Byte (a % 2 ^ 64))) (bytes_from (suc a) m)
unfolding want_all bytes_from
run_next_by w a n m e = ap (λ k. want_all w (bytes_from a k)) e

pub run_next : (w : List Place) (a n k : ℕ) → k < n → want_all w (bytes_from (a + k) (n - k)) ≡ want_all (want w (Byte ((a + k) % 2 ^ 64))) (bytes_from (a + (k + 1)) (n - (k + 1)))
run_next w a n k low =
    let more : suc (a + k) ≡ a + (k + 1) = omega arith in
    run_next_by w (a + k) (n - k) (n - (k + 1)) (omega (arith, low))
    ∙ ap (λ b. want_all (want w (Byte ((a + k) % 2 ^ 64))) (bytes_from b (n - (k + 1)))) more

pub run_end : (w : List Place) (a n k : ℕ) → n ≡ k → want_all w (bytes_from (a + k) (n - k)) ≡ w
unfolding want_all bytes_from
run_end w a n k e =
    let none : n - k ≡ 0 = omega (arith, e) in
    ap (λ m. want_all w (bytes_from (a + k) m)) none

pub run_start : (w : List Place) (a n : ℕ) → want_all w (bytes_from a n) ≡ want_all w (bytes_from (a + 0) (n - 0))
run_start w a n =
    let zeroth : a ≡ a + 0 = omega arith in
    let all : n ≡ n - 0 = omega arith in
    ap (λ b. want_all w (bytes_from b n)) zeroth ∙ ap (λ m. want_all w (bytes_from (a + 0) m)) all

-- A wanted place that goes makes room.
filter_within : (p : Place → Bool) (ws : List Place) → length (filter p ws) ≤ length ws
filter_within p [] = omega arith
filter_within p (w ∷ ws) = by_test (p w) (filter_within p ws)
  where
    by_test : (b : Bool) → length (filter p ws) ≤ length ws → length (if b then w ∷ filter p ws else filter p ws) ≤ length (w ∷ ws)
    by_test true fits = omega (arith, fits)
    by_test false fits = omega (arith, fits)

pub fewer : (p : Place) (ws : List Place) → is_in p ws ≡ true → length (filter (λ q. not (same p q)) ws) < length ws
fewer p [] e = cc
fewer p (w ∷ ws) e = by_test (same p w) e (fewer p ws)
  where
    by_test : (b : Bool) → (b || is_in p ws) ≡ true → (is_in p ws ≡ true → length (filter (λ q. not (same p q)) ws) < length ws) → length (if not b then w ∷ filter (λ q. not (same p q)) ws else filter (λ q. not (same p q)) ws) < length (w ∷ ws)
    by_test true e rest = omega (arith, filter_within (λ q. not (same p q)) ws)
    by_test false e rest = omega (arith, rest e)

want_room_by : (b : Bool) (w : List Place) (p : Place) (n : ℕ) → length w < n → length (if b then w else w ++ p ∷ []) ≤ n
want_room_by true w p n low = omega (arith, low)
want_room_by false w p n low = omega (arith, low, length-append w (p ∷ []))

pub want_room : (w : List Place) (p : Place) (n : ℕ) → length w < n → length (want w p) ≤ n
want_room w p n low = want_room_by (is_in p w) w p n low

pub handed_told : (n : ℕ) (self kept new : List Place) (d r e : ℕ) → is_in (Register d r) self ≡ true → kept ≡ filter (λ q. not (same (Register d r) q)) self → length self ≤ n → e ≡ d - 1 → new ≡ take n (want kept (Register e r)) → new ≡ handed d r self
handed_told n self kept new d r e hit left fits below is =
    let low : length kept < n = omega (arith, ap length left, fewer (Register d r) self hit, fits) in
    is
    ∙ ap (λ k. take n (want kept (Register k r))) below
    ∙ take_all n (want kept (Register (d - 1) r)) (want_room kept (Register (d - 1) r) n low)
    ∙ ap (λ ws. want ws (Register (d - 1) r)) left
    ∙ sym (ap (λ (b : Bool). if b then want (filter (λ q. not (same (Register d r) q)) self) (Register (d - 1) r) else self) hit)

-- The first of some places, as many as there is room for, and whether these are all.
abbrev pub Fits : ℕ → List Place → List Place → Bool → Type 0
Fits n places kept all = (kept ≡ take n places) × (IsTrue all ↔ (length places ≤ n))

not_true : IsTrue false → ⊥
not_true e = cc

pub all_fit : (n : ℕ) (places kept : List Place) → kept ≡ take n places → length places ≤ n → kept ≡ places
all_fit n places kept is within = is ∙ take_all n places within

pub some_left : (n : ℕ) (places : List Place) → (IsTrue false ↔ (length places ≤ n)) → n < length places
some_left n places fits = by_order (cases_lt n (length places))
  where
    by_order : (n < length places) ⊎ (length places ≤ n) → n < length places
    by_order (inl over) = over
    by_order (inr within) = absurd (not_true (fits.1 within))

pub fit : (n : ℕ) (places kept : List Place) → kept ≡ places → length kept ≤ n → Fits n places kept true
fit n places kept is within =
    let fits : length places ≤ n = omega (arith, ap length is, within) in
    (is ∙ sym (take_all n places fits), (λ e. fits, λ f. refl))

pub cut_off : (n : ℕ) (places w ps kept : List Place) → places ≡ want_all w ps → Fits n w kept false → Fits n places kept false
cut_off n places w ps kept is fits =
    let over : n < length w = some_left n w fits.1 in (
      fits.0 ∙ sym (ap (take n) is ∙ want_all_keeps n w ps (omega (arith, over))),
      (λ e. absurd (not_true e), λ within. absurd (omega (arith, ap length is, want_all_grows w ps, over, within))),
    )

-- What becomes of one more place.
pub was_wanted : (n : ℕ) (w : List Place) (p : Place) → is_in p w ≡ true → length w ≤ n → Fits n (want w p) w true
was_wanted n w p there within = fit n (want w p) w (sym (ap (λ (b : Bool). if b then w else w ++ p ∷ []) there)) within

pub not_wanted : (n : ℕ) (w : List Place) (p : Place) → is_in p w ≡ false → length w ≡ n → Fits n (want w p) w false
not_wanted n w p missing full =
    let more : want w p ≡ w ++ p ∷ [] = ap (λ (b : Bool). if b then w else w ++ p ∷ []) missing in (
      sym (ap (take n) more ∙ take_at w (p ∷ []) n full),
      (λ e. absurd (not_true e), λ within. absurd (omega (arith, ap length more, length-append w (p ∷ []), full, within))),
    )

pub now_wanted : (n : ℕ) (w u : List Place) (p : Place) → is_in p w ≡ false → length w < n → u ≡ w ++ p ∷ [] → Fits n (want w p) u true
now_wanted n w u p missing low is =
    let more : want w p ≡ w ++ p ∷ [] = ap (λ (b : Bool). if b then w else w ++ p ∷ []) missing in
    fit n (want w p) u (is ∙ sym more) (omega (arith, ap length is, length-append w (p ∷ []), low))

pub run_cut : (n : ℕ) (v w u : List Place) (a m k : ℕ) → want_all v (bytes_from a m) ≡ want_all w (bytes_from (a + k) (m - k)) → k < m → Fits n (want w (Byte ((a + k) % 2 ^ 64))) u false → Fits n (want_all v (bytes_from a m)) u false
run_cut n v w u a m k inv low fits =
    cut_off n _ (want w (Byte ((a + k) % 2 ^ 64))) (bytes_from (a + (k + 1)) (m - (k + 1))) u (inv ∙ run_next w a m k low) fits

pub run_step : (n : ℕ) (v w u : List Place) (a m k : ℕ) → want_all v (bytes_from a m) ≡ want_all w (bytes_from (a + k) (m - k)) → k < m → Fits n (want w (Byte ((a + k) % 2 ^ 64))) u true → want_all v (bytes_from a m) ≡ want_all u (bytes_from (a + (k + 1)) (m - (k + 1)))
run_step n v w u a m k inv low fits =
    inv ∙ run_next w a m k low ∙ sym (ap (λ ws. want_all ws (bytes_from (a + (k + 1)) (m - (k + 1)))) (all_fit n _ u fits.0 (fits.1.0 refl)))

pub run_done : (n : ℕ) (v w : List Place) (a m k : ℕ) → want_all v (bytes_from a m) ≡ want_all w (bytes_from (a + k) (m - k)) → m ≡ k → length w ≤ n → Fits n (want_all v (bytes_from a m)) w true
run_done n v w a m k inv e within = fit n _ w (sym (inv ∙ run_end w a m k e)) within

-- The parts from the k-th one on.
parts_next : (w : List Place) (ps : List Part) (k : ℕ) (d : Part) → k < length ps → want_all w (flat_map places_of (drop k ps)) ≡ want_all (want_all w (places_of (get_or ps k d))) (flat_map places_of (drop (k + 1) ps))
parts_next w ps k d low =
    ap (λ qs. want_all w (flat_map places_of qs)) (drop_more ps k d low)
    ∙ want_all_more w (places_of (get_or ps k d)) (flat_map places_of (drop (k + 1) ps))

pub parts_cut : (n : ℕ) (v w u : List Place) (ps : List Part) (k : ℕ) (d : Part) → want_all v (flat_map places_of ps) ≡ want_all w (flat_map places_of (drop k ps)) → k < length ps → Fits n (want_all w (places_of (get_or ps k d))) u false → Fits n (want_all v (flat_map places_of ps)) u false
parts_cut n v w u ps k d inv low fits =
    cut_off n _ (want_all w (places_of (get_or ps k d))) (flat_map places_of (drop (k + 1) ps)) u (inv ∙ parts_next w ps k d low) fits

pub parts_step : (n : ℕ) (v w u : List Place) (ps : List Part) (k : ℕ) (d : Part) → want_all v (flat_map places_of ps) ≡ want_all w (flat_map places_of (drop k ps)) → k < length ps → Fits n (want_all w (places_of (get_or ps k d))) u true → want_all v (flat_map places_of ps) ≡ want_all u (flat_map places_of (drop (k + 1) ps))
parts_step n v w u ps k d inv low fits =
    inv ∙ parts_next w ps k d low ∙ sym (ap (λ ws. want_all ws (flat_map places_of (drop (k + 1) ps))) (all_fit n _ u fits.0 (fits.1.0 refl)))

pub parts_done : (n : ℕ) (v w : List Place) (ps : List Part) (k : ℕ) → want_all v (flat_map places_of ps) ≡ want_all w (flat_map places_of (drop k ps)) → k ≡ length ps → length w ≤ n → Fits n (want_all v (flat_map places_of ps)) w true
unfolding want_all
parts_done n v w ps k inv e within = fit n _ w (sym (inv ∙ ap (λ qs. want_all w (flat_map places_of qs)) (drop_all k ps (omega (arith, e))))) within
