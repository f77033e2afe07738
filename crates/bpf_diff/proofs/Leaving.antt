-- The places that are seen of two runs, and the last step that wrote one.
use Rattle.std.proofs.Common.{◌≡◌, ◌+◌, ◌-◌, ◌<◌, ◌≤◌, ℕ, zero, suc, Bool, true, false, cond, List, [], ◌∷◌, ◌++◌, codes, drop, length, Option, Some, None, refl, sym, ap, ap₂, ◌∙◌, ◌≢◌, arith, inl, inr}
use Rattle.std.specs.Prelude.{◌%◌, ◌^◌, ◌==◌, find, if◌then◌else◌, max, slice_get}
use Rattle.std.specs.Option.{option_or}
use Rattle.std.proofs.lemmas.Bool.{cases_lt}
use Rattle.std.proofs.lemmas.Bool.Decides.{nat_tests}
use Rattle.std.proofs.lemmas.List.{drop_more}
use Rattle.std.proofs.lemmas.List.Folds.{find-append}
use Rattle.std.proofs.lemmas.Option.{get_or_from_slice_get, slice_get_within}
use Rattle.bpf_entries.specs.Status.{has_ended}
use Rattle.bpf_isa.specs.declared.maps.MapShape.{MapShape}
use Rattle.bpf_steps.specs.Entries.{step_entry}
use Rattle.bpf_steps.specs.Next.{next}
use Rattle.bpf_steps.specs.Platform.{map_address}
use Rattle.bpf_steps.specs.Regions.{map_len}
use Rattle.bpf_steps.specs.Runs.{Advances}
use Rattle.bpf_steps.specs.State.{State}
use Rattle.bpf_origin.specs.Places.{bytes_from}
use Rattle.bpf_origin.specs.Writes.{writes}
use Rattle.bpf_origin.specs.declared.place.Place.{Place}
use Rattle.bpf_origin.specs.declared.place.Place.TheVariants.{Byte, Word}
use Rattle.bpf_trace.specs.Runs.{steps_of}
use Rattle.bpf_trace.proofs.Stepping.{Steps-none, drop_steps, next-program, none_ended, none_left, one_more_step, whole_run}
use Rattle.bpf_diff.specs.Differences.{side}
use Rattle.bpf_diff.specs.Outputs.{last_write, later, writer_line}
use Rattle.bpfdb_script.specs.SlotTexts.{SlotTexts}
use Rattle.bpf_diff.specs.Seen.{ends_otherwise, longer, longest, map_places, word_places, words_from}
use Rattle.bpf_diff.specs.declared.seen.Sides.{Sides}

-- the first of some places, place by place
module _ (test : Place → Bool) where
  first_if : Place → Option Place → Option Place
  first_if p rest = cond (test p) (Some p) rest

  pub is-here : (p : Place) (rest : Option Place) → test p ≡ true → Some p ≡ cond (test p) (Some p) rest
  is-here p rest e = sym (ap (λ (b : Bool). cond b (Some p) rest) e)

  pub isnt-here : (p : Place) (rest : Option Place) → test p ≡ false → cond (test p) (Some p) rest ≡ rest
  isnt-here p rest e = ap (λ (b : Bool). cond b (Some p) rest) e

  -- bytes
  pub bytes-start : (a n : ℕ) → find test (bytes_from (a + 0) (n - 0)) ≡ find test (bytes_from a n)
  bytes-start a n =
      let e : a + 0 ≡ a = omega arith in
      let f : n - 0 ≡ n = omega arith in
      ap₂ (λ (b m : ℕ). find test (bytes_from b m)) e f

  pub bytes-more : (a n i : ℕ) → i < n
      → find test (bytes_from (a + i) (n - i))
      ≡ cond (test (Byte ((a + i) % 2 ^ 64))) (Some (Byte ((a + i) % 2 ^ 64))) (find test (bytes_from (a + (i + 1)) (n - (i + 1))))
  unfolding bytes_from
  bytes-more a n i low =
      let e : n - i ≡ suc (n - (i + 1)) = omega (arith, low) in
      let f : suc (a + i) ≡ a + (i + 1) = omega arith in
      ap (λ (m : ℕ). find test (bytes_from (a + i) m)) e
      ∙ ap (λ (b : ℕ). cond (test (Byte ((a + i) % 2 ^ 64))) (Some (Byte ((a + i) % 2 ^ 64))) (find test (bytes_from b (n - (i + 1))))) f

  pub bytes-none : (a m : ℕ) → m ≡ 0 → find test (bytes_from a m) ≡ None
  unfolding bytes_from
  bytes-none a m e = ap (λ (n : ℕ). find test (bytes_from a n)) e

  -- words
  pub words-start : (n : ℕ) → find test (words_from 0 (n - 0)) ≡ find test (words_from 0 n)
  words-start n = let f : n - 0 ≡ n = omega arith in ap (λ (m : ℕ). find test (words_from 0 m)) f

  pub words-more : (n i : ℕ) → i < n
      → find test (words_from i (n - i)) ≡ cond (test (Word i)) (Some (Word i)) (find test (words_from (i + 1) (n - (i + 1))))
  unfolding words_from
  words-more n i low =
      let e : n - i ≡ suc (n - (i + 1)) = omega (arith, low) in
      let f : suc i ≡ i + 1 = omega arith in
      ap (λ (m : ℕ). find test (words_from i m)) e
      ∙ ap (λ (j : ℕ). cond (test (Word i)) (Some (Word i)) (find test (words_from j (n - (i + 1))))) f

  pub words-none : (i m : ℕ) → m ≡ 0 → find test (words_from i m) ≡ None
  unfolding words_from
  words-none i m e = ap (λ (n : ℕ). find test (words_from i n)) e

  -- maps
  drop-shape : (i : ℕ) (ms : List MapShape) (m : MapShape) → slice_get ms i ≡ Some m → drop i ms ≡ m ∷ drop (i + 1) ms
  drop-shape i ms m e =
      drop_more ms i m (slice_get_within ms i m e) ∙ ap (λ (x : MapShape). x ∷ drop (i + 1) ms) (get_or_from_slice_get ms i m m e)

  pub maps-more : (i : ℕ) (ms : List MapShape) (m : MapShape) → slice_get ms i ≡ Some m
      → find test (map_places i (drop i ms))
      ≡ option_or (find test (bytes_from (map_address i) (map_len m))) (find test (map_places (i + 1) (drop (i + 1) ms)))
  unfolding map_places
  maps-more i ms m e =
      let f : suc i ≡ i + 1 = omega arith in
      ap (λ (xs : List MapShape). find test (map_places i xs)) (drop-shape i ms m e)
      ∙ find-append test (bytes_from (map_address i) (map_len m)) (map_places (suc i) (drop (i + 1) ms))
      ∙ ap (λ (j : ℕ). option_or (find test (bytes_from (map_address i) (map_len m))) (find test (map_places j (drop (i + 1) ms)))) f

  -- the first of them is in this one, or behind it
  pub maps-first : (i : ℕ) (ms : List MapShape) (m : MapShape) (p : Place) → slice_get ms i ≡ Some m
      → Some p ≡ find test (bytes_from (map_address i) (map_len m)) → Some p ≡ find test (map_places i (drop i ms))
  maps-first i ms m p e is =
      sym
      (maps-more i ms m e
      ∙ ap (λ (found : Option Place). option_or found (find test (map_places (i + 1) (drop (i + 1) ms)))) (sym is))

  pub maps-past : (i : ℕ) (ms : List MapShape) (m : MapShape) → slice_get ms i ≡ Some m
      → None ≡ find test (bytes_from (map_address i) (map_len m))
      → find test (map_places (i + 1) (drop (i + 1) ms)) ≡ find test (map_places i (drop i ms))
  maps-past i ms m e is =
      sym
      (maps-more i ms m e
      ∙ ap (λ (found : Option Place). option_or found (find test (map_places (i + 1) (drop (i + 1) ms)))) (sym is))

  drop-all : (ms : List MapShape) (i : ℕ) → length ms ≤ i → drop i ms ≡ []
  drop-all [] zero low = refl
  drop-all [] (suc i) low = refl
  drop-all (x ∷ xs) zero low = absurd (omega (arith, low))
  drop-all (x ∷ xs) (suc i) low = drop-all xs i (omega (arith, low))

  pub maps-none : (i : ℕ) (ms : List MapShape) → length ms ≤ i → find test (map_places i (drop i ms)) ≡ None
  unfolding map_places
  maps-none i ms low = ap (λ (xs : List MapShape). find test (map_places i xs)) (drop-all ms i low)

-- the same of two sides
abbrev pub test_of : Sides → Place → Bool
test_of s = ends_otherwise s.context.now s.other.now s.first.now s.second.now

abbrev pub among_bytes : Sides → ℕ → ℕ → Option Place
among_bytes s a n = find (test_of s) (bytes_from a n)

abbrev pub among_words : Sides → ℕ → ℕ → Option Place
among_words s i n = find (test_of s) (words_from i n)

abbrev pub among_maps : Sides → ℕ → List MapShape → Option Place
among_maps s i ms = find (test_of s) (map_places i ms)

pub words-whole : (s : Sides) (n : ℕ) → n ≡ max (length s.first.now.trace) (length s.second.now.trace)
    → among_words s 0 n ≡ find (test_of s) (word_places s.first.now s.second.now)
words-whole s n e = ap (λ (m : ℕ). among_words s 0 m) e

-- the maps of two programs
pub longest-len : (xs ys : List MapShape) → length (longest xs ys) ≡ max (length xs) (length ys)
longest-len [] ys = omega arith
longest-len (x ∷ xs) [] = omega arith
longest-len (x ∷ xs) (y ∷ ys) = let rest = longest-len xs ys in omega (arith, rest)

abbrev pub longer_of : Option MapShape → Option MapShape → Option MapShape
longer_of None other = other
longer_of (Some shape) None = Some shape
longer_of (Some shape) (Some other) = Some (longer shape other)

pub longest-at : (xs ys : List MapShape) (i : ℕ) → slice_get (longest xs ys) i ≡ longer_of (slice_get xs i) (slice_get ys i)
longest-at [] ys i = refl
longest-at (x ∷ xs) [] zero = refl
longest-at (x ∷ xs) [] (suc i) = sym (alone (slice_get xs i))
  where
    alone : (o : Option MapShape) → longer_of o None ≡ o
    alone None = refl
    alone (Some shape) = refl
longest-at (x ∷ xs) (y ∷ ys) zero = refl
longest-at (x ∷ xs) (y ∷ ys) (suc i) = longest-at xs ys i

pub longest-of : (xs ys : List MapShape) (i : ℕ) (a b : Option MapShape) → a ≡ slice_get xs i → b ≡ slice_get ys i → slice_get (longest xs ys) i ≡ longer_of a b
longest-of xs ys i a b e f =
    longest-at xs ys i ∙ ap (λ (o : Option MapShape). longer_of o (slice_get ys i)) (sym e) ∙ ap (longer_of a) (sym f)

-- the last of some steps, k of which were taken
abbrev pub behind : ℕ → ℕ → ℕ → ℕ
behind k last zero = last
behind k last (suc n) = k + suc n

behind-later : (k last n : ℕ) (here : Bool) → behind k last (later n here) ≡ behind (k + 1) (if here then k + 1 else last) n
behind-later k last zero true = refl
behind-later k last zero false = refl
behind-later k last (suc n) here = omega arith

pub record Sought (p : Place) (limit : ℕ) (x y : State) (k last : ℕ) : Type 0 where
  pub same : y.program ≡ x.program
  pub within : last ≤ k
  pub rest : last_write p (steps_of limit x) ≡ behind k last (last_write p (steps_of (limit - k) y))

module _ (p : Place) (limit : ℕ) (x : State) where
  none-before : (n : ℕ) → n ≡ behind 0 0 n
  none-before zero = refl
  none-before (suc n) = omega arith

  pub Sought-start : Sought p limit x x 0 0
  Sought-start = record {
    same = refl;
    within = omega arith;
    rest =
        let all : limit ≡ limit - 0 = omega arith in
        none-before (last_write p (steps_of limit x)) ∙ ap (λ (n : ℕ). behind 0 0 (last_write p (steps_of n x))) all;
  }

  module _ (y : State) (k last : ℕ) (s : Sought p limit x y k last) where
    last-within : (here : Bool) → (if here then k + 1 else last) ≤ k + 1
    last-within true = omega arith
    last-within false = let w = s.within in omega (arith, w)

    pub Sought-step : k < limit → has_ended y.status ≡ false
        → Sought p limit x (next y) (k + 1) (if writes (next y) (step_entry y) p then k + 1 else last)
    unfolding last_write
    Sought-step low on =
        let left : limit - k ≡ suc (limit - (k + 1)) = omega (arith, low) in
        let here = writes (next y) (step_entry y) p in
        record {
          same = next-program y ∙ s.same;
          within = last-within here;
          rest =
              s.rest
              ∙ ap (λ (zs : List State). behind k last (last_write p zs)) (one_more_step (limit - k) (limit - (k + 1)) y left on)
              ∙ behind-later k last (last_write p (steps_of (limit - (k + 1)) (next y))) here;
        }

    pub Sought-wrote : k < limit → has_ended y.status ≡ false → (z : State) (here : Bool) (new : ℕ) → z ≡ next y
        → here ≡ writes (next y) (step_entry y) p → new ≡ (if here then k + 1 else last) → Sought p limit x z (k + 1) new
    Sought-wrote low on z here new e wrote is = rw (e, is, wrote) (Sought-step low on)

    pub Sought-ended : has_ended y.status ≡ true → last ≡ last_write p (steps_of limit x)
    unfolding last_write
    Sought-ended over =
        sym (s.rest ∙ ap (λ (zs : List State). behind k last (last_write p zs)) (none_ended (limit - k) y over))

    pub Sought-all : k ≡ limit → last ≡ last_write p (steps_of limit x)
    unfolding last_write
    Sought-all all =
        let e : limit - k ≡ 0 = omega (arith, all) in
        sym (s.rest ∙ ap (λ (zs : List State). behind k last (last_write p zs)) (none_left (limit - k) y e))

-- the steps behind so many, where a run may have ended before
drop-nothing : (n : ℕ) → drop {A = State} n [] ≡ []
drop-nothing zero = refl
drop-nothing (suc n) = refl

drop-past : (n s : ℕ) (xs : List State) → n ≤ s → drop n xs ≡ [] → drop s xs ≡ []
drop-past zero s xs low e = rw e (drop-nothing s)
drop-past (suc n) s [] low e = drop-nothing s
drop-past (suc n) zero (x ∷ xs) low e = absurd (omega (arith, low))
drop-past (suc n) (suc s) (x ∷ xs) low e = drop-past n s xs (omega (arith, low)) e

pub steps-behind : (limit s passed : ℕ) (x y : State) → s ≤ limit → Advances s x y passed
    → steps_of (limit - passed) y ≡ drop s (steps_of limit x)
steps-behind limit s passed x y within run = elim (cases_lt passed s) [
  | inl below ↦
      let gone = none_ended (limit - passed) y (run.all below) in
      let low = run.within in
      let cut = drop_steps passed limit x y run.steps (omega (arith, within, low)) in
      gone ∙ sym (drop-past passed s (steps_of limit x) run.within (cut ∙ gone))
  | inr past ↦
      let low = run.within in
      let e : passed ≡ s = omega (arith, past, low) in
      sym (ap (λ (n : ℕ). drop n (steps_of limit x)) (sym e) ∙ drop_steps passed limit x y run.steps (omega (arith, within, low)))
]

-- the line of the step with a number
not_zero : (n : ℕ) → n ≢ 0 → (n == 0) ≡ false
not_zero n h = grind arith

is_zero : (n : ℕ) → n ≡ 0 → (n == 0) ≡ true
is_zero n e = grind (arith, nat_tests, e)

pub line-of : (mark : List ℕ) (texts : SlotTexts) (n : ℕ) (xs : List State) → n ≢ 0 → side mark texts n (drop (n - 1) xs) ≡ writer_line mark texts n xs
unfolding writer_line
line-of mark texts n xs some = rw (not_zero n some) refl

pub line-none : (mark : List ℕ) (texts : SlotTexts) (n : ℕ) (xs : List State) → n ≡ 0 → mark ++ codes "not written\n" ≡ writer_line mark texts n xs
unfolding writer_line
line-none mark texts n xs none = rw (is_zero n none) refl

-- a run that is taken up
pub taken-up : (limit s passed c : ℕ) (x y z : State) → s ≤ limit → Advances s x y passed → Advances (limit - passed) y z c
    → Advances limit x z (passed + 0 + c)
taken-up limit s passed c x y z within run rest =
    let low = run.within in
    whole_run limit passed 0 c (limit - passed) x y y z run.steps (Steps-none y) (omega (arith, within, low)) (omega arith) rest
