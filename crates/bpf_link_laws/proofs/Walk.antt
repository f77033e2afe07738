-- The walk through the stores of one map.
use Rattle.std.proofs.Common.{◌≡◌, ◌≤◌, ◌<◌, ◌⊎◌, ◌+◌, ◌*◌, ◌/◌, ◌%◌, ◌^◌, ◌==◌, ℕ, zero, suc, Bool, true, false, List, [], ◌++◌, Some, length, inl, inr, refl, sym, ap, subst, ◌∙◌, arith, append_assoc, length-append}
use Rattle.std.specs.Prelude.{slice_index, if◌then◌else◌}
use Rattle.std.proofs.lemmas.Bool.{cases_lt}
use Rattle.std.proofs.lemmas.Bool.Decides.{nat_tests}
use Rattle.std.proofs.lemmas.List.{append-nil}
use Rattle.std.specs.Int.{w16, cast_signed}
use Rattle.bpf_isa.specs.declared.instruction.WideValue.TheVariants.{Number, MapValue}
use Rattle.bpf_isa.specs.Programs.{Checked, IsProgram, IsStart}
use Rattle.bpf_steps.specs.Numbers.{wrap}
use Rattle.bpf_steps.specs.Platform.{map_base, map_address}
use Rattle.bpf_steps.specs.Regions.{Image, index_of, with_number}
use Rattle.bpf_steps.proofs.ByAddress.{past_frames}
use Rattle.bpf_link.specs.Layout.{u64_at}
use Rattle.bpf_link.specs.Setup.{place_words, store_words, with_store, with_stores}
use Rattle.bpf_link_laws.proofs.Numbers.{offset_is}
use Rattle.bpf_link_laws.proofs.Slots.{Stands, place_bytes, number_bytes, store_bytes, place_here, number_here, small_here, store_here}
use Rattle.bpf_link_laws.proofs.Steps.{Gone, go, step_place, step_number, step_store}
use Rattle.bpf_link_laws.proofs.Filling.{Filled, AreZero, IsSmallPiece, piece, skipped, stored, next_there}

-- A machine that has run some bytes of its program, from the first ones on, stands behind them.
pub record At (program : Checked) (context : List ℕ) (least : ℕ) (done : List ℕ) (a b : ℕ) (m : Image) : Type 0 where
  pub p : ℕ
  pub place : length done ≡ 8 * p
  pub start : IsStart program p
  pub low : least ≤ p
  pub gone : Gone program context least p a b m

pub stand : (program : Checked) (p : ℕ) (done words rest : List ℕ) → program.bytes ≡ done ++ (words ++ rest) → length done ≡ 8 * p → Stands program.bytes p words
stand program p done words rest e place = record { before = done; behind = rest; place = place; whole = e }

-- `ldmapval r3`.
placed : (program : Checked) (context : List ℕ) (least : ℕ) (done rest : List ℕ) (a b map high : ℕ) (m : Image) → IsProgram program → program.bytes ≡ done ++ (place_bytes map high ++ rest) → At program context least done a b m
    → At program context least (done ++ place_bytes map high) (map_address map + 256 * high) b m
placed program context least done rest a b map high m is e x =
    let here = place_here program x.p map high is x.start (stand program x.p done (place_bytes map high) rest e x.place) in
    let more = length-append done (place_bytes map high) in
    record {
      p = x.p + 2;
      place = omega (arith, more, x.place);
      start = is.falls x.p _ here tt;
      low = omega (arith, x.low);
      gone = go program context least x.p a b (x.p + 2) (map_address map + 256 * high) b m m x.gone (λ some. x.low) (step_place program context x.p a b m (MapValue map (256 * high)) here);
    }

-- `lddw r4`.
loaded : (program : Checked) (context : List ℕ) (least : ℕ) (done rest image : List ℕ) (a b at : ℕ) (m : Image) → IsProgram program
    → program.bytes ≡ done ++ (number_bytes (slice_index image at) (slice_index image (at + 1)) (slice_index image (at + 2)) (slice_index image (at + 3)) (slice_index image (at + 4)) (slice_index image (at + 5)) (slice_index image (at + 6)) (slice_index image (at + 7)) ++ rest)
    → At program context least done a b m
    → At program context least (done ++ number_bytes (slice_index image at) (slice_index image (at + 1)) (slice_index image (at + 2)) (slice_index image (at + 3)) (slice_index image (at + 4)) (slice_index image (at + 5)) (slice_index image (at + 6)) (slice_index image (at + 7))) a (piece image at) m
loaded program context least done rest image a b at m is e x =
    let words = number_bytes (slice_index image at) (slice_index image (at + 1)) (slice_index image (at + 2)) (slice_index image (at + 3)) (slice_index image (at + 4)) (slice_index image (at + 5)) (slice_index image (at + 6)) (slice_index image (at + 7)) in
    let here = number_here program x.p _ _ _ _ _ _ _ _ is x.start (stand program x.p done words rest e x.place) in
    let more = length-append done words in
    record {
      p = x.p + 2;
      place = omega (arith, more, x.place);
      start = is.falls x.p _ here tt;
      low = omega (arith, x.low);
      gone = go program context least x.p a b (x.p + 2) a (piece image at) m m x.gone (λ some. x.low) (step_number program context x.p a b m (Number (piece image at)) here);
    }

small : (program : Checked) (context : List ℕ) (least : ℕ) (done rest image : List ℕ) (a b at : ℕ) (m : Image) → IsProgram program
    → program.bytes ≡ done ++ (number_bytes (slice_index image at) (slice_index image (at + 1)) (slice_index image (at + 2)) (slice_index image (at + 3)) (slice_index image (at + 4)) (slice_index image (at + 5)) (slice_index image (at + 6)) (slice_index image (at + 7)) ++ rest)
    → At program context least done a b m → IsSmallPiece image at
small program context least done rest image a b at m is e x =
    small_here program x.p _ _ _ _ _ _ _ _ is x.start (stand program x.p done (number_bytes (slice_index image at) (slice_index image (at + 1)) (slice_index image (at + 2)) (slice_index image (at + 3)) (slice_index image (at + 4)) (slice_index image (at + 5)) (slice_index image (at + 6)) (slice_index image (at + 7))) rest e x.place)

-- `stxdw [r3+OFFSET], r4`.
kept : (program : Checked) (context : List ℕ) (least : ℕ) (done rest : List ℕ) (a b offset to at : ℕ) (m : Image) → IsProgram program → program.bytes ≡ done ++ (store_bytes (offset % 256) (offset / 256 % 256) ++ rest)
    → offset < 32768 → a + offset ≡ to → to < 2 ^ 64 → map_base ≤ to → index_of m to 8 ≡ Some at → At program context least done a b m
    → At program context least (done ++ store_bytes (offset % 256) (offset / 256 % 256)) a b (with_number m at 8 (b % 2 ^ 64))
kept program context least done rest a b offset to at m is e short sum fits high there x =
    let words = store_bytes (offset % 256) (offset / 256 % 256) in
    let here = store_here program x.p (offset % 256) (offset / 256 % 256) is x.start (stand program x.p done words rest e x.place) in
    let signed = offset_is offset short in
    let where_to : (a + wrap 64 (cast_signed w16 (offset % 256 + 256 * (offset / 256 % 256)))) % 2 ^ 64 ≡ to = ap (λ d. (a + wrap 64 d) % 2 ^ 64) signed ∙ omega arith in
    let more = length-append done words in
    record {
      p = x.p + 1;
      place = omega (arith, more, x.place);
      start = is.falls x.p _ here tt;
      low = omega (arith, x.low);
      gone = go program context least x.p a b (x.p + 1) a b m (with_number m at 8 (b % 2 ^ 64)) x.gone (λ some. x.low)
          (step_store program context x.p a b m (cast_signed w16 (offset % 256 + 256 * (offset / 256 % 256))) to at here where_to (past_frames 1 to (omega arith)) there);
    }

-- What is known after some pieces of a map.
abbrev Points : ℕ → ℕ → ℕ → Type 0
Points base a n = (8 * n % 32768 ≡ 0) ⊎ (a ≡ base + 8 * n / 32768 * 32768)

pub record Walked (program : Checked) (context : List ℕ) (least : ℕ) (done : List ℕ) (old : Image) (base : ℕ) (image : List ℕ) (n : ℕ) : Type 0 where
  pub a : ℕ
  pub b : ℕ
  pub m : Image
  pub at : At program context least done a b m
  pub points : Points base a n
  pub filled : Filled old m base image n

-- Before a piece r3 is a place in the map.
record Pointed (program : Checked) (context : List ℕ) (least : ℕ) (done : List ℕ) (old : Image) (base : ℕ) (image : List ℕ) (n : ℕ) : Type 0 where
  a : ℕ
  b : ℕ
  m : Image
  at : At program context least done a b m
  points : a ≡ base + 8 * n / 32768 * 32768
  filled : Filled old m base image n

points_now : (base a n : ℕ) → (8 * n % 32768 == 0) ≡ false → Points base a n → a ≡ base + 8 * n / 32768 * 32768
points_now base a n other (inl same) = grind (arith, nat_tests)
points_now base a n other (inr points) = points

points_next : (base a n : ℕ) → a ≡ base + 8 * n / 32768 * 32768 → Points base a (suc n)
points_next base a n points = elim (cases_lt (8 * n % 32768) 32760) [
  | inl low ↦ inr (omega arith)
  | inr high ↦ inl (omega arith)
]

is_whole : (n : ℕ) → (n % 32768 == 0) ≡ true → n % 32768 ≡ 0
is_whole n e = grind (arith, nat_tests)

abbrev place_part : ℕ → ℕ → Bool → List ℕ
place_part map at whole = if whole then place_words map at else []

pointed : (program : Checked) (context : List ℕ) (least : ℕ) (done rest : List ℕ) (old : Image) (map : ℕ) (image : List ℕ) (n : ℕ) (whole : Bool) → (8 * n % 32768 == 0) ≡ whole → IsProgram program → 8 * n < 65536
    → program.bytes ≡ done ++ (place_part map (8 * n) whole ++ rest) → Walked program context least done old (map_address map) image n
    → Pointed program context least (done ++ place_part map (8 * n) whole) old (map_address map) image n
pointed program context least done rest old map image n true test is short e x =
    let even = is_whole (8 * n) test in
    record {
      a = map_address map + 256 * (8 * n / 256 % 256);
      b = x.b;
      m = x.m;
      at = placed program context least done rest x.a x.b map (8 * n / 256 % 256) x.m is e x.at;
      points = omega arith;
      filled = x.filled;
    }
pointed program context least done rest old map image n false test is short e x = record {
  a = x.a;
  b = x.b;
  m = x.m;
  at = subst (λ words. At program context least words x.a x.b x.m) (sym (append-nil done)) x.at;
  points = points_now (map_address map) x.a n test x.points;
  filled = x.filled;
}

abbrev pub store_part : List ℕ → ℕ → Bool → List ℕ
store_part image at none = if none then [] else store_words image at (at % 32768)

is_none : (n : ℕ) → (n == 0) ≡ true → n ≡ 0
is_none n e = grind (arith, nat_tests)

pieced : (program : Checked) (context : List ℕ) (least : ℕ) (done rest : List ℕ) (old : Image) (map : ℕ) (image : List ℕ) (n : ℕ) (none : Bool) → (u64_at image (8 * n) == 0) ≡ none → IsProgram program → map < 16 → length image ≤ 65536
    → 8 * n + 8 ≤ length image → AreZero old (map_address map) image → program.bytes ≡ done ++ (store_part image (8 * n) none ++ rest) → Pointed program context least done old (map_address map) image n
    → Walked program context least (done ++ store_part image (8 * n) none) old (map_address map) image (suc n)
pieced program context least done rest old map image n true test is few long fits zeros e x = record {
  a = x.a;
  b = x.b;
  m = x.m;
  at = subst (λ words. At program context least words x.a x.b x.m) (sym (append-nil done)) x.at;
  points = points_next (map_address map) x.a n x.points;
  filled = skipped old x.m (map_address map) n image zeros fits (is_none (u64_at image (8 * n)) test) x.filled;
}
pieced program context least done rest old map image n false test is few long fits zeros e x =
    let at = 8 * n in
    let base = map_address map in
    let offset = 8 * n % 32768 in
    let number : List ℕ = number_bytes (slice_index image at) (slice_index image (at + 1)) (slice_index image (at + 2)) (slice_index image (at + 3)) (slice_index image (at + 4)) (slice_index image (at + 5)) (slice_index image (at + 6)) (slice_index image (at + 7)) in
    let store : List ℕ = store_bytes (offset % 256) (offset / 256 % 256) in
    let first : program.bytes ≡ done ++ (number ++ (store ++ rest)) = e in
    let second : program.bytes ≡ (done ++ number) ++ (store ++ rest) = first ∙ sym (append_assoc done number (store ++ rest)) in
    let there = next_there old x.m base n image zeros fits x.filled in
    let points = x.points in
    let one = loaded program context least done (store ++ rest) image x.a x.b at x.m is first x.at in
    let bytes = small program context least done (store ++ rest) image x.a x.b at x.m is first x.at in
    let two = kept program context least (done ++ number) rest x.a (piece image at) offset (base + 8 * n) there.0 x.m is second (omega arith) (omega arith) (omega arith) (omega arith) there.1 one in
    record {
      a = x.a;
      b = piece image at;
      m = with_number x.m there.0 8 (piece image at % 2 ^ 64);
      at = subst (λ words. At program context least words x.a (piece image at) (with_number x.m there.0 8 (piece image at % 2 ^ 64))) (append_assoc done number store) two;
      points = points_next base x.a n x.points;
      filled = stored old x.m base n there.0 image fits there.1 bytes x.filled;
    }

-- The words of a map come after those before it.
place_more : (map at : ℕ) (setup : List ℕ) (whole : Bool) → (if whole then setup ++ place_words map at else setup) ≡ setup ++ place_part map at whole
place_more map at setup true = refl
place_more map at setup false = sym (append-nil setup)

store_more : (image : List ℕ) (at : ℕ) (setup : List ℕ) (none : Bool) → (if none then setup else setup ++ store_words image at (at % 32768)) ≡ setup ++ store_part image at none
store_more image at setup true = sym (append-nil setup)
store_more image at setup false = refl

abbrev pub piece_part : ℕ → List ℕ → ℕ → List ℕ
piece_part map image n = place_part map (8 * n) (8 * n % 32768 == 0) ++ store_part image (8 * n) (u64_at image (8 * n) == 0)

pub one_more : (map : ℕ) (image setup : List ℕ) (n : ℕ) → with_stores map image setup (suc n) ≡ with_stores map image setup n ++ piece_part map image n
one_more map image setup n =
    let before = with_stores map image setup n in
    let place = place_part map (8 * n) (8 * n % 32768 == 0) in
    ap (with_store image (8 * n)) (place_more map (8 * n) before (8 * n % 32768 == 0))
    ∙ store_more image (8 * n) (before ++ place) (u64_at image (8 * n) == 0)
    ∙ append_assoc before place (store_part image (8 * n) (u64_at image (8 * n) == 0))

pub stores_more : (map : ℕ) (image setup : List ℕ) (n : ℕ) → (more : List ℕ) × (with_stores map image setup n ≡ setup ++ more)
stores_more map image setup zero = ([], sym (append-nil setup))
stores_more map image setup (suc n) =
    let rest = stores_more map image setup n in
    (rest.0 ++ piece_part map image n, one_more map image setup n ∙ ap (λ words. words ++ piece_part map image n) rest.1 ∙ append_assoc setup rest.0 (piece_part map image n))

four : (a b c d e : List ℕ) → a ++ ((b ++ (c ++ d)) ++ e) ≡ (a ++ b) ++ (c ++ (d ++ e))
four a b c d e = ap (λ xs. a ++ xs) (append_assoc b (c ++ d) e ∙ ap (λ xs. b ++ xs) (append_assoc c d e)) ∙ sym (append_assoc a b (c ++ (d ++ e)))

four_whole : (a b c d : List ℕ) → ((a ++ b) ++ c) ++ d ≡ a ++ (b ++ (c ++ d))
four_whole a b c d = append_assoc (a ++ b) c d ∙ append_assoc a b (c ++ d)

pub walk : (program : Checked) (context : List ℕ) (least : ℕ) (begin setup rest : List ℕ) (old : Image) (map : ℕ) (image : List ℕ) (a b n : ℕ) → IsProgram program → map < 16 → length image ≤ 65536 → 8 * n ≤ length image
    → AreZero old (map_address map) image → program.bytes ≡ begin ++ (with_stores map image setup n ++ rest) → Filled old old (map_address map) image 0 → At program context least (begin ++ setup) a b old
    → Walked program context least (begin ++ with_stores map image setup n) old (map_address map) image n
walk program context least begin setup rest old map image a b zero is few long fits zeros e empty x = record {
  a = a;
  b = b;
  m = old;
  at = x;
  points = inl refl;
  filled = empty;
}
walk program context least begin setup rest old map image a b (suc n) is few long fits zeros e empty x =
    let before = with_stores map image setup n in
    let place = place_part map (8 * n) (8 * n % 32768 == 0) in
    let store = store_part image (8 * n) (u64_at image (8 * n) == 0) in
    let whole = e ∙ ap (λ words. begin ++ (words ++ rest)) (one_more map image setup n) in
    let split : program.bytes ≡ (begin ++ before) ++ (place ++ (store ++ rest)) = whole ∙ four begin before place store rest in
    let known = walk program context least begin setup (place ++ (store ++ rest)) old map image a b n is few long (omega arith) zeros (split ∙ append_assoc begin before (place ++ (store ++ rest))) empty x in
    let at = pointed program context least (begin ++ before) (store ++ rest) old map image n (8 * n % 32768 == 0) refl is (omega arith) split known in
    let after = pieced program context least ((begin ++ before) ++ place) rest old map image n (u64_at image (8 * n) == 0) refl is few long (omega arith) zeros (split ∙ sym (append_assoc (begin ++ before) place (store ++ rest))) at in
    subst (λ words. Walked program context least words old (map_address map) image (suc n))
    (four_whole begin before place store ∙ ap (λ words. begin ++ words) (sym (one_more map image setup n))) after
