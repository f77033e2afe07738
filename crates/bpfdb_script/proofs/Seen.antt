-- A text of blanks and visible characters of ASCII is shown as it is.
use Rattle.std.proofs.Common.{◌≡◌, ◌+◌, ◌-◌, ◌<◌, ℕ, Bool, List, [], ◌∷◌, ◌++◌, true, false, drop, length, refl, sym, ap, ap₂, ◌∙◌, append_assoc, arith}
use Rattle.std.specs.Prelude.{◌&&◌, ◌||◌, ◌==◌, cond, flat_map, nat_le, nat_lt, not, slice_range}
use Rattle.std.specs.List.{list_all}
use Rattle.std.proofs.lemmas.Bool.Decides.{nat_tests}
use Rattle.std.proofs.lemmas.Grind.{common_steps}
use Rattle.std.proofs.lemmas.List.{length-append}
use Rattle.bstr.specs.Utf8.{Decoded, bad, decoded, good, or_replacement, pieces, spans_from}
use Rattle.bstr.proofs.lemmas.PieceLemmas.{spans-first, spans-nil}
use Rattle.bpfdb_script.specs.Shown.{among, is_as_it_is, shown, shown_char, shown_span}

the-second : (a c : Bool) (x y z : Decoded) → a ≡ false → c ≡ true → cond a x (cond c y z) ≡ y
the-second a c x y z e f = ap (λ t. cond t x (cond c y z)) e ∙ ap (λ t. cond t y z) f

is-one : (b : ℕ) (rest : List ℕ) → among 0x20 0x7E b ≡ true → decoded (b ∷ rest) ≡ good b 1
is-one b rest seen =
    let some : (length (b ∷ rest) == 0) ≡ false = grind (arith, nat_tests) in
    let small : nat_lt b 0x80 ≡ true = grind (arith, nat_tests) in
    the-second (length (b ∷ rest) == 0) (nat_lt b 0x80) (bad 0) (good b 1) _ some small

as-it-is : (b : ℕ) → among 0x20 0x7E b ≡ true → is_as_it_is false b ≡ true
as-it-is b seen = grind (arith, nat_tests)

one-byte : (front rest : List ℕ) (b : ℕ) → slice_range (front ++ b ∷ rest) (length front) (length front + 1) ≡ b ∷ []
one-byte front rest b = grind (arith, common_steps)

first-seen : (front rest : List ℕ) (b : ℕ) → among 0x20 0x7E b ≡ true
    → shown_span false (front ++ b ∷ rest) (length front, length front + 1, b) ≡ b ∷ []
first-seen front rest b seen =
    let whole = slice_range (front ++ b ∷ rest) (length front) (length front + 1) in
    ap (λ t. shown_char t whole) (as-it-is b seen) ∙ one-byte front rest b

first-span : (off : ℕ) (b : ℕ) (rest : List ℕ) → among 0x20 0x7E b ≡ true
    → spans_from off (pieces (b ∷ rest)) ≡ (off, off + 1, b) ∷ spans_from (off + 1) (pieces rest)
first-span off b rest seen =
    spans-first (b ∷ rest) off (omega arith)
    ∙ ap (λ (d : Decoded). (off, off + d.size, or_replacement d.char) ∷ spans_from (off + d.size) (pieces (drop d.size (b ∷ rest))))
    (is-one b rest seen)

seen-from : (front rest : List ℕ) → list_all (among 0x20 0x7E) rest ≡ true
    → flat_map (shown_span false (front ++ rest)) (spans_from (length front) (pieces rest)) ≡ rest
seen-from front [] all = ap (flat_map (shown_span false (front ++ []))) (spans-nil [] (length front) refl)
seen-from front (b ∷ rest) all =
    let seen : among 0x20 0x7E b ≡ true = grind (arith, nat_tests) in
    let others : list_all (among 0x20 0x7E) rest ≡ true = grind (arith, nat_tests) in
    let tell = shown_span false (front ++ b ∷ rest) in
    let text : (front ++ b ∷ []) ++ rest ≡ front ++ b ∷ rest = append_assoc front (b ∷ []) rest in
    let count : length (front ++ b ∷ []) ≡ length front + 1 = length-append front (b ∷ []) in
    let behind : flat_map tell (spans_from (length front + 1) (pieces rest)) ≡ rest =
    sym (ap₂ (λ t n. flat_map (shown_span false t) (spans_from n (pieces rest))) text count)
    ∙ seen-from (front ++ b ∷ []) rest others in
    ap (flat_map tell) (first-span (length front) b rest seen)
    ∙ ap₂ (λ s t. s ++ t) (first-seen front rest b seen) behind

pub seen-shown : (name : List ℕ) → list_all (among 0x20 0x7E) name ≡ true → shown name ≡ name
seen-shown name all = seen-from [] name all
