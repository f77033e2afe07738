-- The names of entries, and lines without their line feed.
use Rattle.std.proofs.Common.{◌≡◌, ◌≢◌, ◌+◌, ◌-◌, ◌<◌, ℕ, Bool, true, false, List, [], ◌∷◌, ◌++◌, append_assoc, codes, decimal, drop, get_or, length, reverse, take, ap, refl, sym, ◌∙◌, arith}
use Rattle.std.specs.Prelude.{◌==◌, if◌then◌else◌}
use Rattle.std.specs.Str.{bytes_eq}
use Rattle.std.proofs.lemmas.List.{append-nil, append_cancel_right, drop_more, reverse-append, take_more, take_rest}
use Rattle.std.proofs.lemmas.Slice.Eq.{bytes_eq-Decides}
use Rattle.counted_io.specs.Writing.{hexadecimal}
use Rattle.bpf_diff.specs.Against.{begins_place, entry_text, is_line, unplaced}

pub not_zero : (n : ℕ) → n ≢ 0 → (n == 0) ≡ false
not_zero n h = grind arith

-- the name of a register, and its value
pub register-text : (i n m : ℕ) → m ≡ i - 1 → i ≢ 0 → codes "r" ++ decimal m ++ codes ": " ++ hexadecimal n ≡ entry_text i n
register-text i n m e some =
    ap (λ (k : ℕ). codes "r" ++ decimal k ++ codes ": " ++ hexadecimal n) e
    ∙ ap (λ (b : Bool). if b then codes "slot: " ++ decimal n else codes "r" ++ decimal (i - 1) ++ codes ": " ++ hexadecimal n) (sym (not_zero i some))

-- the last byte of a text
snoc-last : (xs ys : List ℕ) (a b : ℕ) → xs ++ a ∷ [] ≡ ys ++ b ∷ [] → a ≡ b
snoc-last xs ys a b e =
    ap (λ (l : List ℕ). get_or l 0 0) (sym (reverse-append xs (a ∷ [])) ∙ ap reverse e ∙ reverse-append ys (b ∷ []))

both : (p q : Bool) (front line : List ℕ) → bytes_eq front line ≡ p → bytes_eq (line ++ codes "\n") (front ++ codes "\n") ≡ q → p ≡ q
both true true front line e f = refl
both false false front line e f = refl
both true false front line e f =
    let same = (bytes_eq-Decides front line).0 e in
    let is = (bytes_eq-Decides (line ++ codes "\n") (front ++ codes "\n")).1 (ap (λ (l : List ℕ). l ++ codes "\n") (sym same)) in
    absurd (let d = sym f ∙ is in cc)
both false true front line e f =
    let same = append_cancel_right line front (codes "\n") ((bytes_eq-Decides (line ++ codes "\n") (front ++ codes "\n")).0 f) in
    let is = (bytes_eq-Decides front line).1 (sym same) in
    absurd (let d = sym e ∙ is in cc)

-- with its line feed it is that text
pub line-yes : (text front line : List ℕ) (last : ℕ) → text ≡ front ++ last ∷ [] → last ≡ 10 → bytes_eq front line ≡ is_line text line
unfolding is_line
line-yes text front line last is feed =
    both _ _ front line refl refl
    ∙ ap (λ (b : ℕ). bytes_eq (line ++ codes "\n") (front ++ b ∷ [])) (sym feed)
    ∙ ap (bytes_eq (line ++ codes "\n")) (sym is)

not-true-is : (p : Bool) → (p ≡ true → ⊥) → false ≡ p
not-true-is true h = absurd (h refl)
not-true-is false h = refl

pub line-no : (text front line : List ℕ) (last : ℕ) → text ≡ front ++ last ∷ [] → last ≢ 10 → false ≡ is_line text line
unfolding is_line
line-no text front line last is other =
    not-true-is (bytes_eq (line ++ codes "\n") text)
    (λ same. other (sym (snoc-last line front 10 last ((bytes_eq-Decides (line ++ codes "\n") text).0 same ∙ is))))

pub line-none : (text line : List ℕ) → length text ≡ 0 → false ≡ is_line text line
unfolding is_line
line-none [] [] none = refl
line-none [] (b ∷ line) none = refl
line-none (t ∷ text) line none = absurd (omega (arith, none))

pub not-ten : (n : ℕ) → n ≢ 10 → (n == 10) ≡ false
not-ten n h = grind arith

-- a turn of the loop that looks for a place, where one begins and where none does
begins-by : (b : ℕ) (line : List ℕ) (here : Bool) → begins_place (b ∷ line) ≡ here → unplaced (b ∷ line) ≡ (if here then [] else b ∷ unplaced line)
begins-by b line here e = ap (λ (h : Bool). if h then [] else b ∷ unplaced line) e

from-here : (line : List ℕ) (k : ℕ) (here : Bool) → k < length line → here ≡ begins_place (take (length line - k) (drop k line))
    → begins_place (get_or line k 0 ∷ drop (k + 1) line) ≡ here
from-here line k here inside e = ap begins_place (sym (drop_more line k 0 inside) ∙ sym (take_rest line k)) ∙ sym e

pub unplaced-here : (line : List ℕ) (k : ℕ) → k < length line → true ≡ begins_place (take (length line - k) (drop k line))
    → unplaced line ≡ take k line ++ unplaced (drop k line) → take k line ≡ unplaced line
unplaced-here line k inside e h =
    sym (h
    ∙ ap (λ (s : List ℕ). take k line ++ unplaced s) (drop_more line k 0 inside)
    ∙ ap (λ (s : List ℕ). take k line ++ s) (begins-by (get_or line k 0) (drop (k + 1) line) true (from-here line k true inside e))
    ∙ append-nil (take k line))

pub unplaced-later : (line : List ℕ) (k : ℕ) → k < length line → false ≡ begins_place (take (length line - k) (drop k line))
    → unplaced line ≡ take k line ++ unplaced (drop k line) → unplaced line ≡ take (k + 1) line ++ unplaced (drop (k + 1) line)
unplaced-later line k inside e h =
    h
    ∙ ap (λ (s : List ℕ). take k line ++ unplaced s) (drop_more line k 0 inside)
    ∙ ap (λ (s : List ℕ). take k line ++ s) (begins-by (get_or line k 0) (drop (k + 1) line) false (from-here line k false inside e))
    ∙ sym (append_assoc (take k line) (get_or line k 0 ∷ []) (unplaced (drop (k + 1) line)))
    ∙ ap (λ (s : List ℕ). s ++ unplaced (drop (k + 1) line)) (sym (take_more line k 0 inside))
