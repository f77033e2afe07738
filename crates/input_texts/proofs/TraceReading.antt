-- Lines of a file, one by one.
use Rattle.std.proofs.Common.{◌≡◌, ℕ, suc, ◌+◌, ◌<◌, ◌≤◌, Bool, true, false, cond, List, [], ◌∷◌, take, drop, length, Option, Some, None, ap, ap₂, refl, sym, ◌∙◌, arith}
use Rattle.std.specs.Prelude.{not, ◌==◌, ◌&&◌, if◌then◌else◌, is_none, is_some, MatchOption, nat_lt}
use Rattle.std.specs.Borrow.{Bor}
use Rattle.std.specs.List.{list_all, position_or_len}
use Rattle.std.proofs.lemmas.Bool.Decides.{nat_tests}
use Rattle.counted_io.specs.Cuts.{after, before, trim}
use Rattle.counted_io.specs.Lines.{lines, onto_line}
use Rattle.input_texts.specs.TraceFaults.{first_bad, misfit, wrong_in}
use Rattle.input_texts.specs.TraceForms.{are_of_trace, are_values, fits, form_in, is_value, tells, told_of, words_of}
use Rattle.input_texts.specs.declared.trace_fault.BadLine.{BadLine}
use Rattle.input_texts.specs.declared.trace_fault.LineFault.{LineFault}
use Rattle.input_texts.specs.declared.trace_fault.LineFault.TheVariants.{Long, NoForm}
use Rattle.input_texts.specs.declared.trace_form.Form.{Form}
use Rattle.input_texts.specs.declared.trace_form.Form.TheVariants.{Registers, Steps}

-- a line is what stands before the first line feed
cut-by : (b : ℕ) (bytes : List ℕ) (n : ℕ) (v : Bool) → onto_line b (lines bytes) ≡ (b ∷ take n bytes) ∷ lines (drop (n + 1) bytes)
    → cond v ([] ∷ lines bytes) (onto_line b (lines bytes))
    ≡ take (cond (not v) (1 + n) 0) (b ∷ bytes) ∷ lines (drop (cond (not v) (1 + n) 0 + 1) (b ∷ bytes))
cut-by b bytes n true onto = refl
cut-by b bytes n false onto =
    let one : suc n ≡ 1 + n = omega arith in
    let two : suc (n + 1) ≡ 1 + n + 1 = omega arith in
    onto ∙ ap₂ (λ (m k : ℕ). take m (b ∷ bytes) ∷ lines (drop k (b ∷ bytes))) one two

lines-cut : (b : ℕ) (bytes : List ℕ) → lines (b ∷ bytes) ≡ before 10 (b ∷ bytes) ∷ lines (after 10 (b ∷ bytes))
lines-cut b [] = cut-by b [] 0 (b == 10) refl
lines-cut b (c ∷ bytes) = cut-by b (c ∷ bytes) (position_or_len (λ d. d == 10) (c ∷ bytes)) (b == 10) (ap (onto_line b) (lines-cut c bytes))

pub lines-first : (s : List ℕ) → 0 < length s → lines s ≡ before 10 s ∷ lines (after 10 s)
lines-first [] some = absurd (omega (arith, some))
lines-first (b ∷ bytes) some = lines-cut b bytes

pub lines-none : (s : List ℕ) → length s ≡ 0 → lines s ≡ []
lines-none [] e = refl
lines-none (b ∷ bytes) e = absurd (omega (arith, e))

-- there are no more of them than bytes
short-onto : (b : ℕ) (ls : List (List ℕ)) (n : ℕ) → length ls ≤ n → length (onto_line b ls) ≤ suc n
short-onto b [] n h = omega arith
short-onto b (l ∷ ls) n h = omega (arith, h)

short-by : (v : Bool) (b : ℕ) (ls : List (List ℕ)) (n : ℕ) → length ls ≤ n → length (cond v ([] ∷ ls) (onto_line b ls)) ≤ suc n
short-by true b ls n h = omega (arith, h)
short-by false b ls n h = short-onto b ls n h

pub lines-short : (s : List ℕ) → length (lines s) ≤ length s
lines-short [] = omega arith
lines-short (b ∷ bytes) = short-by (b == 10) b (lines bytes) (length bytes) (lines-short bytes)

-- lines that tell something
pub told-yes : (line : List ℕ) (ls : List (List ℕ)) → tells (trim line) ≡ true → told_of (line ∷ ls) ≡ trim line ∷ told_of ls
told-yes line ls e = rw e refl

pub told-no : (line : List ℕ) (ls : List (List ℕ)) → tells (trim line) ≡ false → told_of (line ∷ ls) ≡ told_of ls
told-no line ls e = rw e refl

-- lines with a fault
pub bad-yes : (form : Option Form) (k : ℕ) (line : List ℕ) (ls : List (List ℕ)) (fault : LineFault) → wrong_in form line ≡ Some fault
    → first_bad form k (line ∷ ls) ≡ Some (record { fault = fault; line = k })
bad-yes form k line ls fault e = rw e refl

pub bad-no : (form : Option Form) (k : ℕ) (line : List ℕ) (ls : List (List ℕ)) → wrong_in form line ≡ None
    → first_bad form k (line ∷ ls) ≡ first_bad form (suc k) ls
bad-no form k line ls e = rw e refl

-- a trace without a form has a line with a fault
quiet-by : (p q : Bool) → (if p then Some Long else if q then Some NoForm else None) ≡ None → q ≡ false
quiet-by true q e = absurd cc
quiet-by false true e = absurd cc
quiet-by false false e = refl

quiet : (line : List ℕ) → wrong_in None line ≡ None → tells (trim line) ≡ false
unfolding wrong_in
quiet line e = quiet-by _ (tells (trim line)) e

some-none : (bad : BadLine) → Some bad ≡ None → ⊥
some-none bad e = absurd cc

by-wrong : (k : ℕ) (line : List ℕ) (ls : List (List ℕ)) (w : Option LineFault) → wrong_in None line ≡ w → form_in (told_of (line ∷ ls)) ≡ None
    → first_bad None k (line ∷ ls) ≡ None → (form_in (told_of ls) ≡ None → first_bad None (suc k) ls ≡ None → ⊥) → ⊥
by-wrong k line ls (Some fault) is none clear more =
    some-none (record { fault = fault; line = k }) (sym (bad-yes None k line ls fault is) ∙ clear)
by-wrong k line ls None is none clear more =
    more (sym (ap form_in (told-no line ls (quiet line is))) ∙ none) (sym (bad-no None k line ls is) ∙ clear)

pub some-bad : (k : ℕ) (ls : List (List ℕ)) → form_in (told_of ls) ≡ None → first_bad None k ls ≡ None → ⊥
some-bad k [] none clear = absurd cc
some-bad k (line ∷ ls) none clear = by-wrong k line ls (wrong_in None line) refl none clear (some-bad (suc k) ls)

-- the words of a line of registers, of which k came before
unfoldable pub Values : ℕ → List (List ℕ) → Bool
Values k ws = (k + length ws == 12) && list_all is_value ws

pub values-start : (ws : List (List ℕ)) → Values 0 ws ≡ are_values ws
unfolding Values
values-start ws =
    let e : 0 + length ws ≡ length ws = omega arith in
    ap (λ (n : ℕ). (n == 12) && list_all is_value ws) e

and-false : (p : Bool) → (p && false) ≡ false
and-false true = refl
and-false false = refl

pub values-no : (k : ℕ) (w : List ℕ) (ws : List (List ℕ)) → is_value w ≡ false → Values k (w ∷ ws) ≡ false
unfolding Values
values-no k w ws e = rw e (and-false (k + suc (length ws) == 12))

pub values-short : (k : ℕ) → k < 12 → Values k [] ≡ false
unfolding Values
values-short k low = let e : (k + 0 == 12) ≡ false = grind (arith, nat_tests, low) in rw e refl

pub values-more : (k : ℕ) (w : List ℕ) (ws : List (List ℕ)) → is_value w ≡ true → Values k (w ∷ ws) ≡ Values (k + 1) ws
unfolding Values
values-more k w ws e =
    let same : k + suc (length ws) ≡ k + 1 + length ws = omega arith in
    rw e (ap (λ (n : ℕ). (n == 12) && list_all is_value ws) same)

pub values-all : (k : ℕ) → k ≡ 12 → Values k [] ≡ true
unfolding Values
values-all k e = rw e refl

pub values-long : (k : ℕ) (w : List ℕ) (ws : List (List ℕ)) → k ≡ 12 → Values k (w ∷ ws) ≡ false
unfolding Values
values-long k w ws e = let other : (k + suc (length ws) == 12) ≡ false = grind (arith, nat_tests, e) in rw other refl

-- whether there is none
pub none-is : (o : Option (Bor (List ℕ))) (b : Bool) → is_some o ≡ not b → b ≡ is_none o
none-is None true e = refl
none-is None false e = absurd cc
none-is (Some word) true e = absurd cc
none-is (Some word) false e = refl

-- at the end none is left
pub values-end : (k : ℕ) (ws new : List (List ℕ)) (o : Option (Bor (List ℕ))) → k ≡ 12
    → MatchOption o (ws ≡ []) (λ word. ws ≡ word.now ∷ new) → is_none o ≡ Values k ws
values-end k ws new None e next = sym (ap (Values k) next ∙ values-all k e)
values-end k ws new (Some word) e next = sym (ap (Values k) next ∙ values-long k word.now new e)

-- what a line has, by its form
pub fits-steps : (form : Form) (line : List ℕ) → form ≡ Steps → are_of_trace (words_of line) ≡ fits form line
unfolding fits
fits-steps form line e = rw e refl

pub fits-registers : (form : Form) (line : List ℕ) → form ≡ Registers → are_values (words_of line) ≡ fits form line
unfolding fits
fits-registers form line e = rw e refl

-- what is wrong with a line
pub wrong-long : (form : Option Form) (line : List ℕ) → 1024 < length line → wrong_in form line ≡ Some Long
unfolding wrong_in
wrong-long form line long = let e : nat_lt 1024 (length line) ≡ true = grind (arith, nat_tests, long) in rw e refl

pub wrong-told : (form : Option Form) (line : List ℕ) → length line ≤ 1024 → tells (trim line) ≡ true
    → wrong_in form line ≡ misfit form (trim line)
unfolding wrong_in
wrong-told form line short is =
    let e : nat_lt 1024 (length line) ≡ false = grind (arith, nat_tests, short) in rw (e, is) refl

pub wrong-quiet : (form : Option Form) (line : List ℕ) → length line ≤ 1024 → tells (trim line) ≡ false → wrong_in form line ≡ None
unfolding wrong_in
wrong-quiet form line short is =
    let e : nat_lt 1024 (length line) ≡ false = grind (arith, nat_tests, short) in rw (e, is) refl
