-- Registers get their numbers: the program stays, and r10.
use Rattle.std.proofs.Common.{ℕ, zero, suc, ◌≡◌, ◌==◌, ◌||◌, List, [], ◌∷◌, ◌++◌, Bool, true, false, not, Some, None, Result, Ok, Err, cond, refl, sym, ap, ◌∙◌, arith}
use Rattle.std.specs.Prelude.{OnOk, IfErr, nat_lt, slice_set}
use Rattle.std.specs.List.{filter, list_any}
use Rattle.std.proofs.lemmas.Bool.Decides.{nat_tests}
use Rattle.std.proofs.lemmas.List.{set-set}
use Rattle.bpf_entries.specs.declared.entry.Entry.{Entry}
use Rattle.bpf_machine.specs.Edits.{IsEditable, RefusesEdit, edited, unless}
use Rattle.bpf_machine.specs.declared.edit.Edit.TheVariants as edit
use Rattle.bpf_machine.specs.declared.edit.EditFault.{EditFault}
use Rattle.bpf_machine.specs.declared.edit.EditFault.TheVariants.{RegisterNotWritable}
use Rattle.bpf_steps.specs.State.{State}
use Rattle.bpf_suite.specs.Regs.{LastLinesCount, last_lines, names_again, with_reg, with_regs}
use Rattle.bpf_suite.specs.declared.regs.RegLine.{RegLine}

-- the program stays
kept-program : (x : State) (r value : ℕ) (b : Bool) → (cond b (edited x (edit.Register r value)) x).program ≡ x.program
unfolding edited
kept-program x r value true = refl
kept-program x r value false = refl

pub regs-program : (lines : List RegLine) (x : State) → (with_regs lines x).program ≡ x.program
regs-program [] x = refl
regs-program (line ∷ lines) x = regs-program lines (with_reg line x) ∙ kept-program x line.register line.value (nat_lt line.register 10)

-- an edit is made where it may be
may : (b : Bool) → unless b RegisterNotWritable ≡ None → b ≡ true
may true e = refl
may false e = cc

may-not : (b : Bool) (fault : EditFault) → unless b RegisterNotWritable ≡ Some fault → b ≡ false
may-not true fault e = cc
may-not false fault e = refl

pub edit-reg : (x y : State) (line : RegLine) (result : Result Entry EditFault) → OnOk result (IsEditable x (edit.Register line.register line.value))
    → OnOk result (y ≡ edited x (edit.Register line.register line.value)) → IfErr result (RefusesEdit x (edit.Register line.register line.value) y)
    → y ≡ with_reg line x
edit-reg x y line (Ok entry) can next why =
    next ∙ sym (ap (λ (b : Bool). cond b (edited x (edit.Register line.register line.value)) x) (may (nat_lt line.register 10) can))
edit-reg x y line (Err fault) can next why =
    why.same ∙ sym (ap (λ (b : Bool). cond b (edited x (edit.Register line.register line.value)) x) (may-not (nat_lt line.register 10) fault why.why))

-- equality of numbers, from both sides
eq-turned : (a b : ℕ) → (a == b) ≡ (b == a)
eq-turned a b = go (a == b) refl (b == a) refl where
  go : (p : Bool) → (a == b) ≡ p → (q : Bool) → (b == a) ≡ q → (a == b) ≡ (b == a)
  go true e true f = e ∙ sym f
  go false e false f = e ∙ sym f
  go true e false f = absurd (grind (arith, nat_tests))
  go false e true f = absurd (grind (arith, nat_tests))

-- the lines that count of some lines and one behind them
list_any-last : {X : Type 0} (p : X → Bool) (xs : List X) (y : X) → list_any p (xs ++ y ∷ []) ≡ (list_any p xs || p y)
list_any-last p [] y = go (p y) where
  go : (b : Bool) → (b || false) ≡ (false || b)
  go true = refl
  go false = refl
list_any-last p (x ∷ xs) y = go (p x) (list_any-last p xs y) where
  go : (b : Bool) → list_any p (xs ++ y ∷ []) ≡ (list_any p xs || p y) → (b || list_any p (xs ++ y ∷ [])) ≡ ((b || list_any p xs) || p y)
  go true rest = refl
  go false rest = rest

abbrev others : RegLine → List RegLine → List RegLine
others line lines = filter (λ other. not (other.register == line.register)) lines

pub last_lines-more : (lines : List RegLine) (line : RegLine) → last_lines (lines ++ line ∷ []) ≡ others line (last_lines lines) ++ line ∷ []
last_lines-more [] line = refl
last_lines-more (first ∷ lines) line = go (names_again first lines) refl (line.register == first.register) refl (last_lines-more lines line) where
  again : names_again first (lines ++ line ∷ []) ≡ (names_again first lines || (line.register == first.register))
  again = list_any-last (λ other. other.register == first.register) lines line

  turned : (line.register == first.register) ≡ (first.register == line.register)
  turned = eq-turned line.register first.register

  go : (a : Bool) → names_again first lines ≡ a → (b : Bool) → (line.register == first.register) ≡ b
      → last_lines (lines ++ line ∷ []) ≡ others line (last_lines lines) ++ line ∷ []
      → last_lines (first ∷ lines ++ line ∷ []) ≡ others line (last_lines (first ∷ lines)) ++ line ∷ []
  go true e b f rest = rw (again, e) rest
  go false e true f rest = rw (again, e, f) (rw (sym turned ∙ f) rest)
  go false e false f rest = rw (again, e, f) (rw (sym turned ∙ f) (ap (λ (ls : List RegLine). first ∷ ls) rest))

-- a register that gets a number again has the last one, and numbers of two registers may be swapped
set-swapped : {X : Type 0} (xs : List X) (i j : ℕ) (a b : X) → (j == i) ≡ false → slice_set (slice_set xs i a) j b ≡ slice_set (slice_set xs j b) i a
set-swapped [] i j a b e = refl
set-swapped (x ∷ xs) zero zero a b e = absurd (grind (arith, nat_tests))
set-swapped (x ∷ xs) zero (suc j) a b e = refl
set-swapped (x ∷ xs) (suc i) zero a b e = refl
set-swapped (x ∷ xs) (suc i) (suc j) a b e = ap (λ ys. x ∷ ys) (set-swapped xs i j a b (lower (j == i) refl)) where
  lower : (p : Bool) → (j == i) ≡ p → (j == i) ≡ false
  lower true f = absurd (grind (arith, nat_tests))
  lower false f = f

with_reg-again : (x : State) (line other : RegLine) → (other.register == line.register) ≡ true → with_reg other (with_reg line x) ≡ with_reg other x
unfolding edited
with_reg-again x line other e = go (nat_lt line.register 10) refl where
  same : other.register ≡ line.register
  same = grind (arith, nat_tests)

  go : (p : Bool) → nat_lt line.register 10 ≡ p → with_reg other (with_reg line x) ≡ with_reg other x
  go true here = rw (same, here) (ap (λ rs. record x { registers = rs }) (set-set x.registers line.register line.value other.value))
  go false here = rw here refl

with_reg-swapped : (x : State) (line other : RegLine) → (other.register == line.register) ≡ false
    → with_reg other (with_reg line x) ≡ with_reg line (with_reg other x)
unfolding edited
with_reg-swapped x line other e = go (nat_lt line.register 10) refl (nat_lt other.register 10) refl where
  go : (p : Bool) → nat_lt line.register 10 ≡ p → (q : Bool) → nat_lt other.register 10 ≡ q → with_reg other (with_reg line x) ≡ with_reg line (with_reg other x)
  go true here true there =
      rw (here, there) (ap (λ rs. record x { registers = rs }) (set-swapped x.registers line.register other.register line.value other.value e))
  go true here false there = rw (here, there) refl
  go false here q there = rw here refl

-- a line changes nothing in front of another line of its register
named-again : (line : RegLine) (lines : List RegLine) (x : State) → names_again line lines ≡ true → with_regs lines (with_reg line x) ≡ with_regs lines x
named-again line [] x e = cc
named-again line (other ∷ lines) x e = go (other.register == line.register) refl (named-again line lines (with_reg other x)) where
  go : (p : Bool) → (other.register == line.register) ≡ p
      → (names_again line lines ≡ true → with_regs lines (with_reg line (with_reg other x)) ≡ with_regs lines (with_reg other x))
      → with_regs (other ∷ lines) (with_reg line x) ≡ with_regs (other ∷ lines) x
  go true here rest = ap (with_regs lines) (with_reg-again x line other here)
  go false here rest =
      ap (with_regs lines) (with_reg-swapped x line other here) ∙ rest (sym (ap (λ p. p || names_again line lines) here) ∙ e)

pub last-lines-count : LastLinesCount
last-lines-count [] x = refl
last-lines-count (line ∷ lines) x = go (names_again line lines) refl (last-lines-count lines) where
  go : (p : Bool) → names_again line lines ≡ p → ((y : State) → with_regs (last_lines lines) y ≡ with_regs lines y)
      → with_regs (last_lines (line ∷ lines)) x ≡ with_regs (line ∷ lines) x
  go true e rest = ap (λ p. with_regs (cond p (last_lines lines) (line ∷ last_lines lines)) x) e ∙ rest x ∙ sym (named-again line lines x e)
  go false e rest = ap (λ p. with_regs (cond p (last_lines lines) (line ∷ last_lines lines)) x) e ∙ rest (with_reg line x)
