use Rattle.std.proofs.Common.{◌≡◌, ◌<◌, ℕ, Bool, false, List, [], ◌∷◌, ◌++◌, flat_map, length, arith, refl}
use Rattle.std.specs.Prelude.{if◌then◌else◌, codes, ◌==◌}
use Rattle.std.proofs.lemmas.Bool.Decides.{nat_tests}
use Rattle.bpfdb_script.specs.Texts.{break_text, watch_text, or_none}
use Rattle.bpfdb_script.proofs.breaks.are_none.Goals as goal

-- some breakpoints have a line
some-lines : (slots addresses : List ℕ) → 0 < length slots → flat_map break_text slots ++ flat_map watch_text addresses ≡ or_none (flat_map break_text slots ++ flat_map watch_text addresses)
some-lines [] addresses some = absurd (omega arith)
some-lines (slot ∷ slots) addresses some = refl

-- and so have some watches
other-lines : (slots addresses : List ℕ) (empty : Bool) → length slots ≡ 0 → empty ≡ (length addresses == 0) → (if empty then codes "none\n" else flat_map break_text slots ++ flat_map watch_text addresses) ≡ or_none (flat_map break_text slots ++ flat_map watch_text addresses)
other-lines (slot ∷ slots) addresses empty none is = absurd (omega (arith, none))
other-lines [] [] empty none is = rw is refl
other-lines [] (address ∷ addresses) empty none is =
    let some : empty ≡ false = grind (arith, nat_tests, is) in
    rw some refl

pub returns-then-not-is_empty : goal.returns-then-not-is_empty
returns-then-not-is_empty c =
    let some : 0 < length c.args.breaks.now = grind (arith, nat_tests, c.is_empty.ensures, c.if-not-is_empty.true) in
    some-lines c.args.breaks.now c.args.watches.now some

pub returns : goal.returns
returns c =
    let none : length c.args.breaks.now ≡ 0 = grind (arith, nat_tests, c.is_empty.ensures, c.if-not-is_empty.false) in
    other-lines c.args.breaks.now c.args.watches.now c.is_empty-2.result none c.is_empty-2.ensures
