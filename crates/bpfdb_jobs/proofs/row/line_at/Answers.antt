-- Each turn looks at a row.
use Rattle.std.proofs.Common.{ℕ, ◌≡◌, ◌==◌, ◌<◌, ◌∙◌, true, false, List, ◌∷◌, length, ap, arith, refl, sym}
use Rattle.std.specs.List.{after_first, before_first}
use Rattle.std.proofs.lemmas.Grind.{common_steps}
use Rattle.counted_io.proofs.Cutting.{lines-cut}
use Rattle.counted_io.specs.Lines.{lines}
use Rattle.bpfdb_jobs.specs.Hints.{is_number, line_at, number_of}
use Rattle.bpfdb_jobs.proofs.row.line_at.Goals as goal

-- A row of the slot, and one of another slot.
found : (slot : ℕ) (row : List ℕ) (rows : List (List ℕ)) → is_number slot (before_first (λ b. b == 32) row) ≡ true
    → line_at slot (row ∷ rows) ≡ number_of (before_first (λ b. b == 32) (after_first (λ b. b == 32) row))
found slot row rows is = rw is refl

passed : (slot : ℕ) (row : List ℕ) (rows : List (List ℕ)) → is_number slot (before_first (λ b. b == 32) row) ≡ false
    → line_at slot (row ∷ rows) ≡ line_at slot rows
passed slot row rows isnt = rw isnt refl

pub returns-then-is_number : goal.returns-then-is_number
returns-then-is_number c =
    let l = c.loop-rest in
    let slot = c.args.slot in
    let row = c.sides.result.0.now in
    let others = c.sides.result.1.now in
    let more : 0 < length l.rest.now = grind (arith, common_steps) in
    let cut : lines l.rest.now ≡ row ∷ lines others =
    rw (c.sides.ensures.before, c.sides.ensures.after) (lines-cut l.rest.now more) in
    let is : is_number slot (before_first (λ b. b == 32) row) ≡ true =
    ap (is_number slot) (sym c.sides-in-loop-rest.ensures.before) ∙ sym c.is_number.ensures ∙ c.if-is_number.true in
    let word = c.sides-then-is_number.ensures.before ∙ ap (before_first (λ b. b == 32)) c.sides-in-loop-rest.ensures.after in
    c.number_of.ensures ∙ ap number_of word ∙ sym (found slot row (lines others) is) ∙ ap (line_at slot) (sym cut) ∙ l.invariant

pub loop-rest-preserved : goal.loop-rest-preserved
loop-rest-preserved c =
    let l = c.loop-rest in
    let slot = c.args.slot in
    let row = c.sides.result.0.now in
    let others = c.sides.result.1.now in
    let more : 0 < length l.rest.now = grind (arith, common_steps) in
    let cut : lines l.rest.now ≡ row ∷ lines others =
    rw (c.sides.ensures.before, c.sides.ensures.after) (lines-cut l.rest.now more) in
    let isnt : is_number slot (before_first (λ b. b == 32) row) ≡ false =
    ap (is_number slot) (sym c.sides-in-loop-rest.ensures.before) ∙ sym c.is_number.ensures ∙ c.if-is_number.false in
    sym (passed slot row (lines others) isnt) ∙ ap (line_at slot) (sym cut) ∙ l.invariant
