-- The first register, then one each turn, and then where the machine stands.
use Rattle.std.proofs.Common.{◌≡◌, ◌+◌, ◌-◌, ◌<◌, ◌++◌, ℕ, suc, [], arith, refl, ap, ◌∙◌}
use Rattle.bpf_steps.specs.State.{State}
use Rattle.counted_io.proofs.Appending.{WritesAfter-WritesAfter}
use Rattle.bpfdb_script.specs.Texts.{registers_from, text_of_register, text_of_registers}
use Rattle.bpfdb_script.proofs.Telling.{Telling-start, Telling-step, Telling-end}
use Rattle.bpfdb_script.proofs.registers.put_state.Goals as goal

more : (x : State) (r n : ℕ) → registers_from x r (suc n) ≡ text_of_register x r ++ registers_from x (r + 1) n
unfolding registers_from
more x r n = refl

none : (x : State) (r : ℕ) → registers_from x r 0 ≡ []
unfolding registers_from
none x r = refl

next : (x : State) (r : ℕ) → r < 11 → registers_from x r (11 - r) ≡ text_of_register x r ++ registers_from x (r + 1) (11 - (r + 1))
next x r less = let n : 11 - r ≡ suc (11 - (r + 1)) = omega arith in ap (registers_from x r) n ∙ more x r (11 - (r + 1))

pub loop-number-init : goal.loop-number-init
loop-number-init g c = Telling-step _ _ _ _ _ _ _ _ _ _ _ (Telling-start _ _ _ _) (rw c.number_in-first.ensures at c.put_all-told.ensures) refl

pub loop-number-preserved : goal.loop-number-preserved
unfolding text_of_register
loop-number-preserved g c =
    Telling-step _ _ _ _ _ _ _ _ _ _ _ c.loop-number.invariant (rw (c.from.ensures, c.number_in-held.ensures) at c.put_all-told-in-loop-number.ensures)
    (next c.args.cpu.now c.loop-number.number (omega arith))

pub returns : goal.returns
unfolding text_of_registers
returns g c =
    let after = WritesAfter-WritesAfter g.W.Write.contents in
    let n : 11 - c.loop-number.number ≡ 0 = omega arith in
    let shown = Telling-end _ _ _ _ _ _ _ c.loop-number.invariant (ap (registers_from c.args.cpu.now c.loop-number.number) n ∙ none c.args.cpu.now c.loop-number.number) in
    let ended = after _ _ _ _ _ _ _ _ _ shown c.put-ended.ensures refl in
    let placed = after _ _ _ _ _ _ _ _ _ ended c.put_place-placed.ensures refl in
    after _ _ _ _ _ _ _ _ _ placed c.put.ensures refl
