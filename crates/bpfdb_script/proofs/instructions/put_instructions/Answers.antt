use Rattle.std.proofs.Common.{◌≡◌, ◌+◌, ◌-◌, ◌++◌, codes, ℕ, zero, suc, [], Some, None, refl, sym, ap, ◌∙◌, arith}
use Rattle.bpf_isa.specs.Programs.{Checked, insn_at, slots_of}
use Rattle.bpf_isa.specs.declared.instruction.Insn.{Insn}
use Rattle.counted_io.proofs.Appending.{WritesAfter-WritesAfter}
use Rattle.bpfdb_script.specs.Texts.{instructions_from, text_at}
use Rattle.bpfdb_script.proofs.Telling.{Telling-start, Telling-step, Telling-end}
use Rattle.bpfdb_script.proofs.instructions.put_instructions.Goals as goal

more : (p : Checked) (at n : ℕ) (i : Insn) → insn_at p at ≡ Some i
    → instructions_from p at (suc n) ≡ (text_at p at ++ codes "\n") ++ instructions_from p (at + slots_of i) n
unfolding instructions_from
more p at n i e = rw e refl

none : (p : Checked) (at n : ℕ) → insn_at p at ≡ None → instructions_from p at n ≡ []
unfolding instructions_from
none p at zero e = refl
none p at (suc n) e = rw e refl

last : (p : Checked) (at : ℕ) → instructions_from p at 0 ≡ []
unfolding instructions_from
last p at = refl

pub loop-init : goal.loop-init
loop-init g c =
    let e : c.get-end.result - 0 ≡ c.args.span = omega (arith, c.get-end.ensures.value) in
    rw e (Telling-start _ _ _ _)

pub loop-preserved : goal.loop-preserved
loop-preserved g c =
    let p = c.args.program.now in
    let k = c.loop.counter in
    let left : c.get-end.result - k ≡ suc (c.get-end.result - (k + 1)) = omega (arith, c.loop-test.true) in
    rw c.slots-at.ensures.value
    (Telling-step _ _ _ _ _ _ _ _ _ _ _ c.loop.invariant
    (WritesAfter-WritesAfter g.W.Write.contents _ _ _ _ _ _ _ _ _ c.put_at-shown.ensures c.put-told.ensures refl)
    (ap (instructions_from p c.loop.at) left ∙ more p c.loop.at _ c.in-Some.insn (sym c.in-Some.ensures)))

pub returns-in-None : goal.returns-in-None
returns-in-None g c = Telling-end _ _ _ _ _ _ _ c.loop.invariant (none c.args.program.now c.loop.at _ (sym c.in-None.ensures))

pub returns : goal.returns
returns g c =
    let left : c.get-end.result - c.loop.counter ≡ 0 = omega (arith, c.loop-test.false) in
    Telling-end _ _ _ _ _ _ _ c.loop.invariant
    (ap (instructions_from c.args.program.now c.loop.at) left ∙ last c.args.program.now c.loop.at)
