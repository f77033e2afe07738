use Rattle.std.proofs.Common.{ℕ, ◌≡◌, false, true, arith, ap, refl, subst, sym, ◌∙◌}
use Rattle.bpf_entries.specs.Status.{has_ended}
use Rattle.bpf_steps.specs.Runs.{Steps}
use Rattle.counted_io.proofs.Appending.{WritesAfter-text}
use Rattle.bpf_trace.proofs.Lines.{Telling-broken, row_is, lines_start, lines_step, lines_ended, lines_all}
use Rattle.bpf_trace.proofs.Stepping.{Steps-none, Steps-more, next-program}
use Rattle.bpf_trace.proofs.trace.put_steps.Goals as goal

pub loop-k-init : goal.loop-k-init
loop-k-init g c = record {
  told = lines_start g.W.Write.contents c.args.writer.now c.args.so_far c.args.shown.now c.args.passed c.args.most c.args.cpu.now;
  steps = Steps-none c.args.cpu.now;
  program = refl;
}

pub told_in-requires-clause-text : goal.told_in-requires-clause-text
told_in-requires-clause-text g c = c.text_of_slot-place.ensures

pub told_in-requires-clause-members : goal.told_in-requires-clause-members
told_in-requires-clause-members g c = λ is. c.requires.words.members is c.from-slot.result

pub put_row-told-requires-clause-texts : goal.put_row-told-requires-clause-texts
put_row-told-requires-clause-texts g c = rw c.loop-k.invariant.program c.requires.words.texts

pub loop-k-preserved : goal.loop-k-preserved
loop-k-preserved g c =
    let on : has_ended c.loop-k.cpu.status ≡ false = ap has_ended (sym c.status.ensures) ∙ sym c.has_ended.ensures ∙ c.if-has_ended.false in
    rw (c.put_row-told.ensures.next, c.text_of_slot-place.ensures, c.from-slot.ensures, c.pc.ensures) (record {
      told = lines_step g.W.Write.contents c.args.writer.now c.args.so_far c.args.shown.now c.args.passed c.args.most c.args.cpu.now c.loop-k.k _ _ _ _ _ _ c.loop-k-test.true on c.loop-k.invariant.told (WritesAfter-text g.W.Write.contents _ _ _ _ _ _ (rw (c.told_in.ensures, rw c.text_of_slot-place.ensures at c.is_told.ensures, c.from-slot.ensures, c.pc.ensures) at c.put_row-told.ensures.text) (row_is _ _ _ _ _));
      steps = Steps-more _ _ _ c.loop-k.invariant.steps on;
      program = next-program c.loop-k.cpu ∙ c.loop-k.invariant.program;
    })

pub returns-then-has_ended-clause-text : goal.returns-then-has_ended-clause-text
returns-then-has_ended-clause-text g c =
    let over : has_ended c.loop-k.cpu.status ≡ true = ap has_ended (sym c.status.ensures) ∙ sym c.has_ended.ensures ∙ c.if-has_ended.true in
    lines_ended g.W.Write.contents c.args.writer.now c.args.so_far c.args.shown.now c.args.passed c.args.most c.args.cpu.now c.loop-k.k _ _ _ _ over c.loop-k.invariant.told

pub returns-in-Err-clause-text : goal.returns-in-Err-clause-text
returns-in-Err-clause-text g c =
    let on : has_ended c.loop-k.cpu.status ≡ false = ap has_ended (sym c.status.ensures) ∙ sym c.has_ended.ensures ∙ c.if-has_ended.false in
    let more = lines_step g.W.Write.contents c.args.writer.now c.args.so_far c.args.shown.now c.args.passed c.args.most c.args.cpu.now c.loop-k.k _ _ _ _ _ _ c.loop-k-test.true on c.loop-k.invariant.told (WritesAfter-text g.W.Write.contents _ _ _ _ _ _ (rw (c.told_in.ensures, rw c.text_of_slot-place.ensures at c.is_told.ensures, c.from-slot.ensures, c.pc.ensures) at c.put_row-told.ensures.text) (row_is _ _ _ _ _)) in
    Telling-broken g.W.Write.contents c.args.writer.now c.args.so_far _ _ _ _ (rw c.in-Err.is at more)

pub returns-then-has_ended-clause-taken : goal.returns-then-has_ended-clause-taken
returns-then-has_ended-clause-taken g c = record { steps = c.loop-k.invariant.steps; within = c.loop-k.auto.k-end }

pub returns-in-Err-clause-taken : goal.returns-in-Err-clause-taken
returns-in-Err-clause-taken g c =
    let on : has_ended c.loop-k.cpu.status ≡ false = ap has_ended (sym c.status.ensures) ∙ sym c.has_ended.ensures ∙ c.if-has_ended.false in
    let more = c.loop-k-test.true in
    record { steps = rw c.put_row-told.ensures.next (Steps-more _ _ _ c.loop-k.invariant.steps on); within = omega (arith, more) }

pub returns-clause-text : goal.returns-clause-text
returns-clause-text g c =
    let fin = c.loop-k-test.false in
    let within = c.loop-k.auto.k-end in
    lines_all g.W.Write.contents c.args.writer.now c.args.so_far c.args.shown.now c.args.passed c.args.most c.args.cpu.now c.loop-k.k _ _ _ _ (omega arith) c.loop-k.invariant.told

pub returns-clause-taken : goal.returns-clause-taken
returns-clause-taken g c =
    let fin = c.loop-k-test.false in
    let within = c.loop-k.auto.k-end in
    let all : c.loop-k.k ≡ c.args.most = omega arith in
    record { steps = subst (λ (n : ℕ). Steps c.args.cpu.now c.loop-k.cpu n) all c.loop-k.invariant.steps; within = omega arith }
