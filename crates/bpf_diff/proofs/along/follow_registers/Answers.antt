use Rattle.std.proofs.Common.{◌≡◌, ◌∙◌, arith, inl, refl, reverse, subst, sym, take, true, ℕ}
use Rattle.bpf_trace.specs.Runs.{steps_of}
use Rattle.input_texts.specs.declared.trace_form.Form.TheVariants.{Registers}
use Rattle.bpf_diff.specs.Noted.{Along, AreNotes}
use Rattle.bpf_diff.proofs.Tracing.{Along-next, Along-start, behind-one, is_on, leaves, number-of, on-parts, stops}
use Rattle.bpf_diff.proofs.along.follow_registers.Goals as goal

pub loop-k-init : goal.loop-k-init
loop-k-init c = record { along = Along-start Registers c.args.limit c.args.cpu.now c.args.told.now; notes = c.requires }

pub take_step-taken-requires : goal.take_step-taken-requires
take_step-taken-requires c = on-parts c.loop-k.cpu c.next_told-line.result (sym c.goes_on.ensures ∙ c.if-not-goes_on.false)

pub returns-then-not-goes_on-clause-halts : goal.returns-then-not-goes_on-clause-halts
returns-then-not-goes_on-clause-halts c = record {
  left = c.loop-k.told;
  along = c.loop-k.invariant.along;
  next = leaves c.loop-k.told _ c.next_told-line.result c.next_told-line.ensures;
}

pub returns-then-not-goes_on-clause-stops : goal.returns-then-not-goes_on-clause-stops
returns-then-not-goes_on-clause-stops c =
    stops c.args.limit c.loop-k.k c.loop-k.cpu c.next_told-line.result (sym c.goes_on.ensures ∙ c.if-not-goes_on.true)

pub returns-then-not-goes_on-clause-notes : goal.returns-then-not-goes_on-clause-notes
returns-then-not-goes_on-clause-notes c = c.loop-k.invariant.notes

pub loop-k-preserved : goal.loop-k-preserved
loop-k-preserved c =
    let limit = c.args.limit in
    let x = c.args.cpu.now in
    let a = c.loop-k.cpu in
    let k = c.loop-k.k in
    let g = c.loop-k.invariant.along in
    let low = c.loop-k-test.true in
    let goes : is_on a c.next_told-line.result ≡ true = sym c.goes_on.ensures ∙ c.if-not-goes_on.false in
    let on = on-parts a c.next_told-line.result goes in
    let took = c.take_step-taken.ensures in
    record {
      along = rw took.next
          (Along-next limit x c.args.told.now a c.loop-k.told _ k c.next_told-line.result g
          (leaves c.loop-k.told _ c.next_told-line.result c.next_told-line.ensures) low goes);
      notes = rw (behind-one limit k x a g.steps low on)
          (c.note.ensures (reverse (take k (steps_of limit x))) a took (number-of limit k x a g.steps low) c.loop-k.invariant.notes);
    }

pub returns-clause-halts : goal.returns-clause-halts
returns-clause-halts c =
    let all : c.loop-k.k ≡ c.args.limit = omega (arith, c.loop-k-test.false, c.loop-k.auto.k-end) in
    record {
      left = c.loop-k.told;
      along = subst (λ (n : ℕ). Along Registers c.args.limit c.args.cpu.now c.args.told.now c.loop-k.cpu c.loop-k.told n) all c.loop-k.invariant.along;
      next = leaves c.loop-k.told _ c.next_told.result c.next_told.ensures;
    }

pub returns-clause-stops : goal.returns-clause-stops
returns-clause-stops c = inl (inl refl)

pub returns-clause-notes : goal.returns-clause-notes
returns-clause-notes c =
    let all : c.loop-k.k ≡ c.args.limit = omega (arith, c.loop-k-test.false, c.loop-k.auto.k-end) in
    subst (λ (n : ℕ). AreNotes (reverse (take n (steps_of c.args.limit c.args.cpu.now))) c.loop-k.notes.notes c.loop-k.notes.last) all
    c.loop-k.invariant.notes
