use Rattle.std.proofs.Common.{◌≡◌, ◌∙◌, ap, arith, inl, inr, refl, subst, sym, ℕ}
use Rattle.bpf_entries.specs.Status.{has_ended}
use Rattle.input_texts.specs.declared.trace_form.Form.TheVariants.{Steps}
use Rattle.bpf_diff.specs.Noted.{Along}
use Rattle.bpf_diff.proofs.Tracing.{Along-start, leaves, steps-next, steps-otherwise, took-start}
use Rattle.bpf_diff.proofs.along.follow_steps.Goals as goal

pub loop-k-init : goal.loop-k-init
loop-k-init c = Along-start Steps c.args.limit c.args.cpu.now c.args.told.now

pub is_step_told-requires : goal.is_step_told-requires
is_step_told-requires c = took-start c.loop-k.cpu c.take_step-taken.new.cpu c.take_step-taken.result c.take_step-taken.ensures

pub returns-then-has_ended : goal.returns-then-has_ended
returns-then-has_ended c = (
  record {
    left = c.loop-k.told;
    along = c.loop-k.invariant;
    next = leaves c.loop-k.told _ c.next_told-line.result c.next_told-line.ensures;
  },
  inr (ap has_ended (sym c.status.ensures) ∙ sym c.has_ended.ensures ∙ c.if-has_ended.true),
)

pub returns-then-not-is_told : goal.returns-then-not-is_told
returns-then-not-is_told c = (
  c.loop-k.cpu,
  record {
    left = c.loop-k.told;
    along = c.loop-k.invariant;
    next = leaves c.loop-k.told _ c.next_told-line.result c.next_told-line.ensures;
  },
  c.loop-k-test.true,
  ap has_ended (sym c.status.ensures) ∙ sym c.has_ended.ensures ∙ c.if-has_ended.false,
  c.take_step-taken.ensures,
  steps-otherwise c.loop-k.k c.loop-k.cpu c.next_told-line.result (sym (c.in-Ok.ensures c.loop-k.cpu c.take_step-taken.ensures) ∙ c.if-not-is_told.true),
)

pub loop-k-preserved : goal.loop-k-preserved
loop-k-preserved c =
    let took = c.take_step-taken.ensures in
    rw took.next
    (steps-next c.args.limit c.args.cpu.now c.args.told.now c.loop-k.cpu c.loop-k.told _ c.loop-k.k c.next_told-line.result c.loop-k.invariant
    (leaves c.loop-k.told _ c.next_told-line.result c.next_told-line.ensures) c.loop-k-test.true (ap has_ended (sym c.status.ensures) ∙ sym c.has_ended.ensures ∙ c.if-has_ended.false)
    (sym (c.in-Ok.ensures c.loop-k.cpu took) ∙ c.if-not-is_told.false))

pub returns : goal.returns
returns c =
    let all : c.loop-k.k ≡ c.args.limit = omega (arith, c.loop-k-test.false, c.loop-k.auto.k-end) in (
      record {
        left = c.loop-k.told;
        along = subst (λ (n : ℕ). Along Steps c.args.limit c.args.cpu.now c.args.told.now c.loop-k.cpu c.loop-k.told n) all c.loop-k.invariant;
        next = leaves c.loop-k.told _ c.next_told.result c.next_told.ensures;
      },
      inl refl,
    )
