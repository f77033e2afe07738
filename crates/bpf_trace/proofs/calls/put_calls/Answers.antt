use Rattle.std.proofs.Common.{ℕ, ◌≡◌, ◌∙◌, false, true, arith, ap, sym}
use Rattle.bpf_entries.specs.Status.{has_ended}
use Rattle.bpf_steps.specs.Next.{next}
use Rattle.bpf_trace.specs.Calls.{pending_by}
use Rattle.bpf_trace.proofs.Calling.{calls_all, calls_ended, calls_start, calls_step, end-all, end-over, still-waiting}
use Rattle.bpf_trace.proofs.Lines.{Telling-broken, anyway}
use Rattle.bpf_trace.proofs.Stepping.{Steps-none, Steps-more}
use Rattle.bpf_trace.proofs.calls.put_calls.Goals as goal

pub loop-k-init : goal.loop-k-init
loop-k-init g c = record {
  told = calls_start g.W.Write.contents c.args.writer.now c.args.so_far c.args.called.now c.args.limit c.args.cpu.now;
  steps = Steps-none c.args.cpu.now;
  waits = tt;
}

pub loop-k-preserved : goal.loop-k-preserved
loop-k-preserved g c =
    let on : has_ended c.loop-k.cpu.status ≡ false = ap has_ended (sym c.status.ensures) ∙ sym c.has_ended.ensures ∙ c.if-has_ended.false in
    rw (c.put_turn-turn.ensures.next, c.put_turn-turn.ensures.pending) (record {
      told = calls_step g.W.Write.contents c.args.writer.now c.args.so_far c.args.called.now c.args.limit c.args.cpu.now c.loop-k.k _ _ _ _ _ _ c.loop-k-test.true on c.loop-k.invariant.waits c.loop-k.invariant.told c.put_turn-turn.ensures.text;
      steps = Steps-more _ _ _ c.loop-k.invariant.steps on;
      waits = still-waiting (pending_by c.args.called.now c.loop-k.pending c.loop-k.cpu) (next c.loop-k.cpu);
    })

pub returns-then-has_ended-clause-text : goal.returns-then-has_ended-clause-text
returns-then-has_ended-clause-text g c =
    let over : has_ended c.loop-k.cpu.status ≡ true = ap has_ended (sym c.status.ensures) ∙ sym c.has_ended.ensures ∙ c.if-has_ended.true in
    calls_ended g.W.Write.contents c.args.writer.now c.args.so_far c.args.called.now c.args.limit c.args.cpu.now c.loop-k.k _ _ _ _ _ _ over c.loop-k.invariant.waits c.loop-k.invariant.told c.put_pending.ensures

pub returns-then-has_ended-clause-next : goal.returns-then-has_ended-clause-next
returns-then-has_ended-clause-next g c =
    let over : has_ended c.loop-k.cpu.status ≡ true = ap has_ended (sym c.status.ensures) ∙ sym c.has_ended.ensures ∙ c.if-has_ended.true in
    anyway c.put_pending.result (end-over c.args.limit c.loop-k.k _ _ c.loop-k.invariant.steps c.loop-k.auto.k-end over)

pub returns-in-Err-clause-text : goal.returns-in-Err-clause-text
returns-in-Err-clause-text g c =
    let on : has_ended c.loop-k.cpu.status ≡ false = ap has_ended (sym c.status.ensures) ∙ sym c.has_ended.ensures ∙ c.if-has_ended.false in
    let more = calls_step g.W.Write.contents c.args.writer.now c.args.so_far c.args.called.now c.args.limit c.args.cpu.now c.loop-k.k _ _ _ _ _ _ c.loop-k-test.true on c.loop-k.invariant.waits c.loop-k.invariant.told c.put_turn-turn.ensures.text in
    Telling-broken g.W.Write.contents c.args.writer.now c.args.so_far _ _ _ _ (rw c.in-Err.is at more)

pub returns-clause-text : goal.returns-clause-text
returns-clause-text g c =
    let fin = c.loop-k-test.false in
    let within = c.loop-k.auto.k-end in
    calls_all g.W.Write.contents c.args.writer.now c.args.so_far c.args.called.now c.args.limit c.args.cpu.now c.loop-k.k _ _ _ _ _ _ (omega arith) c.loop-k.invariant.waits c.loop-k.invariant.told c.put_pending-2.ensures

pub returns-clause-next : goal.returns-clause-next
returns-clause-next g c =
    let fin = c.loop-k-test.false in
    let within = c.loop-k.auto.k-end in
    anyway c.put_pending-2.result (end-all c.args.limit c.loop-k.k _ _ c.loop-k.invariant.steps (omega arith))
