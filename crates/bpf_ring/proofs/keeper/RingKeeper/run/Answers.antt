use Rattle.std.proofs.Common.{◌∙◌, ℕ, Bool, sym, subst, arith}
use Rattle.bpf_ring.proofs.Runs.{run_stops, running_first, running_more}
use Rattle.bpf_ring.specs.Edges.{HoldsAs, IsRagged}
use Rattle.bpf_ring.specs.Held.{IsHeld}
use Rattle.bpf_ring.specs.Runs.{kept_after}
use Rattle.bpf_ring.proofs.keeper.RingKeeper.run.Goals as goal

pub returns-then-step : goal.returns-then-step
returns-then-step g c =
    let test = g.T.StopTest.test c.args.test.now in
    record {
      to = run_stops test c.args.most 0 c.args.cpu.now c.args.cpu.now c.step.new.cpu (running_first test c.args.cpu.now) c.step.ensures.leads (omega (arith, c.requires.some)) (sym c.if-step.true ∙ c.step.ensures.stops);
      size = c.step.ensures.size;
      held = c.step.ensures.held;
    }

pub returns-then-run : goal.returns-then-run
returns-then-run g c =
    let test = g.T.StopTest.test c.args.test.now in
    let x = c.args.cpu.now in
    let rest = c.run_on-run in
    let size = c.args.self.now.ring.size in
    let on = running_more test 0 x x c.step.new.cpu (running_first test x) c.step.ensures.leads (sym c.if-step.false ∙ c.step.ensures.stops) in
    record {
      to = rest.ensures.run x on;
      size = c.trim.ensures.size ∙ rest.ensures.size ∙ c.step.ensures.size;
      held = λ ks held.
          let first = subst (λ (s : ℕ). IsHeld c.step.new.self.ring c.step.new.self.counts (kept_after s 1 x ks)) (sym c.step.ensures.size) (c.step.ensures.held ks held) in
          let kept = subst (λ (b : Bool). HoldsAs b rest.new.self (kept_after c.step.new.self.ring.size rest.result.taken x ks)) c.if-run.true (rest.ensures.held x ks on first) in
          c.trim.ensures.held (kept_after size rest.result.taken x ks) (subst (λ (s : ℕ). IsRagged rest.new.self.ring rest.new.self.counts (kept_after s rest.result.taken x ks)) c.step.ensures.size kept);
    }

pub returns-else-run : goal.returns-else-run
returns-else-run g c =
    let test = g.T.StopTest.test c.args.test.now in
    let x = c.args.cpu.now in
    let rest = c.run_on-run in
    let on = running_more test 0 x x c.step.new.cpu (running_first test x) c.step.ensures.leads (sym c.if-step.false ∙ c.step.ensures.stops) in
    record {
      to = rest.ensures.run x on;
      size = rest.ensures.size ∙ c.step.ensures.size;
      held = λ ks held.
          let first = subst (λ (s : ℕ). IsHeld c.step.new.self.ring c.step.new.self.counts (kept_after s 1 x ks)) (sym c.step.ensures.size) (c.step.ensures.held ks held) in
          let kept = subst (λ (b : Bool). HoldsAs b rest.new.self (kept_after c.step.new.self.ring.size rest.result.taken x ks)) c.if-run.false (rest.ensures.held x ks on first) in
          subst (λ (s : ℕ). IsHeld rest.new.self.ring rest.new.self.counts (kept_after s rest.result.taken x ks)) c.step.ensures.size kept;
    }
