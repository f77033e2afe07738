use Rattle.std.proofs.Common.{◌≤◌, ◌<◌, ◌∙◌, ℕ, false, sym, subst, arith}
use Rattle.bpf_entries.specs.Keeping.{keep, kept_weight}
use Rattle.bpf_entries.specs.Status.{has_ended}
use Rattle.bpf_steps.specs.Entries.{step_entry}
use Rattle.bpf_steps.specs.State.{State}
use Rattle.bpf_ring.proofs.Runs.{kept_more, run_stops, running_more, runs_on, unmarked}
use Rattle.bpf_ring.specs.Edges.{HoldsAs}
use Rattle.bpf_ring.specs.Runs.{Running, kept_after}
use Rattle.bpf_ring.proofs.keeper.RingKeeper.run_on.Goals as goal

pub returns-then-stops : goal.returns-then-stops
returns-then-stops g c =
    let test = g.T.StopTest.test c.args.test.now in
    let i = c.loop-taken.invariant in
    let pieced = c.run_pieces-pieced in
    let pieces = pieced.ensures.pieces in
    let step = c.step_on-stops in
    let size = c.args.self.now.ring.size in
    let t = pieced.result.run.taken in
    let ragged = pieced.result.run.is_ragged in
    let y = pieced.new.cpu in
    let some : 1 ≤ t = omega (arith, i.some, pieces.on.0) in
    let goes = λ (x : State) (running : Running test x c.args.cpu.now 1). pieces.run.goes_on x (i.running x running) c.if-pieced.false in
    record {
      size = step.ensures.size ∙ pieces.size ∙ i.size;
      run = λ x running. run_stops test c.args.most t x y step.new.cpu (goes x running) step.ensures.leads (pieces.before c.if-pieced.false) (sym c.if-stops.true ∙ step.ensures.stops);
      held = λ x ks running held.
          let from = subst (λ (s : ℕ). HoldsAs c.loop-taken.is_ragged c.loop-taken.self (kept_after s c.loop-taken.taken x ks)) (sym i.size) (i.held x ks running held) in
          let mid = subst (λ (s : ℕ). HoldsAs ragged pieced.new.self (kept_after s t x ks)) i.size (pieces.held x ks (i.running x running).state from) in
          subst (HoldsAs ragged step.new.self) (kept_more size t x y false ks (goes x running).state (unmarked t some))
          (subst (λ (s : ℕ). HoldsAs ragged step.new.self (keep kept_weight s (kept_after size t x ks) (step_entry y, false))) (pieces.size ∙ i.size) (step.ensures.held (kept_after size t x ks) mid));
    }

pub loop-taken-preserved : goal.loop-taken-preserved
loop-taken-preserved g c =
    let test = g.T.StopTest.test c.args.test.now in
    let i = c.loop-taken.invariant in
    let pieced = c.run_pieces-pieced in
    let pieces = pieced.ensures.pieces in
    let step = c.step_on-stops in
    let size = c.args.self.now.ring.size in
    let t = pieced.result.run.taken in
    let ragged = pieced.result.run.is_ragged in
    let y = pieced.new.cpu in
    let some : 1 ≤ t = omega (arith, i.some, pieces.on.0) in
    let before : t < c.args.most = pieces.before c.if-pieced.false in
    let goes = λ (x : State) (running : Running test x c.args.cpu.now 1). pieces.run.goes_on x (i.running x running) c.if-pieced.false in
    record {
      runs = runs_on (has_ended step.new.cpu.status) _ (sym c.if-stops.false ∙ step.ensures.stops);
      some = omega arith;
      within = omega (arith, before);
      size = step.ensures.size ∙ pieces.size ∙ i.size;
      room = pieced.ensures.room;
      running = λ x running. running_more test t x y step.new.cpu (goes x running) step.ensures.leads (sym c.if-stops.false ∙ step.ensures.stops);
      held = λ x ks running held.
          let from = subst (λ (s : ℕ). HoldsAs c.loop-taken.is_ragged c.loop-taken.self (kept_after s c.loop-taken.taken x ks)) (sym i.size) (i.held x ks running held) in
          let mid = subst (λ (s : ℕ). HoldsAs ragged pieced.new.self (kept_after s t x ks)) i.size (pieces.held x ks (i.running x running).state from) in
          subst (HoldsAs ragged step.new.self) (kept_more size t x y false ks (goes x running).state (unmarked t some))
          (subst (λ (s : ℕ). HoldsAs ragged step.new.self (keep kept_weight s (kept_after size t x ks) (step_entry y, false))) (pieces.size ∙ i.size) (step.ensures.held (kept_after size t x ks) mid));
    }
