use Rattle.std.proofs.Common.{◌≡◌, ◌≤◌, ◌+◌, ◌∙◌, ℕ, ap, subst, arith}
use Rattle.std.proofs.lemmas.Bool.Decides.{nat_tests}
use Rattle.bpf_steps.proofs.Running.{state_on}
use Rattle.bpf_steps.specs.State.{State}
use Rattle.bpf_ring.proofs.PieceLaws.{ends_there, kept_behind, running_behind, stops_there}
use Rattle.bpf_ring.specs.Edges.{HoldsAs}
use Rattle.bpf_ring.specs.Runs.{Running, kept_after, kept_on, state_after}
use Rattle.bpf_ring.proofs.keeper.RingKeeper.run_pieces.Goals as goal

pub returns-then-is_last : goal.returns-then-is_last
returns-then-is_last g c =
    let i = c.loop-taken.invariant in
    let test = g.T.StopTest.test c.args.test.now in
    let size = c.args.self.now.ring.size in
    let piece = c.keep_piece-piece in
    let new = piece.new.self in
    let n = piece.result.count in
    let t = c.loop-taken.taken in
    let y = c.loop-taken.cpu in
    let ragged = c.gets_ragged-is_ragged.result in
    let some : 1 ≤ t = omega (arith, c.requires.goes.some, i.from) in
    let within : t + n ≤ c.args.most = omega (arith, piece.ensures.piece.within, c.min-left.ensures, i.within) in
    let holds = c.is_last.ensures.holds c.if-is_last.true in
    record {
      pieces = record {
        size = piece.ensures.piece.size ∙ i.size;
        on = (omega (arith, i.from), within);
        before = λ no. absurd cc;
        run = record {
          runs = λ no. absurd cc;
          goes_on = λ x running no. absurd cc;
          over = λ x running over. stops_there test x y piece.new.cpu t n (i.running x running) some piece.ensures.piece.piece c.args.most within holds.0 holds.1;
        };
        held = λ x ks from held.
            let here = kept_after size t x ks in
            subst (HoldsAs ragged new) (ap (λ (s : ℕ). kept_on s n y here) i.size ∙ kept_behind size t n x y ks some (i.state x from))
            (piece.ensures.piece.held here (c.gets_ragged-is_ragged.ensures here (i.held x ks from held)));
      };
      room = piece.ensures.room ∙ i.room;
    }

pub returns-then-ends : goal.returns-then-ends
returns-then-ends g c =
    let i = c.loop-taken.invariant in
    let test = g.T.StopTest.test c.args.test.now in
    let size = c.args.self.now.ring.size in
    let piece = c.keep_piece-piece in
    let new = piece.new.self in
    let n = piece.result.count in
    let t = c.loop-taken.taken in
    let y = c.loop-taken.cpu in
    let ragged = c.gets_ragged-is_ragged.result in
    let some : 1 ≤ t = omega (arith, c.requires.goes.some, i.from) in
    let within : t + n ≤ c.args.most = omega (arith, piece.ensures.piece.within, c.min-left.ensures, i.within) in
    let on = λ (x : State) (running : Running test x c.args.cpu.now c.args.run.taken). running_behind test x y piece.new.cpu t n (i.running x running) some piece.ensures.piece.piece (c.is_last.ensures.goes_on c.if-is_last.false) in
    record {
      pieces = record {
        size = piece.ensures.piece.size ∙ i.size;
        on = (omega (arith, i.from), within);
        before = λ no. grind (arith, nat_tests);
        run = record {
          runs = λ no. piece.ensures.piece.piece.runs;
          goes_on = λ x running no. on x running;
          over = λ x running over.
              let all : t + n ≡ c.args.most = grind (arith, nat_tests) in
              ends_there test x piece.new.cpu c.args.most (t + n) (on x running) (omega (arith, some)) all;
        };
        held = λ x ks from held.
            let here = kept_after size t x ks in
            subst (HoldsAs ragged new) (ap (λ (s : ℕ). kept_on s n y here) i.size ∙ kept_behind size t n x y ks some (i.state x from))
            (piece.ensures.piece.held here (c.gets_ragged-is_ragged.ensures here (i.held x ks from held)));
      };
      room = piece.ensures.room ∙ i.room;
    }

pub loop-taken-preserved : goal.loop-taken-preserved
loop-taken-preserved g c =
    let i = c.loop-taken.invariant in
    let size = c.args.self.now.ring.size in
    let piece = c.keep_piece-piece in
    let new = piece.new.self in
    let n = piece.result.count in
    let t = c.loop-taken.taken in
    let ragged = c.gets_ragged-is_ragged.result in
    record {
      runs = piece.ensures.piece.piece.runs;
      from = omega (arith, i.from);
      within = omega (arith, piece.ensures.piece.within, c.min-left.ensures, i.within);
      size = piece.ensures.piece.size ∙ i.size;
      room = piece.ensures.room ∙ i.room;
      running = λ x running.
          running_behind (g.T.StopTest.test c.args.test.now) x c.loop-taken.cpu piece.new.cpu t n (i.running x running) (omega (arith, c.requires.goes.some, i.from)) piece.ensures.piece.piece
          (c.is_last.ensures.goes_on c.if-is_last.false);
      state = λ x from. piece.ensures.piece.piece.state ∙ ap (state_after n) (i.state x from) ∙ state_on n t x;
      held = λ x ks from held.
          let here = kept_after size t x ks in
          subst (HoldsAs ragged new) (ap (λ (s : ℕ). kept_on s n c.loop-taken.cpu here) i.size ∙ kept_behind size t n x c.loop-taken.cpu ks (omega (arith, c.requires.goes.some, i.from)) (i.state x from))
          (piece.ensures.piece.held here (c.gets_ragged-is_ragged.ensures here (i.held x ks from held)));
    }
