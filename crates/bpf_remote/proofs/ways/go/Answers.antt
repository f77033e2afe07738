use Rattle.std.proofs.Common.{◌<◌, ◌+◌, ℕ, sym, ap, subst, ◌∙◌}
use Rattle.std.specs.Prelude.{max}
use Rattle.bpf_steps.specs.State.{depth}
use Rattle.bpf_remote.specs.Moves.{counted}
use Rattle.bpf_remote.specs.Ways.{wants_again}
use Rattle.bpf_remote.proofs.Rounds.{Gone-more, Goes-halted, follows-by, told-by}
use Rattle.bpf_remote.proofs.ways.go.Goals as goal

pub returns-then-not-follows : goal.returns-then-not-follows
returns-then-not-follows g c =
    let deep = c.depth-deep.ensures ∙ ap depth c.cpu.ensures in
    let wants = c.wants_again-again.ensures ∙ ap (λ (d : ℕ). wants_again c.args.request.now c.args.conditions.now d c.apply-said.result c.cpu-in-rounds-2.result.now) deep in
    let again = wants_again c.args.request.now c.args.conditions.now (depth c.args.session.now.moment.state) in
    let follows = follows-by g.K.Keeper.holds g.K.Keeper.refused g.K.Keeper.room c.args.command.now again c.rounds.session c.apply-said.new.self c.apply-said.result _ _ _ _ _ _ c.sight-sight.ensures c.cpu-in-rounds.ensures c.first_changed-changed.ensures wants c.cpu-in-rounds-2.ensures c.follows.ensures in
    Goes-halted _ _ _ _ _ _ _ _ _ _ _ _ _ _ c.rounds.invariant c.apply-said.ensures
    (subst (λ (n : ℕ). c.rounds.made < n) c.limit-limit.ensures c.rounds-test.true)
    (sym follows ∙ c.if-not-follows.true)
    c.moves_after-moves.ensures
    (told-by g.K.Keeper.holds g.K.Keeper.refused g.K.Keeper.room c.args.command.now again c.rounds.session c.apply-said.new.self c.apply-said.result _ _ _ _ _ _ _ c.sight-sight.ensures c.cpu-in-rounds.ensures c.first_changed-changed.ensures c.runs.ensures c.status-status.ensures c.cpu-then-not-follows.ensures c.answer_of_move.ensures)

pub rounds-preserved : goal.rounds-preserved
rounds-preserved g c =
    let deep = c.depth-deep.ensures ∙ ap depth c.cpu.ensures in
    let wants = c.wants_again-again.ensures ∙ ap (λ (d : ℕ). wants_again c.args.request.now c.args.conditions.now d c.apply-said.result c.cpu-in-rounds-2.result.now) deep in
    let again = wants_again c.args.request.now c.args.conditions.now (depth c.args.session.now.moment.state) in
    let follows = follows-by g.K.Keeper.holds g.K.Keeper.refused g.K.Keeper.room c.args.command.now again c.rounds.session c.apply-said.new.self c.apply-said.result _ _ _ _ _ _ c.sight-sight.ensures c.cpu-in-rounds.ensures c.first_changed-changed.ensures wants c.cpu-in-rounds-2.ensures c.follows.ensures in
    Gone-more _ _ _ _ _ _ _ _ _ _ _ _ _ _ c.rounds.invariant c.apply-said.ensures
    (subst (λ (n : ℕ). c.rounds.made < n) c.limit-limit.ensures c.rounds-test.true)
    (sym follows ∙ c.if-not-follows.false)
    c.moves_after-moves.ensures
    (c.saturating_add-made.ensures ∙ ap (λ (n : ℕ). counted (c.rounds.made + n)) (c.max.ensures ∙ ap (λ (m : ℕ). max m 1) c.moves_of.ensures))
