use Rattle.std.proofs.Common.{◌≡◌, ◌≤◌, ◌∙◌, length, ap, subst, arith}
use Rattle.bpf_link.specs.Sections.{FoundBelow}
use Rattle.bpf_link.proofs.Searches.{found_more, found_all, within_more}
use Rattle.bpf_turns.specs.Seats.{is_turn}
use Rattle.bpf_turns.proofs.seats.turn_found.Goals as goal

pub loop-i-preserved : goal.loop-i-preserved
loop-i-preserved c =
    let inside = rw c.len-i-end.ensures at c.loop-i-test.true in
    record {
      value =
          found_more (is_turn c.args.plan.now c.args.only c.args.name.now) c.args.plan.now.symbols c.loop-i.i _ c.loop-i.found _ _ inside c.loop-i.invariant.value
          (c.is_turn.ensures ∙ ap (is_turn c.args.plan.now c.args.only c.args.name.now) c.at-symbol.ensures) c.with-found.ensures;
      within = within_more c.loop-i.i c.loop-i.found _ _ c.with-found.ensures c.loop-i.invariant.within;
    }

pub returns-clause-value : goal.returns-clause-value
returns-clause-value c =
    let end : length c.args.plan.now.symbols ≤ c.loop-i.i = omega arith in
    found_all (is_turn c.args.plan.now c.args.only c.args.name.now) c.args.plan.now.symbols c.loop-i.i _ end c.loop-i.invariant.value

pub returns-clause-within : goal.returns-clause-within
returns-clause-within c =
    let end : c.loop-i.i ≡ length c.args.plan.now.symbols = omega arith in
    subst (λ n. FoundBelow n c.loop-i.found) end c.loop-i.invariant.within
