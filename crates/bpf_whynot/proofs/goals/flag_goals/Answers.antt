use Rattle.std.proofs.Common.{◌≡◌, ◌<◌, ◌==◌, ◌∙◌, ℕ, [], ◌∷◌, ◌++◌, List, Ok, Err, length, get_or, refl, take, sym, ap, subst, suc, ◌+◌, arith, rules, tests}
use Rattle.std.proofs.lemmas.List.{length_push, get_or_default}
use Rattle.std.proofs.Math.Seq.{take-length}
use Rattle.bpf_isa.specs.Maps.{items_of}
use Rattle.bpf_isa.proofs.SplitTurns.{split_turn, split_end}
use Rattle.bpf_whynot.specs.Asked.{goal_in, goals_of}
use Rattle.bpf_whynot.proofs.Goaling.{fails, goal_within, more, one_flag}
use Rattle.bpf_whynot.proofs.goals.flag_goals.Goals as goal

pub loop-item-init : goal.loop-item-init
loop-item-init c = ([], refl, c.requires)

pub bounds-flags-slot : goal.bounds-flags-slot
bounds-flags-slot c =
    let low = goal_within c.args.program.now c.in-Some.item.now c.in-Ok.slot (sym c.goal_in.ensures ∙ c.in-Ok.is) in
    let size = c.loop-item.invariant.2.size in
    omega (arith, low, size)

pub loop-item-preserved : goal.loop-item-preserved
loop-item-preserved c =
    let same = c.into_iter-item-iterator.ensures.into_iter_gives in
    let turn = split_turn _ _ _ (λ b. b == 44) c.args.text.now c.loop-item.yielded c.loop-item.yielded_by (ap (λ s. s.rest.now) same ∙ c.split-item-items.ensures.rest) (ap (λ s. s.done) same ∙ c.split-item-items.ensures.done) (ap (λ s. s.pred) same ∙ c.split-item-items.ensures.closure) _ _ c.in-Some.item c.in-Some.is c.next.ensures.steps (λ x b q h. search (rules, tests)) in
    let items = items_of c.args.text.now in
    let k = length c.loop-item.yielded in
    let inside : k < length items = turn.0 in
    let item : c.in-Some.item.now ≡ get_or items k [] = turn.1 ∙ get_or_default items k c.in-Some.item.now [] inside in
    let is : goal_in c.args.program.now c.in-Some.item.now ≡ Ok c.in-Ok.slot = sym c.goal_in.ensures ∙ c.in-Ok.is in
    let next : suc k ≡ length (c.loop-item.yielded ++ c.in-Some.item ∷ []) = (let one : suc k ≡ k + 1 = omega arith in one ∙ sym (length_push c.loop-item.yielded c.in-Some.item)) in (
      c.loop-item.invariant.0 ++ c.in-Ok.slot ∷ [],
      subst (λ (n : ℕ). goals_of c.args.program.now (take n items) ≡ Ok (c.loop-item.invariant.0 ++ c.in-Ok.slot ∷ [])) next
          (more c.args.program.now items k c.loop-item.invariant.0 c.in-Ok.slot inside c.loop-item.invariant.1
          (subst (λ (text : List ℕ). goal_in c.args.program.now text ≡ Ok c.in-Ok.slot) item is)),
      one_flag c.args.program.now c.loop-item.invariant.0 c.loop-item.flags c.in-Ok.slot (goal_within c.args.program.now c.in-Some.item.now c.in-Ok.slot is) c.loop-item.invariant.2,
    )

pub returns-in-Err-clause-err : goal.returns-in-Err-clause-err
returns-in-Err-clause-err c =
    let same = c.into_iter-item-iterator.ensures.into_iter_gives in
    let turn = split_turn _ _ _ (λ b. b == 44) c.args.text.now c.loop-item.yielded c.loop-item.yielded_by (ap (λ s. s.rest.now) same ∙ c.split-item-items.ensures.rest) (ap (λ s. s.done) same ∙ c.split-item-items.ensures.done) (ap (λ s. s.pred) same ∙ c.split-item-items.ensures.closure) _ _ c.in-Some.item c.in-Some.is c.next.ensures.steps (λ x b q h. search (rules, tests)) in
    let items = items_of c.args.text.now in
    let k = length c.loop-item.yielded in
    let inside : k < length items = turn.0 in
    let item : c.in-Some.item.now ≡ get_or items k [] = turn.1 ∙ get_or_default items k c.in-Some.item.now [] inside in
    let is : goal_in c.args.program.now c.in-Some.item.now ≡ Err c.in-Err.fault = sym c.goal_in.ensures ∙ c.in-Err.is in
    fails c.args.program.now items k c.loop-item.invariant.0 c.in-Err.fault inside c.loop-item.invariant.1
    (subst (λ (text : List ℕ). goal_in c.args.program.now text ≡ Err c.in-Err.fault) item is)

pub returns-clause-ok : goal.returns-clause-ok
returns-clause-ok c =
    let same = c.into_iter-item-iterator.ensures.into_iter_gives in
    let size = split_end _ _ _ (λ b. b == 44) c.args.text.now c.loop-item.yielded c.loop-item.yielded_by (ap (λ s. s.rest.now) same ∙ c.split-item-items.ensures.rest) (ap (λ s. s.done) same ∙ c.split-item-items.ensures.done) (ap (λ s. s.pred) same ∙ c.split-item-items.ensures.closure) _ _ c.in-None.is c.next.ensures.steps (λ x b q h. search (rules, tests)) in
    let items = items_of c.args.text.now in (
      c.loop-item.invariant.0,
      subst (λ (all : List (List ℕ)). goals_of c.args.program.now all ≡ Ok c.loop-item.invariant.0) (ap (λ (n : ℕ). take n items) size ∙ take-length items) c.loop-item.invariant.1,
      c.loop-item.invariant.2,
    )
