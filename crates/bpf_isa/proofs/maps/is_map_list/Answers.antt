use Rattle.std.proofs.Common.{◌≡◌, ◌<◌, ◌==◌, false, [], Option, length, get_or, refl, sym, ap, ◌∙◌, subst, rules, tests}
use Rattle.std.specs.Prelude.{IsSome, IsTrue, is_some}
use Rattle.std.proofs.lemmas.List.{length_push, get_or_default}
use Rattle.bpf_isa.specs.Maps.{IsItem, items_of, IsMapList}
use Rattle.bpf_isa.proofs.MapLists.{AreItems, one_more_item, all_items}
use Rattle.bpf_isa.proofs.SplitTurns.{split_turn, split_end}
use Rattle.bpf_isa.proofs.maps.is_map_list.Goals as goal

no_shape : {A : Type 0} (o : Option A) → is_some o ≡ false → IsSome o → ⊥
no_shape o e some = cc

not_true : IsTrue false → ⊥
not_true e = cc

pub returns-then-is_none : goal.returns-then-is_none
returns-then-is_none c =
    let same = c.into_iter-item-iterator.ensures.into_iter_gives in
    let turn = split_turn _ _ _ (λ b. b == 44) c.args.text.now c.loop-item.yielded c.loop-item.yielded_by (ap (λ s. s.rest.now) same ∙ c.split-item-items.ensures.rest) (ap (λ s. s.done) same ∙ c.split-item-items.ensures.done) (ap (λ s. s.pred) same ∙ c.split-item-items.ensures.closure) _ _ c.in-Some.item c.in-Some.is c.next.ensures.steps (λ x b q h. search (rules, tests)) in
    let items = items_of c.args.text.now in
    let k = length c.loop-item.yielded in
    let inside : k < length items = turn.0 in
    let item : c.in-Some.item.now ≡ get_or items k [] = turn.1 ∙ get_or_default items k c.in-Some.item.now [] inside in
    let wrong : IsMapList c.args.text.now → ⊥ = λ form. no_shape c.shape_in.result c.if-is_none.ensures (c.shape_in.ensures.item.1 (subst IsItem (sym item) (form k inside))) in
    ((λ e. absurd (not_true e)), λ form. absurd (wrong form))

pub loop-item-preserved : goal.loop-item-preserved
loop-item-preserved c =
    let same = c.into_iter-item-iterator.ensures.into_iter_gives in
    let turn = split_turn _ _ _ (λ b. b == 44) c.args.text.now c.loop-item.yielded c.loop-item.yielded_by (ap (λ s. s.rest.now) same ∙ c.split-item-items.ensures.rest) (ap (λ s. s.done) same ∙ c.split-item-items.ensures.done) (ap (λ s. s.pred) same ∙ c.split-item-items.ensures.closure) _ _ c.in-Some.item c.in-Some.is c.next.ensures.steps (λ x b q h. search (rules, tests)) in
    let items = items_of c.args.text.now in
    let k = length c.loop-item.yielded in
    let inside : k < length items = turn.0 in
    let item : c.in-Some.item.now ≡ get_or items k [] = turn.1 ∙ get_or_default items k c.in-Some.item.now [] inside in
    let good : IsItem (get_or items k []) = subst IsItem item (c.shape_in.ensures.item.0 c.if-is_none.ensures) in
    subst (AreItems items) (sym (length_push c.loop-item.yielded c.in-Some.item)) (one_more_item items k c.loop-item.invariant good)

pub returns : goal.returns
returns c =
    let same = c.into_iter-item-iterator.ensures.into_iter_gives in
    let size = split_end _ _ _ (λ b. b == 44) c.args.text.now c.loop-item.yielded c.loop-item.yielded_by (ap (λ s. s.rest.now) same ∙ c.split-item-items.ensures.rest) (ap (λ s. s.done) same ∙ c.split-item-items.ensures.done) (ap (λ s. s.pred) same ∙ c.split-item-items.ensures.closure) _ _ c.in-None.is c.next.ensures.steps (λ x b q h. search (rules, tests)) in
    ((λ e. all_items c.args.text.now (length c.loop-item.yielded) size c.loop-item.invariant), λ form. refl)
