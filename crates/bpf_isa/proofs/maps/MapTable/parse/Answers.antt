use Rattle.std.proofs.Common.{◌≡◌, ◌<◌, ◌==◌, [], Option, None, length, get_or, take, min, refl, sym, ap, ◌∙◌, subst, rules, tests}
use Rattle.std.specs.Prelude.{IsSome, map}
use Rattle.std.proofs.lemmas.List.{length_push, get_or_default}
use Rattle.bpf_isa.specs.Maps.{IsItem, shape_of, items_of, IsMapList}
use Rattle.bpf_isa.proofs.MapLists.{added, refused, whole_list, list_fault}
use Rattle.bpf_isa.proofs.SplitTurns.{split_turn, split_end}
use Rattle.bpf_isa.proofs.maps.MapTable.parse.Goals as goal

no_shape : {A : Type 0} (o : Option A) → o ≡ None → IsSome o → ⊥
no_shape o e some = cc

pub returns-in-Err-clause-fault : goal.returns-in-Err-clause-fault
returns-in-Err-clause-fault c =
    let same = c.into_iter-item-iterator.ensures.into_iter_gives in
    let turn = split_turn _ _ _ (λ b. b == 44) c.args.text.now c.loop-item.yielded c.loop-item.yielded_by (ap (λ s. s.rest.now) same ∙ c.split-item-items.ensures.rest) (ap (λ s. s.done) same ∙ c.split-item-items.ensures.done) (ap (λ s. s.pred) same ∙ c.split-item-items.ensures.closure) _ _ c.in-Some.item c.in-Some.is c.next.ensures.steps (λ x b q h. search (rules, tests)) in
    let items = items_of c.args.text.now in
    let k = length c.loop-item.yielded in
    let inside : k < length items = turn.0 in
    let item : c.in-Some.item.now ≡ get_or items k [] = turn.1 ∙ get_or_default items k c.in-Some.item.now [] inside in
    let size = c.in-Some-shape_in.value_size in
    let count = c.in-Some-shape_in.entries in
    let value : size ≡ min (shape_of (get_or items k [])).value_size 4294967295 = subst (λ text. size ≡ min (shape_of text).value_size 4294967295) item c.in-Some-shape_in.ensures.value in
    let entries : count ≡ min (shape_of (get_or items k [])).entries 4294967295 = subst (λ text. count ≡ min (shape_of text).entries 4294967295) item c.in-Some-shape_in.ensures.entries in
    let form : IsMapList c.args.text.now = c.if-not-is_map_list.ensures.0 refl in
    list_fault c.args.text.now c.in-Err.fault form (refused items k size count c.loop-item.maps c.in-Err.fault inside value entries c.loop-item.invariant c.in-Err.ensures.fault)

pub loop-item-preserved-in-Ok : goal.loop-item-preserved-in-Ok
loop-item-preserved-in-Ok c =
    let same = c.into_iter-item-iterator.ensures.into_iter_gives in
    let turn = split_turn _ _ _ (λ b. b == 44) c.args.text.now c.loop-item.yielded c.loop-item.yielded_by (ap (λ s. s.rest.now) same ∙ c.split-item-items.ensures.rest) (ap (λ s. s.done) same ∙ c.split-item-items.ensures.done) (ap (λ s. s.pred) same ∙ c.split-item-items.ensures.closure) _ _ c.in-Some.item c.in-Some.is c.next.ensures.steps (λ x b q h. search (rules, tests)) in
    let items = items_of c.args.text.now in
    let k = length c.loop-item.yielded in
    let inside : k < length items = turn.0 in
    let item : c.in-Some.item.now ≡ get_or items k [] = turn.1 ∙ get_or_default items k c.in-Some.item.now [] inside in
    let size = c.in-Some-shape_in.value_size in
    let count = c.in-Some-shape_in.entries in
    let value : size ≡ min (shape_of (get_or items k [])).value_size 4294967295 = subst (λ text. size ≡ min (shape_of text).value_size 4294967295) item c.in-Some-shape_in.ensures.value in
    let entries : count ≡ min (shape_of (get_or items k [])).entries 4294967295 = subst (λ text. count ≡ min (shape_of text).entries 4294967295) item c.in-Some-shape_in.ensures.entries in
    let next = length_push c.loop-item.yielded c.in-Some.item in
    let more = added items k size count c.loop-item.maps c.add.new.self inside value entries c.loop-item.invariant c.in-Ok.ensures.ok c.in-Ok.ensures.fits in
    (more.0 ∙ ap (λ n. take n (map shape_of items)) (sym next), more.1)

pub loop-item-preserved : goal.loop-item-preserved
loop-item-preserved c =
    let same = c.into_iter-item-iterator.ensures.into_iter_gives in
    let turn = split_turn _ _ _ (λ b. b == 44) c.args.text.now c.loop-item.yielded c.loop-item.yielded_by (ap (λ s. s.rest.now) same ∙ c.split-item-items.ensures.rest) (ap (λ s. s.done) same ∙ c.split-item-items.ensures.done) (ap (λ s. s.pred) same ∙ c.split-item-items.ensures.closure) _ _ c.in-Some.item c.in-Some.is c.next.ensures.steps (λ x b q h. search (rules, tests)) in
    let items = items_of c.args.text.now in
    let k = length c.loop-item.yielded in
    let inside : k < length items = turn.0 in
    let item : c.in-Some.item.now ≡ get_or items k [] = turn.1 ∙ get_or_default items k c.in-Some.item.now [] inside in
    let form : IsMapList c.args.text.now = c.if-not-is_map_list.ensures.0 refl in
    let some = c.shape_in.ensures.item.1 (subst IsItem (sym item) (form k inside)) in
    absurd (no_shape c.shape_in.result c.in_default.is some)

pub returns-clause-value : goal.returns-clause-value
returns-clause-value c =
    let same = c.into_iter-item-iterator.ensures.into_iter_gives in
    let size = split_end _ _ _ (λ b. b == 44) c.args.text.now c.loop-item.yielded c.loop-item.yielded_by (ap (λ s. s.rest.now) same ∙ c.split-item-items.ensures.rest) (ap (λ s. s.done) same ∙ c.split-item-items.ensures.done) (ap (λ s. s.pred) same ∙ c.split-item-items.ensures.closure) _ _ c.in-None.is c.next.ensures.steps (λ x b q h. search (rules, tests)) in
    whole_list c.args.text.now (length c.loop-item.yielded) c.loop-item.maps size c.loop-item.invariant
