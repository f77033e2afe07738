use Rattle.std.proofs.Common.{◌≡◌, ◌<◌, ◌==◌, ◌∙◌, ℕ, [], List, Result, Ok, Err, length, get_or, sym, ap, subst, rules, tests}
use Rattle.std.proofs.lemmas.List.{length_push, get_or_default}
use Rattle.bpf_isa.specs.Maps.{items_of}
use Rattle.bpf_isa.proofs.SplitTurns.{split_turn, split_end}
use Rattle.bpf_link.specs.declared.fault.LinkFault.{LinkFault}
use Rattle.bpf_link.specs.declared.stubs.Stub.{Stub}
use Rattle.bpf_link.specs.Plans.{after, steps}
use Rattle.bpf_link.specs.StubLists.{stub_in, with_stub, with_item}
use Rattle.bpf_link.proofs.Steps.{fails, one_more}
use Rattle.bpf_link.proofs.stub_lists.stubs_in.Goals as goal

-- the item at a place, as it was read
at_place : (items : List (List ℕ)) (k : ℕ) (item : List ℕ) (stubs : List Stub) (r : Result Stub LinkFault) → item ≡ get_or items k [] → r ≡ stub_in item → with_item items k stubs ≡ after r (λ stub. with_stub stub stubs)
at_place items k item stubs r same is =
    ap (λ t. after (stub_in t) (λ stub. with_stub stub stubs)) (sym same) ∙ ap (λ x. after x (λ stub. with_stub stub stubs)) (sym is)

pub returns-in-Err-clause-err : goal.returns-in-Err-clause-err
returns-in-Err-clause-err c =
    let same = c.into_iter-item-iterator.ensures.into_iter_gives in
    let turn = split_turn _ _ _ (λ b. b == 44) c.args.text.now c.loop-item.yielded c.loop-item.yielded_by (ap (λ s. s.rest.now) same ∙ c.split-item-items.ensures.rest) (ap (λ s. s.done) same ∙ c.split-item-items.ensures.done) (ap (λ s. s.pred) same ∙ c.split-item-items.ensures.closure) _ _ c.in-Some.item c.in-Some.is c.next.ensures.steps (λ x b q h. search (rules, tests)) in
    let items = items_of c.args.text.now in
    let k = length c.loop-item.yielded in
    let inside : k < length items = turn.0 in
    let item : c.in-Some.item.now ≡ get_or items k [] = turn.1 ∙ get_or_default items k c.in-Some.item.now [] inside in
    fails (with_item items) [] k (length items) c.loop-item.stubs.items c.in-Err.fault inside c.loop-item.invariant
    (at_place items k c.in-Some.item.now c.loop-item.stubs.items (Err c.in-Err.fault) item (sym c.in-Err.is ∙ c.stub_in.ensures))

pub returns-in-Some-stub_fault-clause-err : goal.returns-in-Some-stub_fault-clause-err
returns-in-Some-stub_fault-clause-err c =
    let same = c.into_iter-item-iterator.ensures.into_iter_gives in
    let turn = split_turn _ _ _ (λ b. b == 44) c.args.text.now c.loop-item.yielded c.loop-item.yielded_by (ap (λ s. s.rest.now) same ∙ c.split-item-items.ensures.rest) (ap (λ s. s.done) same ∙ c.split-item-items.ensures.done) (ap (λ s. s.pred) same ∙ c.split-item-items.ensures.closure) _ _ c.in-Some.item c.in-Some.is c.next.ensures.steps (λ x b q h. search (rules, tests)) in
    let items = items_of c.args.text.now in
    let k = length c.loop-item.yielded in
    let inside : k < length items = turn.0 in
    let item : c.in-Some.item.now ≡ get_or items k [] = turn.1 ∙ get_or_default items k c.in-Some.item.now [] inside in
    fails (with_item items) [] k (length items) c.loop-item.stubs.items c.in-Some-stub_fault.fault inside c.loop-item.invariant
    (at_place items k c.in-Some.item.now c.loop-item.stubs.items (Ok c.in-Ok.stub) item (sym c.in-Ok.is ∙ c.stub_in.ensures)
    ∙ (rw c.as_slice.ensures.value at c.in-Some-stub_fault.ensures.some))

pub loop-item-preserved : goal.loop-item-preserved
loop-item-preserved c =
    let same = c.into_iter-item-iterator.ensures.into_iter_gives in
    let turn = split_turn _ _ _ (λ b. b == 44) c.args.text.now c.loop-item.yielded c.loop-item.yielded_by (ap (λ s. s.rest.now) same ∙ c.split-item-items.ensures.rest) (ap (λ s. s.done) same ∙ c.split-item-items.ensures.done) (ap (λ s. s.pred) same ∙ c.split-item-items.ensures.closure) _ _ c.in-Some.item c.in-Some.is c.next.ensures.steps (λ x b q h. search (rules, tests)) in
    let items = items_of c.args.text.now in
    let k = length c.loop-item.yielded in
    let inside : k < length items = turn.0 in
    let item : c.in-Some.item.now ≡ get_or items k [] = turn.1 ∙ get_or_default items k c.in-Some.item.now [] inside in
    let taken = at_place items k c.in-Some.item.now c.loop-item.stubs.items (Ok c.in-Ok.stub) item (sym c.in-Ok.is ∙ c.stub_in.ensures)
    ∙ (rw c.as_slice.ensures.value at c.in-None-stub_fault.ensures.none) ∙ ap Ok (sym c.push.ensures.items) in
    subst (λ n. steps (with_item items) [] n ≡ Ok c.push.new.self.items) (sym (length_push c.loop-item.yielded c.in-Some.item))
    (one_more (with_item items) [] k c.loop-item.stubs.items (Ok c.push.new.self.items) c.loop-item.invariant taken)

pub returns-clause-ok : goal.returns-clause-ok
returns-clause-ok c =
    let same = c.into_iter-item-iterator.ensures.into_iter_gives in
    let size = split_end _ _ _ (λ b. b == 44) c.args.text.now c.loop-item.yielded c.loop-item.yielded_by (ap (λ s. s.rest.now) same ∙ c.split-item-items.ensures.rest) (ap (λ s. s.done) same ∙ c.split-item-items.ensures.done) (ap (λ s. s.pred) same ∙ c.split-item-items.ensures.closure) _ _ c.in-None.is c.next.ensures.steps (λ x b q h. search (rules, tests)) in
    subst (λ n. steps (with_item (items_of c.args.text.now)) [] n ≡ Ok c.loop-item.stubs.items) size c.loop-item.invariant
