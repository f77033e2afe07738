use Rattle.std.proofs.Common.{◌≡◌, ◌==◌, ◌∙◌, Ok, Err, length, sym, ap, subst, rules, tests}
use Rattle.std.proofs.lemmas.List.{length_push}
use Rattle.bpf_isa.specs.Maps.{items_of}
use Rattle.bpf_isa.proofs.SplitTurns.{split_turn, split_end}
use Rattle.bpf_opening.specs.Lists.{opening_below}
use Rattle.bpf_opening.proofs.Items.{at-place, fails, one-more}
use Rattle.bpf_opening.proofs.registers.opening_in.Goals as goal

pub returns-in-Err : goal.returns-in-Err
returns-in-Err c =
    let same = c.into_iter-item-iterator.ensures.into_iter_gives in
    let turn = split_turn _ _ _ (λ b. b == 44) c.args.text.now c.loop-item.yielded c.loop-item.yielded_by (ap (λ s. s.rest.now) same ∙ c.split-item-items.ensures.rest) (ap (λ s. s.done) same ∙ c.split-item-items.ensures.done) (ap (λ s. s.pred) same ∙ c.split-item-items.ensures.closure) _ _ c.in-Some.item c.in-Some.is c.next.ensures.steps (λ x b q h. search (rules, tests)) in
    let items = items_of c.args.text.now in
    let k = length c.loop-item.yielded in
    sym (fails items k c.loop-item.opening c.in-Err.fault turn.0 c.loop-item.invariant
    (at-place items k c.in-Some.item.now c.loop-item.opening (Err c.in-Err.fault) turn.0 turn.1 (sym c.in-Err.is ∙ c.setting_in.ensures.value)))

pub returns-in-Err-with_setting : goal.returns-in-Err-with_setting
returns-in-Err-with_setting c =
    let same = c.into_iter-item-iterator.ensures.into_iter_gives in
    let turn = split_turn _ _ _ (λ b. b == 44) c.args.text.now c.loop-item.yielded c.loop-item.yielded_by (ap (λ s. s.rest.now) same ∙ c.split-item-items.ensures.rest) (ap (λ s. s.done) same ∙ c.split-item-items.ensures.done) (ap (λ s. s.pred) same ∙ c.split-item-items.ensures.closure) _ _ c.in-Some.item c.in-Some.is c.next.ensures.steps (λ x b q h. search (rules, tests)) in
    let items = items_of c.args.text.now in
    let k = length c.loop-item.yielded in
    sym (fails items k c.loop-item.opening c.in-Err-with_setting.fault turn.0 c.loop-item.invariant
    (at-place items k c.in-Some.item.now c.loop-item.opening (Ok c.in-Ok.setting) turn.0 turn.1 (sym c.in-Ok.is ∙ c.setting_in.ensures.value)
    ∙ sym c.with_setting.ensures ∙ c.in-Err-with_setting.is))

pub loop-item-preserved : goal.loop-item-preserved
loop-item-preserved c =
    let same = c.into_iter-item-iterator.ensures.into_iter_gives in
    let turn = split_turn _ _ _ (λ b. b == 44) c.args.text.now c.loop-item.yielded c.loop-item.yielded_by (ap (λ s. s.rest.now) same ∙ c.split-item-items.ensures.rest) (ap (λ s. s.done) same ∙ c.split-item-items.ensures.done) (ap (λ s. s.pred) same ∙ c.split-item-items.ensures.closure) _ _ c.in-Some.item c.in-Some.is c.next.ensures.steps (λ x b q h. search (rules, tests)) in
    let items = items_of c.args.text.now in
    let k = length c.loop-item.yielded in
    let taken = at-place items k c.in-Some.item.now c.loop-item.opening (Ok c.in-Ok.setting) turn.0 turn.1 (sym c.in-Ok.is ∙ c.setting_in.ensures.value)
    ∙ sym c.with_setting.ensures ∙ c.in-Ok-with_setting.is in
    subst (λ n. opening_below items n ≡ Ok c.in-Ok-with_setting.more) (sym (length_push c.loop-item.yielded c.in-Some.item))
    (one-more items k c.loop-item.opening (Ok c.in-Ok-with_setting.more) c.loop-item.invariant taken)

pub returns : goal.returns
returns c =
    let same = c.into_iter-item-iterator.ensures.into_iter_gives in
    let size = split_end _ _ _ (λ b. b == 44) c.args.text.now c.loop-item.yielded c.loop-item.yielded_by (ap (λ s. s.rest.now) same ∙ c.split-item-items.ensures.rest) (ap (λ s. s.done) same ∙ c.split-item-items.ensures.done) (ap (λ s. s.pred) same ∙ c.split-item-items.ensures.closure) _ _ c.in-None.is c.next.ensures.steps (λ x b q h. search (rules, tests)) in
    sym (subst (λ n. opening_below (items_of c.args.text.now) n ≡ Ok c.loop-item.opening) size c.loop-item.invariant)
