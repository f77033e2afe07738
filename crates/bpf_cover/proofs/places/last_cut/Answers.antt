use Rattle.std.proofs.Common.{◌≡◌, ◌-◌, ◌==◌, ◌∙◌, ℕ, List, Some, ap, arith, length, get_or, length-drop, take, true, rules, tests}
use Rattle.std.specs.Prelude.{drop}
use Rattle.std.proofs.lemmas.List.{take_all}
use Rattle.bpf_cover.proofs.Placing.{last_cut-found}
use Rattle.bpf_cover.proofs.places.last_cut.Goals as goal

pub returns-then-text-end : goal.returns-then-text-end
returns-then-text-end c =
    let text = c.args.text.now in
    let end = c.loop-end.end in
    let same : (get_or text (end - 1) 0 == c.args.byte) ≡ true = search (rules, tests) in
    let all : take (length text - end) (drop end text) ≡ drop end text = take_all (length text - end) (drop end text) (omega (arith, length-drop end text)) in
    ap (λ (rest : List ℕ). Some (take (end - 1) text, rest)) all
    ∙ last_cut-found c.args.byte text end 0 c.loop-end-test.true c.loop-end.invariant.0 c.loop-end.invariant.1 same
