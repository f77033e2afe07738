use Rattle.std.proofs.Common.{ℕ, List, is_some, sym, ap, ◌∙◌}
use Rattle.std.proofs.lemmas.List.{take_rest}
use Rattle.bpf_remote.specs.Numbers.{behind}
use Rattle.bpf_remote.proofs.Containing.{contains-found, contains-more}
use Rattle.bpf_remote.proofs.parser.contains.Goals as goal

pub returns-then-begins : goal.returns-then-begins
returns-then-begins c =
    sym (contains-found c.args.name.now c.args.text.now c.loop-i.i c.loop-i-test.true c.loop-i.invariant
    (ap (λ (v : List ℕ). is_some (behind c.args.name.now v)) (sym (take_rest c.args.text.now c.loop-i.i)) ∙ sym c.begins.ensures ∙ c.if-begins.true))

pub loop-i-preserved : goal.loop-i-preserved
loop-i-preserved c =
    contains-more c.args.name.now c.args.text.now c.loop-i.i c.loop-i-test.true c.loop-i.invariant
    (ap (λ (v : List ℕ). is_some (behind c.args.name.now v)) (sym (take_rest c.args.text.now c.loop-i.i)) ∙ sym c.begins.ensures ∙ c.if-begins.false)
