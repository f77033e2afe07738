-- What stands between the brackets.
use Rattle.std.proofs.Common.{◌≡◌, ◌∙◌, ap, sym, refl, drop, true}
use Rattle.counted_io.specs.Cuts.{before}
use Rattle.bpf_text.specs.Scaffolding.Terms.{base_and_displacement, is_bracketed, memory}
use Rattle.bpf_text.proofs.OperandGrammar.{bracketed-inside}
use Rattle.bpf_text.proofs.read.term.memory.Goals as goal

pub returns-then-is_bracketed : goal.returns-then-is_bracketed
returns-then-is_bracketed c =
    let text = c.args.text.now in
    let bracketed : is_bracketed text ≡ true = sym c.is_bracketed.ensures ∙ c.if-is_bracketed.true in
    let whole : memory text ≡ base_and_displacement (before 93 (drop 1 text)) = rw bracketed refl in
    c.base_and_displacement.ensures ∙ ap base_and_displacement (bracketed-inside text bracketed) ∙ sym whole
