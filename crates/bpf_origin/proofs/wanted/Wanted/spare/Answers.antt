use Rattle.std.proofs.Common.{not, ap, ◌∙◌, sym, rules, filter}
use Rattle.std.proofs.lemmas.Fn.{filter_same}
use Rattle.bpf_origin.specs.Wanted.{is_among}
use Rattle.bpf_origin.proofs.Marking.{none_spared}
use Rattle.bpf_origin.proofs.wanted.Wanted.spare.Goals as goal

pub returns : goal.returns
returns c =
    filter_same _ _ _ (λ x b f' called. search rules) _ _ c.retain.ensures.filtered
    ∙ ap (filter (λ p. not (is_among c.args.parts.now p))) c.self.view_is

pub returns-then-not-are_hit : goal.returns-then-not-are_hit
returns-then-not-are_hit c = none_spared c.args.parts.now c.args.self.now (sym c.are_hit.ensures ∙ c.if-not-are_hit.true)
