use Rattle.std.proofs.Common.{◌∙◌, rules, tests}
use Rattle.std.specs.List.{list_any}
use Rattle.std.proofs.lemmas.Iterator.{YieldsList-from_slice}
use Rattle.std.proofs.lemmas.Iterator.Search.{any_from_yields_List}
use Rattle.bpf_origin.specs.Places.{has}
use Rattle.bpf_origin.proofs.Marking.{hits}
use Rattle.bpf_origin.proofs.wanted.Wanted.are_hit.Goals as goal

pub returns : goal.returns
returns c =
    any_from_yields_List (λ q. list_any (has q) c.args.self.now) _ _ _ c.any.ensures.ran (YieldsList-from_slice c.args.parts.now cc) (λ x b q called. search (rules, tests))
    ∙ hits c.args.parts.now c.args.self.now
