use Rattle.std.proofs.Common.{◌==◌, rules, tests}
use Rattle.std.proofs.lemmas.Iterator.Search.{all_from_yields_List}
use Rattle.std.proofs.lemmas.Iterator.Splits.{YieldsList-from_slice_split}
use Rattle.input_texts.specs.Options.{is_bare}
use Rattle.input_texts.proofs.options.are_bare.Goals as goal

pub returns : goal.returns
returns c =
    all_from_yields_List is_bare _ _ _ c.all.ensures.ran
    (YieldsList-from_slice_split _ (λ b. b == 10) c.args.body.now c.split.ensures.rest c.split.ensures.done c.split.ensures.closure (λ x b q h. search (rules, tests)))
    (λ x b q h. search (rules, tests))
