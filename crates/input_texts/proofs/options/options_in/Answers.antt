use Rattle.std.proofs.Common.{◌==◌, rules, tests}
use Rattle.std.proofs.lemmas.Iterator.{items_from_collect}
use Rattle.std.proofs.lemmas.Iterator.Consumers.{YieldsList-at, YieldsList-from_filter_map}
use Rattle.std.proofs.lemmas.Iterator.Splits.{YieldsList-from_slice_split}
use Rattle.input_texts.specs.Options.{option_in}
use Rattle.input_texts.proofs.options.options_in.Goals as goal

pub returns : goal.returns
returns c =
    items_from_collect _ c.collect.ensures.ran
    (YieldsList-from_filter_map _ option_in
    (YieldsList-at c.filter_map.ensures.source
    (YieldsList-from_slice_split _ (λ b. b == 10) c.args.body.now c.split.ensures.rest c.split.ensures.done c.split.ensures.closure (λ x b q h. search (rules, tests))))
    c.filter_map.ensures.closure (λ x r q k. search (rules, tests)))
