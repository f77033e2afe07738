use Rattle.std.proofs.Common.{◌==◌, ◌||◌, rules, tests}
use Rattle.std.proofs.lemmas.Iterator.Search.{all_from_yields_List}
use Rattle.std.proofs.lemmas.Iterator.Splits.{YieldsList-from_slice_split}
use Rattle.counted_io.specs.Cuts.{trim}
use Rattle.bpf_cover.specs.Places.{is_fine}
use Rattle.bpf_cover.proofs.places.is_table.Goals as goal

pub returns : goal.returns
returns c =
    all_from_yields_List (λ row. is_fine (trim row)) _ _ _ c.all.ensures.ran
    (YieldsList-from_slice_split _ (λ b. b == 10 || b == 12) c.args.table.now c.split.ensures.rest c.split.ensures.done c.split.ensures.closure (λ x b q h. search (rules, tests)))
    (λ x b q h. search (rules, tests))
