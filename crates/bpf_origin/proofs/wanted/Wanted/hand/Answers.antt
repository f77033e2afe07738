use Rattle.std.proofs.Common.{not, ap, ◌∙◌, sym, rules, filter}
use Rattle.std.proofs.lemmas.Fn.{filter_same}
use Rattle.bpf_origin.specs.declared.place.Place.TheVariants.{Register}
use Rattle.bpf_origin.specs.Places.{same}
use Rattle.bpf_origin.specs.Wanted.{most_places}
use Rattle.bpf_origin.proofs.Wanting.{handed_told}
use Rattle.bpf_origin.proofs.wanted.Wanted.hand.Goals as goal

pub returns : goal.returns
returns c =
    let left = filter_same _ _ _ (λ x b f' called. search rules) _ _ c.retain.ensures.filtered
    ∙ ap (filter (λ q. not (same (Register c.args.depth c.args.number) q))) c.self.view_is in
    let fits = rw c.as_slice-places.ensures.value at c.as_slice-places.ensures.fits in
    handed_told most_places c.args.self.now _ _ c.args.depth c.args.number _ (sym c.is_in.ensures ∙ c.if-not-is_in.false) left fits
    c.saturating_sub.ensures c.want-there.ensures.value
