use Rattle.std.proofs.Common.{ap, ◌∙◌, length, sym, arith}
use Rattle.std.proofs.lemmas.Grind.{common_steps}
use Rattle.bpf_origin.specs.Wanted.{most_places}
use Rattle.bpf_origin.proofs.Wanting.{was_wanted, not_wanted, now_wanted}
use Rattle.bpf_origin.proofs.wanted.Wanted.want.Goals as goal

pub returns-then-is_in-clause-value : goal.returns-then-is_in-clause-value
returns-then-is_in-clause-value c =
    let fits = rw c.as_slice-places.ensures.value at c.as_slice-places.ensures.fits in
    (was_wanted most_places c.args.self.now c.args.place (sym c.is_in.ensures ∙ c.if-is_in.true) fits).0

pub returns-then-len-eq-MOST_PLACES-clause-value : goal.returns-then-len-eq-MOST_PLACES-clause-value
returns-then-len-eq-MOST_PLACES-clause-value c =
    let missing = sym c.is_in.ensures ∙ c.if-is_in.false in
    let here = ap length c.self.view_is in
    let full = c.if-len-eq-MOST_PLACES.true in
    let count = c.len.ensures in
    (not_wanted most_places c.args.self.now c.args.place missing (grind (arith, common_steps))).0

pub returns-clause-value : goal.returns-clause-value
returns-clause-value c =
    let missing = sym c.is_in.ensures ∙ c.if-is_in.false in
    let here = ap length c.self.view_is in
    let low = c.if-len-eq-MOST_PLACES.false in
    let count = c.len.ensures in
    let within = c.self.invariant.few in
    (now_wanted most_places c.args.self.now _ c.args.place missing (grind (arith, common_steps)) (rw c.self.view_is at c.push_reserved.ensures.items)).0
