use Rattle.std.proofs.Common.{◌≡◌, ◌+◌, ◌-◌, ◌∙◌, [], length, true, arith, rules, tests}
use Rattle.bpf_cover.proofs.Grouping.{groups-begin, groups-end, groups-more, same-alike}
use Rattle.bpf_cover.proofs.sources.group_size.Goals as goal

pub loop-at-init : goal.loop-at-init
loop-at-init c = record { begun = omega arith; known = groups-begin c.args.by_line c.args.spots.now c.requires }

pub loop-at-preserved : goal.loop-at-preserved
loop-at-preserved c =
    let by_line = c.args.by_line in
    let spots = c.args.spots.now in
    let at = c.loop-at.at in
    let a = c.index-spots-at.result in
    let b = c.index-spots-at-in-loop-at.result in
    let begun = c.loop-at.invariant.begun in
    let yes : c.are_alike.result ≡ true = search (rules, tests) in
    let same =
    same-alike by_line spots at a b a c.index-spots-at.is c.index-spots-at-in-loop-at.is begun c.loop-at-test.true c.are_alike.result c.are_alike.ensures ∙ yes in
    let more = groups-more by_line spots at a begun c.loop-at-test.true same c.loop-at.invariant.known in
    let next : at + 1 - 1 ≡ at = omega arith in
    record { begun = omega arith; known = rw next more }

pub returns-clause-groups : goal.returns-clause-groups
returns-clause-groups c =
    let all : c.loop-at.at ≡ length c.args.spots.now = omega arith in
    let last = groups-end c.args.by_line c.args.spots.now c.loop-at.at (record { file = []; line = 0; slot = 0 }) c.loop-at.invariant.begun all c.loop-at.invariant.known in
    rw all at last
