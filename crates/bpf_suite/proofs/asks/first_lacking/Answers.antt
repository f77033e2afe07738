use Rattle.std.proofs.Common.{length, refl, sym, ◌∙◌}
use Rattle.std.proofs.lemmas.Option.{slice_get_read}
use Rattle.bpf_suite.proofs.Asking.{first-begin, first-more}
use Rattle.bpf_suite.proofs.asks.first_lacking.Goals as goal

pub loop-map-init : goal.loop-map-init
loop-map-init c = λ lines asked. sym (first-begin c.args.maps.now lines 0)

pub loop-map-preserved : goal.loop-map-preserved
loop-map-preserved c = λ lines asked.
    let asks = c.args.asks.now in
    let k = c.loop-map.map in
    let ask = c.index-asks-map.result in
    c.sooner-first.ensures
    ∙ first-more c.args.maps.now lines asks ask k c.loop-map.first c.spot_for.result c.shape-shape.result c.len-few.ensures.fits asked
    (slice_get_read asks (length asks) k ask refl c.loop-map-test.true c.index-asks-map.is) (c.loop-map.invariant lines asked) c.spot_for.ensures c.shape-shape.ensures
