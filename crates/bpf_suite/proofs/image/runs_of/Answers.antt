use Rattle.std.proofs.Common.{ℕ, ◌≡◌, ◌+◌, length, take, Some, refl, sym, ap, subst, ◌∙◌}
use Rattle.std.specs.Prelude.{option_map, slice_get}
use Rattle.std.proofs.lemmas.Option.{slice_get-map, slice_get_read}
use Rattle.bpf_steps.specs.Regions.{maps_len}
use Rattle.bpf_suite.specs.Asks.{least_maps, least_of}
use Rattle.bpf_suite.specs.Images.{Holds}
use Rattle.bpf_suite.proofs.Images.{maps_len-next}
use Rattle.bpf_suite.proofs.image.runs_of.Goals as goal

pub loop-map-preserved : goal.loop-map-preserved
loop-map-preserved c = λ bytes shows.
    let asks = c.args.asks.now in
    let maps = least_maps asks in
    let k = c.loop-map.map in
    let ask = c.index-asks-map.result in
    let here : slice_get maps k ≡ Some (least_of ask) =
    slice_get-map least_of asks k ∙ ap (option_map least_of) (slice_get_read asks (length asks) k ask refl c.loop-map-test.true c.index-asks-map.is) in
    let next : maps_len (take k maps) + c.least_len-len.result ≡ maps_len (take (k + 1) maps) =
    ap (λ (n : ℕ). maps_len (take k maps) + n) c.least_len-len.ensures ∙ sym (maps_len-next k maps (least_of ask) here) in
    subst (λ (n : ℕ). Holds maps bytes c.push_map.new.runs.items n) next
    (c.in_ok-push_map.ensures maps bytes (least_of ask) shows here (sym c.least_len-len.ensures) (c.loop-map.invariant bytes shows))
