use Rattle.std.proofs.Common.{◌≡◌, ◌≤◌, ◌∙◌, length, arith, refl, sym, ap}
use Rattle.bpf_origin.specs.declared.place.Place.{Place}
use Rattle.std.specs.Prelude.{List, Option}
use Rattle.bpf_isa.specs.declared.maps.MapShape.{MapShape}
use Rattle.bpf_diff.proofs.Leaving.{among_maps, longest-len, maps-first, maps-none, maps-past, test_of}
use Rattle.bpf_diff.specs.Seen.{longest, longest_maps}
use Rattle.bpf_diff.proofs.seen.first_of_maps.Goals as goal

pub loop-i-init : goal.loop-i-init
loop-i-init c = refl

pub returns-in-Some : goal.returns-in-Some
returns-in-Some c =
    let sides = c.args.sides.now in
    let whole : longest c.maps-one.result.now c.maps-other.result.now ≡ longest_maps sides.first.now sides.second.now = rw (c.maps-one.ensures, c.maps-other.ensures, c.program.ensures, c.program-2.ensures) refl in
    maps-first (test_of sides) c.loop-i.i _ _ c.in-Some.place c.longest_at.ensures (sym c.in-Some.is ∙ c.first_of_map.ensures)
    ∙ c.loop-i.invariant
    ∙ ap (λ (ms : List MapShape). among_maps sides 0 ms) whole

pub loop-i-preserved : goal.loop-i-preserved
loop-i-preserved c =
    maps-past (test_of c.args.sides.now) c.loop-i.i _ _ c.longest_at.ensures (sym c.in-None.is ∙ c.first_of_map.ensures) ∙ c.loop-i.invariant

pub returns : goal.returns
returns c =
    let sides = c.args.sides.now in
    let fin = c.loop-i-test.false in
    let count = longest-len c.maps-one.result.now c.maps-other.result.now in
    let whole : longest c.maps-one.result.now c.maps-other.result.now ≡ longest_maps sides.first.now sides.second.now = rw (c.maps-one.ensures, c.maps-other.ensures, c.program.ensures, c.program-2.ensures) refl in
    sym (maps-none (test_of sides) c.loop-i.i _ (omega (arith, fin, count, c.greater-i-end.ensures, c.len.ensures.value, c.len-2.ensures.value)))
    ∙ c.loop-i.invariant
    ∙ ap (λ (ms : List MapShape). among_maps sides 0 ms) whole
