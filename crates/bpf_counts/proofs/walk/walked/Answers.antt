use Rattle.std.proofs.Common.{◌≡◌, ◌<◌, ◌+◌, ◌∙◌, ℕ, Bool, false, List, Option, Some, length, add-one, ap, arith, sym, subst}
use Rattle.std.specs.Prelude.{if◌then◌else◌}
use Rattle.bpf_btf.specs.Types.{behind, place}
use Rattle.bpf_counts.specs.Walks.{is_maps, maps_place}
use Rattle.bpf_counts.proofs.walk.walked.Goals as goal

-- the place behind a type's, and what is found up to it
next_place : (types : List ℕ) (n at next : ℕ) → at ≡ place types n → next ≡ behind types at → next ≡ place types (n + 1)
next_place types n at next stands goes = goes ∙ (ap (behind types) stands ∙ ap (place types) (sym (add-one n)))

abbrev step : List ℕ → List ℕ → ℕ → Bool → Option ℕ
step types strings n b = if b then Some (place types n) else maps_place types strings n

found_more : (types strings : List ℕ) (n at : ℕ) (new : Option ℕ) (b : Bool) → at ≡ place types n → b ≡ is_maps types strings at
    → new ≡ step types strings n b → new ≡ maps_place types strings (n + 1)
found_more types strings n at new b stands is made =
    made ∙ (ap (step types strings n) (is ∙ ap (is_maps types strings) stands) ∙ ap (maps_place types strings) (sym (add-one n)))

pub loop-at-preserved : goal.loop-at-preserved
loop-at-preserved c =
    let known = c.loop-at.invariant in
    record {
      inside = c.in-Ok.ensures.within.1;
      place = next_place c.args.types.now c.loop-at.walk.count c.loop-at.at c.in-Ok.next known.place c.in-Ok.ensures.ok;
      maps = found_more c.args.types.now c.args.strings.now c.loop-at.walk.count c.loop-at.at c.loop-at.walk.maps false known.place
          (sym c.if-is_maps.false ∙ c.is_maps.ensures) known.maps;
      few = omega (arith, c.in-Ok.ensures.within.0, known.few);
      found = known.found;
    }

pub returns-in-Err-clause-err : goal.returns-in-Err-clause-err
returns-in-Err-clause-err c =
    let types = c.args.types.now in
    let known = c.loop-at.invariant in
    record {
      n = c.loop-at.walk.count;
      begins = subst (λ at. at < length types) known.place c.loop-at-test.true;
      cut = subst (λ at. length types < behind types at) known.place c.in-Err.ensures.err;
    }
