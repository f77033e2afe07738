use Rattle.std.proofs.Common.{arith, sym, ap, ◌∙◌, ◌-◌, ◌/◌, ◌%◌, List}
use Rattle.std.specs.Prelude.{slice_get}
use Rattle.bpf_steps.specs.declared.map_layout.MapSpan.{MapSpan}
use Rattle.bpf_steps.proofs.Spans.{are_few, found_at, fits_at, maps_past}
use Rattle.bpf_steps.proofs.map_layout.MapLayout.index.Goals as goal

pub returns-in-Some-clause-value : goal.returns-in-Some-clause-value
returns-in-Some-clause-value c =
    let here = ap (λ (ps : List MapSpan). slice_get ps ((c.args.address - 12884901888) / 1048576)) (sym c.as_slice.ensures.value) ∙ sym c.span_of.ensures ∙ c.in-Some.is in
    rw (← c.self.view_is) (found_at c.self.inside.spans.items c.in-Some.span ((c.args.address - 12884901888) / 1048576) ((c.args.address - 12884901888) % 1048576) _ _ c.index_at.result c.self.invariant.laid here (omega arith) (omega arith) c.index_at.ensures.found c.index_at.ensures.none)

pub returns-in-Some-clause-fits : goal.returns-in-Some-clause-fits
returns-in-Some-clause-fits c =
    let here = ap (λ (ps : List MapSpan). slice_get ps ((c.args.address - 12884901888) / 1048576)) (sym c.as_slice.ensures.value) ∙ sym c.span_of.ensures ∙ c.in-Some.is in
    rw (← c.self.view_is) (fits_at c.self.inside.spans.items c.in-Some.span ((c.args.address - 12884901888) / 1048576) ((c.args.address - 12884901888) % 1048576) _ c.index_at.result c.self.invariant.laid here c.index_at.ensures.found)

pub returns-in-None-clause-value : goal.returns-in-None-clause-value
returns-in-None-clause-value c =
    let here = ap (λ (ps : List MapSpan). slice_get ps ((c.args.address - 12884901888) / 1048576)) (sym c.as_slice.ensures.value) ∙ sym c.span_of.ensures ∙ c.in-None.is in
    rw (← c.self.view_is) (sym (maps_past 0 0 c.self.inside.spans.items ((c.args.address - 12884901888) / 1048576) ((c.args.address - 12884901888) % 1048576) _ _ c.self.invariant.laid here (omega arith)))

pub returns-in-Some-clause-few : goal.returns-in-Some-clause-few
returns-in-Some-clause-few c = rw (← c.self.view_is) (are_few _ c.self.invariant.tables)

pub returns-in-None-clause-few : goal.returns-in-None-clause-few
returns-in-None-clause-few c = rw (← c.self.view_is) (are_few _ c.self.invariant.tables)
