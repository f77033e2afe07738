use Rattle.std.proofs.Common.{◌+◌, ◌*◌, ◌++◌, ◌∷◌, [], List, subst, sym}
use Rattle.bpf_isa.specs.declared.maps.MapShape.{MapShape}
use Rattle.bpf_isa.specs.Maps.{AreMaps}
use Rattle.bpf_steps.specs.declared.map_layout.MapSpan.{MapSpan}
use Rattle.bpf_steps.proofs.Spans.{AreSpans, more_spans, more_fits}
use Rattle.bpf_steps.proofs.map_layout.MapLayout.add.Goals as goal

pub overflow_add-self : goal.overflow_add-self
overflow_add-self c =
    let tables = subst (λ (ms : List MapShape). AreMaps (ms ++ c.args.shape ∷ [])) (sym c.self.view_is) c.requires in
    record { fits = more_fits c.self.inside.spans.items c.args.shape c.self.inside.len tables c.self.invariant.whole }

pub invariant_of-self : goal.invariant_of-self
invariant_of-self c =
    let tables = subst (λ (ms : List MapShape). AreMaps (ms ++ c.args.shape ∷ [])) (sym c.self.view_is) c.requires in
    let more = more_spans c.self.inside.spans.items c.args.shape c.self.inside.len tables c.self.invariant.laid c.self.invariant.whole in
    let all = subst (λ (ps : List MapSpan). AreSpans ps (c.self.inside.len + c.args.shape.value_size * c.args.shape.entries)) (sym c.push.ensures.items) more in
    record { tables = all.tables; laid = all.laid; whole = all.whole }
