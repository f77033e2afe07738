use Rattle.std.proofs.Common.{◌∙◌, ◌++◌, [], ap}
use Rattle.std.specs.Prelude.{if◌then◌else◌}
use Rattle.bpf_link.specs.Shapes.{is_unknown}
use Rattle.bpf_link.proofs.shapes.all_shapes.Goals as goal

pub returns-then-is_unknown-clause-ok : goal.returns-then-is_unknown-clause-ok
returns-then-is_unknown-clause-ok c =
    let own = c.in-Ok.own.items in
    let unknown = c.if-is_unknown.ensures ∙ ap (is_unknown c.args.maps.now) c.as_slice.ensures.value in
    (own, c.in-Ok.ensures.ok, c.new.ensures ∙ ap (λ b. if b then [] else own ++ c.args.others.now) unknown)

pub returns-clause-ok : goal.returns-clause-ok
returns-clause-ok c =
    let own = c.in-Ok.own.items in
    let known = c.if-is_unknown.ensures ∙ ap (is_unknown c.args.maps.now) c.as_slice.ensures.value in
    (own, c.in-Ok.ensures.ok, c.with_data.ensures ∙ ap (λ b. if b then [] else own ++ c.args.others.now) known)
