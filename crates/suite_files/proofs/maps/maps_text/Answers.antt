use Rattle.std.proofs.Common.{◌++◌, ◌∙◌, Some, ap}
use Rattle.counted_io.proofs.Appending.{Writes-none}
use Rattle.suite_files.specs.Maps.{maps_text}
use Rattle.suite_files.proofs.maps.maps_text.Goals as goal

pub returns-in-Ok : goal.returns-in-Ok
returns-in-Ok c =
    let wrote = rw c.in-Ok.is at (c.put_maps.ensures _ _ (Writes-none (λ v. Some v.items) c.new-writer.result _)) in
    ap (λ v. v.items) c.into_inner.ensures ∙ wrote.ok ∙ ap (λ w. w.inner.items ++ maps_text c.args.shapes.now) c.new-writer.ensures
    ∙ ap (λ items. items ++ maps_text c.args.shapes.now) c.new.ensures.items
