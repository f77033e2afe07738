use Rattle.std.proofs.Common.{◌≡◌, ◌++◌, ◌∙◌, Option, Some, [], ap, sym}
use Rattle.std.specs.Option.{option_map_or}
use Rattle.std.specs.Prelude.{slice_get}
use Rattle.bpf_isa.specs.declared.maps.MapShape.{MapShape}
use Rattle.counted_io.proofs.Appending.{Writes-text}
use Rattle.bpf_load.specs.declared.loading.LinkedObject.{LinkedObject}
use Rattle.bpfdb_jobs.specs.Programs.{map_row, name_in, name_of}
use Rattle.bpfdb_jobs.proofs.load.put_row.Goals as goal

pub put_map-requires : goal.put_map-requires
put_map-requires g c = c.requires

pub returns-in-Some : goal.returns-in-Some
returns-in-Some g c = λ first front known.
    let loaded = c.args.loaded.now in
    let number = c.args.number in
    let is : slice_get loaded.program.maps number ≡ Some c.in-Some.shape =
    ap (λ maps. slice_get maps number) (sym c.maps.ensures) ∙ sym c.shape.ensures ∙ c.in-Some.is in
    Writes-text g.W.Write.contents _ _ _ _ _ (rw (c.name_in-name.ensures ∙ ap (λ (o : Option LinkedObject). name_in o number) c.as_ref.ensures.value) at (c.put_map.ensures first front known))
    (ap (λ (o : Option MapShape). front ++ option_map_or (λ shape. map_row number shape (name_of loaded number)) o []) (sym is))
