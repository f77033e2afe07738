use Rattle.std.proofs.Common.{◌≡◌, List, Some, None, sym, ap, ◌∙◌}
use Rattle.std.specs.Prelude.{slice_get}
use Rattle.bpf_isa.specs.Programs.{Checked}
use Rattle.bpf_isa.specs.declared.maps.MapShape.{MapShape}
use Rattle.bpf_suite.proofs.Endings.{shapes-next}
use Rattle.bpf_suite.proofs.Images.{no-map}
use Rattle.bpf_suite.proofs.ending.push_shape.Goals as goal

pub returns-in-Ok : goal.returns-in-Ok
returns-in-Ok c =
    let maps = c.maps.ensures ∙ ap (λ (p : Checked). p.maps) c.program.ensures in
    let here : slice_get c.args.cpu.now.program.maps c.args.map ≡ Some c.in-Some.shape =
    ap (λ (ms : List MapShape). slice_get ms c.args.map) (sym maps) ∙ sym c.shape.ensures ∙ c.in-Some.is in
    shapes-next c.args.cpu.now.program.maps c.args.shapes.now.items c.push.new.self.items c.args.map c.in-Some.shape here c.in-Ok.ensures.items

pub returns-in-None : goal.returns-in-None
returns-in-None c =
    let maps = c.maps.ensures ∙ ap (λ (p : Checked). p.maps) c.program.ensures in
    let none : slice_get c.args.cpu.now.program.maps c.args.map ≡ None =
    ap (λ (ms : List MapShape). slice_get ms c.args.map) (sym maps) ∙ sym c.shape.ensures ∙ c.in-None.is in
    absurd (no-map c.args.cpu.now.program.maps c.args.map c.requires none)
