use Rattle.std.proofs.Common.{ℕ, ◌≡◌, ◌<◌, true, List, Option, Some, refl, sym, ap, subst, ◌∙◌, arith}
use Rattle.std.specs.Prelude.{IsSome, slice_get}
use Rattle.bpf_isa.specs.Programs.{Checked}
use Rattle.bpf_isa.specs.declared.maps.MapShape.{MapShape}
use Rattle.bpf_machine.specs.Edits.{has_cell}
use Rattle.bpf_steps.specs.Platform.{cell_address}
use Rattle.bpf_steps.specs.Regions.{index_of}
use Rattle.bpf_machine.proofs.Cells.{cell_is_there, cell_present}
use Rattle.bpf_suite.proofs.values.cell_size.Goals as goal

pub returns-then-index-from-clause-present : goal.returns-then-index-from-clause-present
returns-then-index-from-clause-present c =
    let x = c.args.cpu.now in
    let map = c.args.map in
    let index = c.args.index in
    let shape = c.in-Some.shape in
    let found : slice_get x.program.maps map ≡ Some shape =
    ap (λ (p : Checked). slice_get p.maps map) (sym c.program.ensures) ∙ ap (λ (maps : List MapShape). slice_get maps map) (sym c.maps.ensures)
    ∙ sym c.shape.ensures ∙ c.in-Some.is in
    let low : index < shape.entries = let less = c.if-index-from.true in let same = c.from.ensures in omega (arith, less, same) in
    let able : has_cell (slice_get x.program.maps map) index shape.value_size ≡ true =
    subst (λ (cell : Option MapShape). has_cell cell index shape.value_size ≡ true) (sym found) (cell_is_there shape index shape.value_size low refl) in
    subst (λ (n : ℕ). IsSome (index_of x.memory (cell_address map index n) n)) (sym c.span_of.ensures)
    (cell_present x map index shape.value_size c.invariant.ensures able)
