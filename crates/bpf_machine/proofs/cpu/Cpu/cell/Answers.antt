use Rattle.std.proofs.Common.{subst, sym, ℕ}
use Rattle.std.specs.Prelude.{IsSome}
use Rattle.bpf_steps.specs.Regions.{index_of}
use Rattle.bpf_machine.proofs.Cells.{cell_limits, cell_present}
use Rattle.bpf_machine.proofs.cpu.Cpu.cell.Goals as goal

pub cell_address-requires : goal.cell_address-requires
cell_address-requires c =
    let limits = cell_limits c.args.self.now c.args.map c.args.index c.args.n c.invariant.ensures c.requires in
    (limits.0, limits.1, limits.3)

pub returns-clause-present : goal.returns-clause-present
returns-clause-present c =
    subst (λ (a : ℕ). IsSome (index_of c.args.self.now.memory a c.args.n)) (sym c.cell_address.ensures) (cell_present c.args.self.now c.args.map c.args.index c.args.n c.invariant.ensures c.requires)
