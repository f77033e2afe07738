-- Scaffolding: what is read of sections once, for all tests that have them.
use Rattle.std.specs.Prelude.{ℕ, ◌≡◌, List, Option, Result}
use Rattle.bpf_isa.specs.declared.fault.MapFault.{MapFault}
use Rattle.bpf_isa.specs.declared.maps.MapShape.{MapShape}
use Rattle.bpf_suite.specs.Bodies.{solid}
use Rattle.bpf_suite.specs.Cells.{cell_lines}
use Rattle.bpf_suite.specs.Regs.{last_lines}
use Rattle.bpf_suite.specs.Tables.{IsTable}
use Rattle.bpf_suite.specs.Tests.{body_for, context as context_of, expected as expected_of, limit as limit_of, maps as maps_of, program as program_of, regs as regs_of}
use Rattle.bpf_suite.specs.declared.cells.CellLine.{CellLine}
use Rattle.bpf_suite.specs.declared.expected.Expectation.{Expectation}
use Rattle.bpf_suite.specs.declared.kind.Part.TheVariants as part
use Rattle.bpf_suite.specs.declared.regs.RegLine.{RegLine}
use Rattle.bpf_suite.specs.declared.section.Section.{Section}

-- These are read of sections: maps and their table, a program, a context, lines about cells and registers, and the
-- most steps.
pub record IsReading (sections : List Section) (named : Option (List ℕ)) (shapes : Result (List MapShape) MapFault)
    (listed given : List ℕ) (lines : List CellLine) (set : List RegLine) (most : ℕ) : Type 0 where
  pub maps : named ≡ maps_of sections
  pub table : IsTable named shapes
  pub program : listed ≡ program_of sections
  pub context : given ≡ context_of sections
  pub cells : lines ≡ cell_lines (body_for part.Cells sections)
  pub regs : set ≡ last_lines (regs_of sections)
  pub limit : most ≡ limit_of sections

-- And these of what they expect: an outcome, and the digits of what the context is to be at the end.
pub record AreExpected (sections : List Section) (wanted : Option Expectation) (digits : List ℕ) : Type 0 where
  pub outcome : wanted ≡ expected_of sections
  pub after : digits ≡ solid (body_for part.After sections)
