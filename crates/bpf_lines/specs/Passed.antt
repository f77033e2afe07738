-- Scaffolding: what is said of a slot, by the last slots up to it that say something.
use Rattle.std.specs.Prelude.{◌<◌, IfSome, length}
use Rattle.bpf_link.specs.declared.parts.Part.{Part}
use Rattle.bpf_link.specs.declared.plan.Plan.{Plan}
use Rattle.bpf_lines.specs.Functions.{function_at}
use Rattle.bpf_lines.specs.LineInfo.{line_at}
use Rattle.bpf_lines.specs.Slots.{line_since, said_of}
use Rattle.bpf_lines.specs.declared.part_lines.PartLines.{PartLines}
use Rattle.bpf_lines.specs.declared.rows.Said.{Said}

-- They are slots of the part.
pub record AreLast (told : PartLines) (last : Said) : Type 0 where
  pub function : IfSome last.function (λ k. k < length told.functions.items)
  pub line : IfSome last.line (λ k. k < length told.lines.items)

abbrev pub said_by : Plan → Part → PartLines → Said → Said
said_by plan part told last = record {
  function = said_of (function_at plan part.section) last.function;
  line = line_since (line_at told.listed told.block) last.line last.function;
}
